use Rattle.std.proofs.Common.{ℕ, ◌-◌, ◌/◌, ◌≤◌, drop}
use Rattle.px_bytes.specs.Limit.{text_limit}
use Rattle.tcl_trees.specs.TreeView.{nodes_view}
use Rattle.rule_nodes.specs.AtOnce.{AreLiterals}
use Rattle.rule_nodes.proofs.short_choices.are_literals.Given as goal

abbrev pub invariant-loop-word : goal.invariant-loop-word
invariant-loop-word l = record {
  are : (cost : ℕ) → AreLiterals (nodes_view (drop l.word-index l.words)) (text_limit / 4 - l.total) l.work.cost cost
      → AreLiterals (nodes_view l.words) (text_limit / 4) l.fn.work.cost cost;
  few : l.total ≤ text_limit / 4;
}
