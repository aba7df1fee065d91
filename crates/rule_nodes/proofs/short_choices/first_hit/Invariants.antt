use Rattle.std.proofs.Common.{◌≡◌, ◌+◌, List, ℕ, Some, length}
use Rattle.tcl_trees.specs.TreeView.{nodes_view}
use Rattle.rule_model.specs.Control.{first_hit}
use Rattle.rule_nodes.specs.AtOnce.{literals}
use Rattle.rule_nodes.proofs.ShortChoices.{HitsLeft}
use Rattle.rule_nodes.proofs.short_choices.first_hit.Given as goal

abbrev pub invariant-loop-rest : goal.invariant-loop-rest
invariant-loop-rest l = record {
  left : (texts : List (List ℕ)) → literals (nodes_view l.patterns) ≡ Some texts
      → HitsLeft l.by_glob l.text (nodes_view l.rest) l.at (first_hit l.by_glob l.text texts);
  count : l.at + length l.rest ≡ length l.patterns;
}

abbrev pub decreases-loop-rest : goal.decreases-loop-rest
decreases-loop-rest l = length l.rest
