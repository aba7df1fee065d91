use Rattle.std.proofs.Common.{ℕ, ℤ, ◌*◌, ◌+◌, ◌≤◌, drop, option_map}
use Rattle.tcl_trees.specs.Tree.{operands_of}
use Rattle.tcl_trees.specs.TreeView.{operands_view}
use Rattle.rule_nodes.proofs.WholeRows.{Joins}
use Rattle.rule_nodes.proofs.whole_rows.+whole.Given as goal

-- what an operand holds has one room less
abbrev pub decreases-whole_of : goal.decreases-whole_of
decreases-whole_of l = 2 * l.room

abbrev pub decreases-joined : goal.decreases-joined
decreases-joined l = 2 * l.room + 1

abbrev pub invariant-joined-loop-joint : goal.invariant-joined-loop-joint
invariant-joined-loop-joint l = record {
  joins : let level = option_map (λ v. v.now.statics) l.statics in
      (n : ℤ) (new : ℕ) → Joins level l.vars (operands_of (operands_view (drop l.joint-index l.rest))) l.left l.work.cost new n
      → Joins level l.vars (operands_of (operands_view l.rest)) l.first l.fn.work.cost new n;
  fewer : l.work.operators ≤ l.fn.work.operators;
}
