use Rattle.std.proofs.Common.{◌≡◌, drop}
use Rattle.tcl_trees.specs.TreeView.{operands_view}
use Rattle.frame_loops.specs.Quick.{all_flat}
use Rattle.frame_loops.proofs.quick_codes.all_leafs.Given as goal

abbrev pub invariant-loop-operand : goal.invariant-loop-operand
invariant-loop-operand l = all_flat (operands_view (drop l.operand-index l.joints)) ≡ all_flat (operands_view l.joints)
