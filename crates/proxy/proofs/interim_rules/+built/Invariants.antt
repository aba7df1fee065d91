use Rattle.std.proofs.Common.{◌≡◌, drop}
use Rattle.proxy.specs.HostCommands.{may_all_stand, names_in_all, names_in_operands, names_in_values}
use Rattle.tcl_trees.specs.Tree.{operands_of, trees_of, values_of}
use Rattle.tcl_trees.specs.TreeView.{nodes_view, operands_view, values_view}
use Rattle.proxy.proofs.interim_rules.+built.Given as goal

abbrev pub invariant-nodes_are_built-loop-node : goal.invariant-nodes_are_built-loop-node
invariant-nodes_are_built-loop-node l =
    may_all_stand l.http (names_in_all (trees_of (nodes_view l.nodes)))
    ≡ may_all_stand l.http (names_in_all (trees_of (nodes_view (drop l.node-index l.nodes))))

abbrev pub invariant-operands_are_built-loop-operand : goal.invariant-operands_are_built-loop-operand
invariant-operands_are_built-loop-operand l =
    may_all_stand l.http (names_in_operands (operands_of (operands_view l.operands)))
    ≡ may_all_stand l.http (names_in_operands (operands_of (operands_view (drop l.operand-index l.operands))))

abbrev pub invariant-values_are_built-loop-condition : goal.invariant-values_are_built-loop-condition
invariant-values_are_built-loop-condition l =
    may_all_stand l.http (names_in_values (values_of (values_view l.values)))
    ≡ may_all_stand l.http (names_in_values (values_of (values_view (drop l.condition-index l.values))))
