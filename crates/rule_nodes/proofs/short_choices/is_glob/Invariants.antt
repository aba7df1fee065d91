use Rattle.std.proofs.Common.{Bool, false, drop}
use Rattle.tcl_trees.specs.TreeView.{nodes_view}
use Rattle.rule_nodes.proofs.ShortChoices.{GlobIs}
use Rattle.rule_nodes.proofs.short_choices.is_glob.Given as goal

abbrev pub invariant-loop-option : goal.invariant-loop-option
invariant-loop-option l = (glob : Bool) → GlobIs l.glob (nodes_view (drop l.option-index l.options)) glob → GlobIs false (nodes_view l.options) glob
