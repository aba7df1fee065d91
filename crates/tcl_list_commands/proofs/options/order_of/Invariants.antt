use Rattle.std.proofs.Common.{◌≡◌, Some, drop}
use Rattle.tcl_list_commands.specs.Options.{order_by, plain}
use Rattle.tcl_list_commands.proofs.options.order_of.Given as goal

abbrev pub invariant-loop-option : goal.invariant-loop-option
invariant-loop-option l = order_by (Some l.order) (drop l.option-index l.options) ≡ order_by (Some plain) l.options
