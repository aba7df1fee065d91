use Rattle.std.proofs.Common.{◌≡◌, get_or, []}
use Rattle.tcl_strings.specs.Fields.{fields}
use Rattle.tcl_strings.proofs.getfield_command.field.Given as goal

abbrev pub invariant-loop-left : goal.invariant-loop-left
invariant-loop-left l =
    get_or (fields l.fn.separator l.rest) l.left [] ≡ get_or (fields l.fn.separator l.fn.text) l.fn.before []

abbrev pub decreases-loop-left : goal.decreases-loop-left
decreases-loop-left l = l.left
