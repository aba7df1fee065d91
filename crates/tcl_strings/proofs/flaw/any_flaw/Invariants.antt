use Rattle.std.proofs.Common.{◌≡◌, length}
use Rattle.std.specs.List.{list_any}
use Rattle.tcl_strings.specs.Field.{fields_left}
use Rattle.tcl_strings.specs.FormatCommand.{has_flaw}
use Rattle.tcl_strings.proofs.flaw.any_flaw.Given as goal

abbrev pub invariant-loop-next : goal.invariant-loop-next
invariant-loop-next l =
    list_any (has_flaw l.fn.flaw) (fields_left l.left) ≡ list_any (has_flaw l.fn.flaw) (fields_left l.fn.rest)

abbrev pub decreases-loop-next : goal.decreases-loop-next
decreases-loop-next l = length l.left.format.now
