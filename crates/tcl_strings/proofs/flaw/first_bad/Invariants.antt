use Rattle.std.proofs.Common.{◌≡◌, length}
use Rattle.tcl_strings.specs.Field.{fields_left}
use Rattle.tcl_strings.specs.FormatCommand.{first_bad}
use Rattle.tcl_strings.proofs.flaw.first_bad.Given as goal

abbrev pub invariant-loop-next : goal.invariant-loop-next
invariant-loop-next l = first_bad (fields_left l.left) ≡ first_bad (fields_left l.fn.rest)

abbrev pub decreases-loop-next : goal.decreases-loop-next
decreases-loop-next l = length l.left.format.now
