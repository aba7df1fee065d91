use Rattle.std.proofs.Common.{◌≡◌, length}
use Rattle.px_bytes.specs.ByteSet.{has_byte}
use Rattle.tcl_strings.specs.Trim.{trimmed_right}
use Rattle.tcl_strings.proofs.trim.without_end.Given as goal

abbrev pub invariant-loop-rest : goal.invariant-loop-rest
invariant-loop-rest l = trimmed_right (has_byte l.fn.set) l.rest ≡ trimmed_right (has_byte l.fn.set) l.fn.text

abbrev pub decreases-loop-rest : goal.decreases-loop-rest
decreases-loop-rest l = length l.rest
