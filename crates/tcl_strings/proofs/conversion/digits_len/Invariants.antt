use Rattle.std.proofs.Common.{◌≡◌, ◌+◌, drop}
use Rattle.std.specs.List.{prefix_len}
use Rattle.tcl_strings.specs.Conversion.{is_digit_byte}
use Rattle.tcl_strings.proofs.conversion.digits_len.Given as goal

abbrev pub invariant-loop-at : goal.invariant-loop-at
invariant-loop-at l = l.at + prefix_len is_digit_byte (drop l.at l.text) ≡ prefix_len is_digit_byte l.text
