use Rattle.std.proofs.Common.{◌≡◌, ◌+◌, drop}
use Rattle.std.specs.Char.{is_digit}
use Rattle.std.specs.List.{prefix_len}
use Rattle.tcl_lists.proofs.escape.digits.Given as goal

abbrev pub invariant-loop-at : goal.invariant-loop-at
invariant-loop-at l =
    l.at + prefix_len (λ byte. is_digit byte l.radix) (drop l.at l.text) ≡ prefix_len (λ byte. is_digit byte l.radix) l.text
