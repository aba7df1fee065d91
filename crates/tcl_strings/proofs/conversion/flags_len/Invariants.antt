use Rattle.std.proofs.Common.{◌≡◌, ◌+◌, drop}
use Rattle.std.specs.List.{prefix_len}
use Rattle.tcl_strings.specs.Conversion.{is_flag}
use Rattle.tcl_strings.proofs.conversion.flags_len.Given as goal

abbrev pub invariant-loop-at : goal.invariant-loop-at
invariant-loop-at l = l.at + prefix_len is_flag (drop l.at l.text) ≡ prefix_len is_flag l.text
