use Rattle.std.proofs.Common.{◌≡◌, ◌%◌, drop}
use Rattle.std.specs.Str.Parse.{digits_value, digits_value_after}
use Rattle.tcl_lists.proofs.escape.digits_byte.Given as goal

abbrev pub invariant-loop-byte : goal.invariant-loop-byte
invariant-loop-byte l =
    digits_value_after l.radix l.value (drop l.byte-index l.text) % 256 ≡ digits_value l.radix l.text % 256
