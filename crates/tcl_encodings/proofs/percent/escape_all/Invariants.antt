use Rattle.std.proofs.Common.{◌≡◌, take}
use Rattle.tcl_encodings.specs.Percent.{escaped}
use Rattle.tcl_encodings.proofs.percent.escape_all.Given as goal

abbrev pub invariant-loop-byte : goal.invariant-loop-byte
invariant-loop-byte l = l.out.items ≡ escaped (take l.byte-index l.bytes)
