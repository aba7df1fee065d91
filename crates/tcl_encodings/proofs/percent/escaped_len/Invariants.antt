use Rattle.std.proofs.Common.{◌≡◌, length, min, take}
use Rattle.tcl_encodings.specs.Percent.{escaped}
use Rattle.tcl_encodings.proofs.percent.escaped_len.Given as goal

abbrev pub invariant-loop-byte : goal.invariant-loop-byte
invariant-loop-byte l = l.size ≡ min (length (escaped (take l.byte-index l.bytes))) 18446744073709551615
