use Rattle.std.proofs.Common.{◌≡◌, take}
use Rattle.std.specs.List.{flat_map}
use Rattle.px_bytes.specs.Hexadecimal.{hex_pair}
use Rattle.px_bytes.proofs.hexadecimal.print_hex.Given as goal

abbrev pub invariant-loop-byte : goal.invariant-loop-byte
invariant-loop-byte l = l.out.items ≡ flat_map hex_pair (take l.byte-index l.bytes)
