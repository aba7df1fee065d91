use Rattle.std.proofs.Common.{◌≡◌, ℕ, length, take}
use Rattle.px_bytes.specs.ByteSet.{has_byte, is_among}
use Rattle.px_bytes.proofs.set_of_bytes.byte_set.Given as goal

abbrev pub invariant-loop-byte : goal.invariant-loop-byte
invariant-loop-byte l = record {
  says : (byte : ℕ) → has_byte l.set byte ≡ is_among (take l.byte-index l.bytes) byte;
  size : length l.set ≡ 256;
}
