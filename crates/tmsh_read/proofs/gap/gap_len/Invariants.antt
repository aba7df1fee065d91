use Rattle.std.proofs.Common.{◌≡◌, ◌+◌, drop}
use Rattle.tmsh_read.specs.Tokens.{gap_len}
use Rattle.tmsh_read.proofs.gap.gap_len.Given as goal

abbrev pub invariant-loop-byte : goal.invariant-loop-byte
invariant-loop-byte l = (l.len + gap_len l.gap (drop l.byte-index l.bytes) ≡ gap_len l.initial.gap l.bytes) × (l.len ≡ l.byte-index)
