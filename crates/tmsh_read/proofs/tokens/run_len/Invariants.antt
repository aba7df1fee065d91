use Rattle.std.proofs.Common.{◌≡◌, ◌+◌, drop}
use Rattle.tmsh_read.specs.Tokens.{run_len}
use Rattle.tmsh_read.proofs.tokens.run_len.Given as goal

abbrev pub invariant-loop-byte : goal.invariant-loop-byte
invariant-loop-byte l = (l.len + run_len (drop l.byte-index l.bytes) ≡ run_len l.bytes) × (l.len ≡ l.byte-index)
