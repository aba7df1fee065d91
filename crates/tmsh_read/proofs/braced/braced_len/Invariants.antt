use Rattle.std.proofs.Common.{◌≡◌, ◌+◌, ◌≤◌, drop}
use Rattle.std.specs.Prelude.{option_map}
use Rattle.tmsh_read.specs.Braced.{braced_len, none_open}
use Rattle.tmsh_read.proofs.braced.braced_len.Given as goal

abbrev pub invariant-loop-byte : goal.invariant-loop-byte
invariant-loop-byte l = (option_map (λ n. l.len + n) (braced_len l.braces (drop l.byte-index l.bytes)) ≡ braced_len none_open l.bytes) × (l.len ≡ l.byte-index) × (l.braces.depth ≤ l.byte-index)
