use Rattle.std.proofs.Common.{◌≡◌, ◌++◌, drop}
use Rattle.tmsh_text.specs.Words.{quoted_bytes}
use Rattle.tmsh_text.proofs.words.quoted_bytes.Given as goal

abbrev pub invariant-loop-byte : goal.invariant-loop-byte
invariant-loop-byte l = l.text ++ quoted_bytes (drop l.byte-index l.bytes) ≡ quoted_bytes l.bytes
