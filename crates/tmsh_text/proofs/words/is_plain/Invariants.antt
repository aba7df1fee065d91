use Rattle.std.proofs.Common.{◌≡◌, drop}
use Rattle.tmsh_text.specs.Words.{is_plain}
use Rattle.tmsh_text.proofs.words.is_plain.Given as goal

abbrev pub invariant-loop-byte : goal.invariant-loop-byte
invariant-loop-byte l = is_plain (drop l.byte-index l.text) ≡ is_plain l.text
