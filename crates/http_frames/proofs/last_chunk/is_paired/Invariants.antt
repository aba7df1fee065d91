use Rattle.std.proofs.Common.{◌≡◌, drop}
use Rattle.http_frames.specs.Units.{is_paired}
use Rattle.http_frames.proofs.last_chunk.is_paired.Given as goal

abbrev pub invariant-loop-byte : goal.invariant-loop-byte
invariant-loop-byte l = is_paired l.after (drop l.byte-index l.text) ≡ is_paired l.behind l.text
