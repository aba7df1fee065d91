-- There is one unit at the front of what is held.
use Rattle.std.proofs.Common.{◌≡◌, ℕ, zero, suc, Bool, List, drop, sym, ap, ◌∙◌}
use Rattle.http_frames.specs.ChunkLines.{Crlf, crlf, line_of}
use Rattle.http_frames.specs.ChunkLines.Crlf.{There, Due, Other}
use Rattle.http_frames.specs.Units.{IsChunkUnit, IsEnd, IsUnit, IsUnitBehind, IsUnitOf, trailers_by}
use Rattle.http_frames.specs.declared.chunk_line.Line.{Line}
use Rattle.http_frames.specs.declared.chunk_line.Line.TheVariants as line
use Rattle.http_frames.specs.declared.state.BodyState.{BodyState}
use Rattle.http_frames.specs.declared.state.BodyState.TheVariants as state
use Rattle.http_frames.specs.declared.unit.Unit.{Unit}
use Rattle.seg_buffer.proofs.Places.{one_place}

module _ (held : List ℕ) (ended : Bool) (u v : Unit) where
  one_end : (at : ℕ) → IsEnd at held ended u → IsEnd at held ended v → u ≡ v
  one_end at a b = a.2 ∙ ap (λ p. trailers_by at (drop at held) p ended) (one_place (drop at held) a.0 b.0 a.1 b.1) ∙ sym b.2

  one_of : (before : ℕ) (l : Line) → IsUnitOf before l held ended u → IsUnitOf before l held ended v → u ≡ v
  one_of before line.Begins a b = a ∙ sym b
  one_of before line.Never a b = a ∙ sym b
  one_of before (line.Whole size zero) a b = one_end _ a b
  one_of before (line.Whole size (suc more)) a b = a ∙ sym b

  one_behind : (c : Crlf) → IsUnitBehind c held ended u → IsUnitBehind c held ended v → u ≡ v
  one_behind Due a b = a ∙ sym b
  one_behind Other a b = a ∙ sym b
  one_behind (There rest) a b = one_of 2 (line_of (drop 2 held)) a b

  one_chunk : (left : ℕ) → IsChunkUnit left held ended u → IsChunkUnit left held ended v → u ≡ v
  one_chunk zero a b = one_behind (crlf held) a b
  one_chunk (suc left) a b = a ∙ sym b

  pub one_unit : (s : BodyState) → IsUnit s held ended u → IsUnit s held ended v → u ≡ v
  one_unit (state.Left left) a b = a ∙ sym b
  one_unit state.FirstLine a b = one_of 0 (line_of held) a b
  one_unit (state.Chunk left) a b = one_chunk left a b
  one_unit state.NextLine a b = one_behind (crlf held) a b
  one_unit state.ToEnd a b = a ∙ sym b
