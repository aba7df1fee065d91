-- Every cutting of a stream has units.
use Rattle.std.proofs.Common.{ℕ, zero, suc, ◌+◌, ◌<◌, Bool, List, [], ◌∷◌, ◌++◌, length, drop, refl, arith}
use Rattle.std.specs.List.{concat}
use Rattle.std.proofs.lemmas.List.{length-append, length-drop}
use Rattle.px_bytes.specs.declared.fault.HttpFault.TheVariants.{BadChunk}
use Rattle.http_frames.specs.ChunkLines.{Crlf, crlf, line_of}
use Rattle.http_frames.specs.ChunkLines.Crlf.{There, Due, Other}
use Rattle.http_frames.specs.Cuttings.{AreUnits, CutsAreRead, at_end}
use Rattle.http_frames.specs.States.{after_unit}
use Rattle.http_frames.specs.Units.{IsChunkUnit, IsEnd, IsUnit, IsUnitBehind, IsUnitOf, left_unit, piece, to_end, trailers_by, waits}
use Rattle.http_frames.specs.declared.chunk_line.Line.{Line}
use Rattle.http_frames.specs.declared.chunk_line.Line.TheVariants as line
use Rattle.http_frames.specs.declared.state.BodyState.{BodyState}
use Rattle.http_frames.specs.declared.state.BodyState.TheVariants as state
use Rattle.http_frames.specs.declared.unit.Unit.{Unit}
use Rattle.http_frames.specs.declared.unit.Unit.TheVariants.{Piece, ChunkLine, Finished, NotYet, Fault}
use Rattle.seg_buffer.proofs.Places.{a_place}
use Rattle.http_frames.proofs.Taken.{Inside, inside}

abbrev Some : (Unit → Type 0) → Type 0
Some P = (u : Unit) × P u

module _ (held : List ℕ) (ended : Bool) where
  some_end : (at : ℕ) → Some (IsEnd at held ended)
  some_end at = let there = a_place (drop at held) in (trailers_by at (drop at held) there.0 ended, (there.0, there.1, refl))

  some_of : (before : ℕ) (l : Line) → Some (IsUnitOf before l held ended)
  some_of before line.Begins = (waits ended, refl)
  some_of before line.Never = (Fault BadChunk, refl)
  some_of before (line.Whole size zero) = some_end _
  some_of before (line.Whole size (suc more)) = (ChunkLine (before + size) (suc more), refl)

  some_behind : (c : Crlf) → Some (IsUnitBehind c held ended)
  some_behind Due = (waits ended, refl)
  some_behind Other = (Fault BadChunk, refl)
  some_behind (There rest) = some_of 2 (line_of (drop 2 held))

  some_chunk : (left : ℕ) → Some (IsChunkUnit left held ended)
  some_chunk zero = some_behind (crlf held)
  some_chunk (suc left) = (piece (suc left) held ended, refl)

  a_unit : (s : BodyState) → Some (IsUnit s held ended)
  a_unit (state.Left left) = (left_unit left held ended, refl)
  a_unit state.FirstLine = some_of 0 (line_of held)
  a_unit (state.Chunk left) = some_chunk left
  a_unit state.NextLine = some_behind (crlf held)
  a_unit state.ToEnd = (to_end held ended, refl)

abbrev Units : BodyState → List ℕ → List (List ℕ) → Bool → Type 0
Units s held fs ended = (us : List Unit) × AreUnits us s held fs ended

-- how much may still be read or added
abbrev left_over : List ℕ → List (List ℕ) → ℕ
left_over held fs = length held + (length (concat fs) + length fs)

-- what stands behind a unit, where all that is shorter has units
module _ (n : ℕ) (shorter : (s : BodyState) (held : List ℕ) (fs : List (List ℕ)) (ended : Bool) → left_over held fs < n → Units s held fs ended) where
  behind : (u : Unit) (s : BodyState) (held : List ℕ) (fs : List (List ℕ)) (ended : Bool) → left_over held fs < suc n → IsUnit s held (at_end ended fs) u → Inside held u → Units s held fs ended
  behind (Piece k) s held fs ended less is there =
      let rest = shorter (after_unit s (Piece k)) (drop k held) fs ended (omega (arith, less, there.within, there.some, length-drop k held)) in (Piece k ∷ rest.0, (is, rest.1))
  behind (ChunkLine k size) s held fs ended less is there =
      let rest = shorter (after_unit s (ChunkLine k size)) (drop k held) fs ended (omega (arith, less, there.within, there.some, length-drop k held)) in (ChunkLine k size ∷ rest.0, (is, rest.1))
  behind NotYet s held [] ended less is there = (NotYet ∷ [], (is, refl))
  behind NotYet s held (f ∷ fs) ended less is there =
      let rest = shorter s (held ++ f) fs ended (omega (arith, less, length-append held f, length-append f (concat fs))) in (NotYet ∷ rest.0, (is, rest.1))
  behind (Finished size) s held fs ended less is there = (Finished size ∷ [], (is, refl))
  behind (Fault g) s held fs ended less is there = (Fault g ∷ [], (is, refl))

all_of : (n : ℕ) (s : BodyState) (held : List ℕ) (fs : List (List ℕ)) (ended : Bool) → left_over held fs < n → Units s held fs ended
all_of zero s held fs ended less = absurd (omega (arith, less))
all_of (suc n) s held fs ended less =
    let first = a_unit held (at_end ended fs) s in
    behind n (all_of n) first.0 s held fs ended less first.1 (inside s held (at_end ended fs) first.0 first.1)

pub cuts_are_read : CutsAreRead
cuts_are_read s fragments ended = all_of (left_over [] fragments + 1) s [] fragments ended (omega arith)
