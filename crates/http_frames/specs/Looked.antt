-- What is known of bytes that were looked at before, when no unit stood there yet: no end of the trailers stands among
-- them, and their lines are whole but for the last one.
use Rattle.std.specs.Prelude.{◌≡◌, ℕ, zero, suc, ◌==◌, ◌+◌, ◌-◌, ◌<◌, ◌≤◌, Bool, false, true, List, Option, take, drop, length}
use Rattle.std.specs.Prelude.{slice_index}
use Rattle.memchr.specs.Find.{FindsNeedle, Nowhere, OccursAt}
use Rattle.seg_buffer.specs.Bytes.{crlf2}
use Rattle.http_frames.specs.ChunkLines.{line_of}
use Rattle.http_frames.specs.NextUnit.{line_unit, unit_of}
use Rattle.http_frames.specs.Units.{is_paired, trailers_by}
use Rattle.http_frames.specs.declared.chunk_line.Line.TheVariants.{Whole}
use Rattle.http_frames.specs.declared.state.BodyState.{BodyState}
use Rattle.http_frames.specs.declared.unit.Unit.{Unit}
use Rattle.http_frames.specs.declared.unit.Unit.TheVariants.{NotYet}

-- so many bytes at the front held no unit yet
abbrev pub LookedAt : BodyState → List ℕ → (looked : ℕ) → Type 0
LookedAt s held looked = 0 < looked → unit_of s (take looked held) false ≡ NotYet

-- the same of a chunk line behind so many bytes
abbrev pub LineLookedAt : (before : ℕ) → List ℕ → (looked : ℕ) → Type 0
LineLookedAt before held looked =
    before ≤ looked → line_unit before (line_of (drop before (take looked held))) (take looked held) false ≡ NotYet

-- whether a CR stands before a place; at the beginning as it is told
abbrev pub cr_before : (behind_cr : Bool) → ℕ → List ℕ → Bool
cr_before behind zero text = behind
cr_before behind (suc n) text = slice_index text n == 13

-- the end of a body in a text that begins with the CRLF of the last chunk line
abbrev pub IsEndOf : (at : ℕ) → (text : List ℕ) → Bool → Unit → Type 0
IsEndOf at text ended u =
    (place : Option ℕ) × FindsNeedle text crlf2 0 place × (u ≡ trailers_by at text place ended)

-- In a text that begins with the CRLF of the last chunk line no end stands before a place, and its lines up to there
-- are lines of trailers.
pub record NoEnd (text : List ℕ) (from : ℕ) : Type 0 where
  pub inside : from ≤ length text
  pub none : Nowhere (OccursAt text crlf2) 0 from
  pub lines : is_paired false (take from text) ≡ true

-- The same by the chunk line behind so many bytes, where it is the last one.
abbrev pub EndLookedAt : (before : ℕ) → List ℕ → (looked : ℕ) → Type 0
EndLookedAt before held looked = (size : ℕ) → line_of (drop before held) ≡ Whole size 0
    → NoEnd (drop (before + (size - 2)) held) (looked - (before + (size - 2) + 3))
