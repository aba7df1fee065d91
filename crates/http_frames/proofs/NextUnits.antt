-- The next unit is that of the grammar.
use Rattle.std.proofs.Common.{◌≡◌, ℕ, zero, suc, ◌+◌, ◌-◌, Bool, List, drop, refl}
use Rattle.memchr.specs.Find.{first_of, matches}
use Rattle.seg_buffer.specs.Bytes.{crlf2}
use Rattle.http_frames.specs.ChunkLines.{Crlf, crlf, line_of}
use Rattle.http_frames.specs.ChunkLines.Crlf.{There, Due, Other}
use Rattle.http_frames.specs.NextUnit.{UnitIsOne, chunk_unit, line_unit, next_unit, unit_of}
use Rattle.http_frames.specs.Units.{IsChunkUnit, IsUnit, IsUnitBehind, IsUnitOf}
use Rattle.http_frames.specs.declared.chunk_line.Line.{Line}
use Rattle.http_frames.specs.declared.chunk_line.Line.TheVariants as line
use Rattle.http_frames.specs.declared.state.BodyState.{BodyState}
use Rattle.http_frames.specs.declared.state.BodyState.TheVariants as state
use Rattle.http_frames.specs.declared.unit.Unit.{Unit}
use Rattle.seg_buffer.proofs.Places.{place_is}
use Rattle.http_frames.proofs.OneUnit.{one_unit}

module _ (held : List ℕ) (ended : Bool) where
  line_is : (before : ℕ) (l : Line) → IsUnitOf before l held ended (line_unit before l held ended)
  line_is before line.Begins = refl
  line_is before line.Never = refl
  line_is before (line.Whole size zero) = (first_of (matches (drop (before + (size - 2)) held) crlf2 0), place_is (drop (before + (size - 2)) held), refl)
  line_is before (line.Whole size (suc more)) = refl

  behind_is : (c : Crlf) → IsUnitBehind c held ended (next_unit c held ended)
  behind_is Due = refl
  behind_is Other = refl
  behind_is (There rest) = line_is 2 (line_of (drop 2 held))

  chunk_is : (left : ℕ) → IsChunkUnit left held ended (chunk_unit left held ended)
  chunk_is zero = behind_is (crlf held)
  chunk_is (suc left) = refl

  pub unit_is : (s : BodyState) → IsUnit s held ended (unit_of s held ended)
  unit_is (state.Left left) = refl
  unit_is state.FirstLine = line_is 0 (line_of held)
  unit_is (state.Chunk left) = chunk_is left
  unit_is state.NextLine = behind_is (crlf held)
  unit_is state.ToEnd = refl

pub unit_value : (s : BodyState) (held : List ℕ) (ended : Bool) (u : Unit) → IsUnit s held ended u → u ≡ unit_of s held ended
unit_value s held ended u is = one_unit held ended u (unit_of s held ended) s is (unit_is held ended s)

pub unit_is_one : UnitIsOne
unit_is_one s held ended = (unit_is held ended s, unit_value s held ended)
