-- The next unit of a body as a function: RFC 9112, 6 and 7.1, in this profile. `Units` has the same as a relation.
use Rattle.std.specs.Prelude.{◌≡◌, ℕ, zero, suc, ◌+◌, ◌-◌, Bool, List, drop}
use Rattle.memchr.specs.Find.{first_of, matches}
use Rattle.seg_buffer.specs.Bytes.{crlf2}
use Rattle.px_bytes.specs.declared.fault.HttpFault.TheVariants as fault
use Rattle.http_frames.specs.ChunkLines.{Crlf, crlf, line_of}
use Rattle.http_frames.specs.ChunkLines.Crlf.{There, Due, Other}
use Rattle.http_frames.specs.Units.{IsUnit, left_unit, piece, to_end, trailers_by, waits}
use Rattle.http_frames.specs.declared.chunk_line.Line.{Line}
use Rattle.http_frames.specs.declared.chunk_line.Line.TheVariants as line
use Rattle.http_frames.specs.declared.state.BodyState.{BodyState}
use Rattle.http_frames.specs.declared.state.BodyState.TheVariants as state
use Rattle.http_frames.specs.declared.unit.Unit.{Unit}
use Rattle.http_frames.specs.declared.unit.Unit.TheVariants as unit

-- the end of a body, behind its last chunk line, whose CRLF stands at `at`
abbrev pub end_unit : (at : ℕ) → List ℕ → Bool → Unit
end_unit at held ended =
    trailers_by at (drop at held) (first_of (matches (drop at held) crlf2 0)) ended

-- of a chunk line, where so many bytes stand before it
abbrev pub line_unit : (before : ℕ) → Line → List ℕ → Bool → Unit
line_unit before line.Begins held ended = waits ended
line_unit before line.Never held ended = unit.Fault fault.BadChunk
line_unit before (line.Whole size zero) held ended = end_unit (before + (size - 2)) held ended
line_unit before (line.Whole size (suc more)) held ended =
    unit.ChunkLine (before + size) (suc more)

-- the CRLF that closes a chunk, and a chunk line
abbrev pub next_unit : Crlf → List ℕ → Bool → Unit
next_unit Due held ended = waits ended
next_unit Other held ended = unit.Fault fault.BadChunk
next_unit (There rest) held ended = line_unit 2 (line_of (drop 2 held)) held ended

abbrev pub chunk_unit : ℕ → List ℕ → Bool → Unit
chunk_unit zero held ended = next_unit (crlf held) held ended
chunk_unit (suc left) held ended = piece (suc left) held ended

-- the next unit of the bytes that are held; the flag tells that no more come
abbrev pub unit_of : BodyState → List ℕ → Bool → Unit
unit_of (state.Left left) held ended = left_unit left held ended
unit_of state.ToEnd held ended = to_end held ended
unit_of state.FirstLine held ended = line_unit 0 (line_of held) held ended
unit_of (state.Chunk left) held ended = chunk_unit left held ended
unit_of state.NextLine held ended = next_unit (crlf held) held ended

-- it is the one unit that stands there
abbrev pub UnitIsOne : Type 0
UnitIsOne = (s : BodyState) (held : List ℕ) (ended : Bool)
    → IsUnit s held ended (unit_of s held ended)
    × ((u : Unit) → IsUnit s held ended u → u ≡ unit_of s held ended)
