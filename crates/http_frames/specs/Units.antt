-- The next unit of a body: RFC 9112, 6 and 7.1, in this profile.
use Rattle.std.specs.Prelude.{◌≡◌, ℕ, zero, suc, ◌+◌, ◌-◌, Bool, true, false, not, ◌&&◌, ◌==◌}
use Rattle.std.specs.Prelude.{List, [], ◌∷◌, length, take, drop, min}
use Rattle.std.specs.Prelude.{Option, Some, None, nat_eq, nat_lt, if◌then◌else◌}
use Rattle.std.specs.List.{ends_with}
use Rattle.memchr.specs.Find.{FindsNeedle}
use Rattle.seg_buffer.specs.Bytes.{crlf2}
use Rattle.px_bytes.specs.declared.fault.HttpFault.TheVariants as fault
use Rattle.http_frames.specs.ChunkLines.{Crlf, crlf, line_of}
use Rattle.http_frames.specs.ChunkLines.Crlf.{There, Due, Other}
use Rattle.http_frames.specs.declared.chunk_line.Line.{Line}
use Rattle.http_frames.specs.declared.chunk_line.Line.TheVariants as line
use Rattle.http_frames.specs.declared.state.BodyState.{BodyState}
use Rattle.http_frames.specs.declared.state.BodyState.TheVariants as state
use Rattle.http_frames.specs.declared.unit.Unit.{Unit}
use Rattle.http_frames.specs.declared.unit.Unit.TheVariants as unit

-- nothing yet, where more may come
abbrev pub waits : Bool → Unit
waits ended = if ended then unit.Fault fault.ShortBody else unit.NotYet

-- bytes of a body or chunk of which so many are left
abbrev pub piece : ℕ → List ℕ → Bool → Unit
piece left [] ended = waits ended
piece left (byte ∷ held) ended = unit.Piece (min left (length (byte ∷ held)))

-- of a body that lasts to the end of the stream
abbrev pub to_end : List ℕ → Bool → Unit
to_end [] ended = if ended then unit.Finished 0 else unit.NotYet
to_end (byte ∷ held) ended = unit.Piece (length (byte ∷ held))

-- how much of CR LF CR LF stands at the end of a text that doesn't hold it
abbrev pub begun : List ℕ → ℕ
begun text =
    if ends_with nat_eq text (13 ∷ 10 ∷ 13 ∷ []) then 3
    else (if ends_with nat_eq text (13 ∷ 10 ∷ []) then 2
    else (if ends_with nat_eq text (13 ∷ []) then 1 else 0))

-- behind a CR there is an LF, and an LF nowhere else
abbrev pub may_follow : (behind_cr : Bool) → ℕ → Bool
may_follow true byte = byte == 10
may_follow false byte = not (byte == 10)

-- each CR and each LF of a text belongs to a CRLF, but for a CR at its end: RFC 9112, 2.2 (a CR of its own is
-- invalid; that an LF of its own may end a line is left out, since not all readers do so)
abbrev pub is_paired : (behind_cr : Bool) → List ℕ → Bool
is_paired behind [] = true
is_paired behind (byte ∷ text) = may_follow behind byte && is_paired (byte == 13) text

-- the lines of the trailers hold neither CR nor LF of their own: RFC 9112, 7.1.2
abbrev pub of_lines : List ℕ → Unit → Unit
of_lines text u = if is_paired false text then u else unit.Fault fault.BadChunk

-- the trailers with their empty line have at most 60,000 bytes; `text` begins with the CRLF before them, at
-- the place `at` of what is held, and `place` is that of the first CR LF CR LF in it
abbrev pub whole_trailers : (at : ℕ) → (text : List ℕ) → (place : ℕ) → Unit
whole_trailers at text place =
    if nat_lt 60000 (place + 2) then unit.Fault fault.BadChunk
    else of_lines (take (place + 4) text) (unit.Finished (at + place + 4))

-- it stands nowhere in the text
abbrev pub open_trailers : (text : List ℕ) → Bool → Unit
open_trailers text ended =
    if nat_lt 60002 (length text + (4 - begun text)) then unit.Fault fault.BadChunk
    else of_lines text (waits ended)

abbrev pub trailers_by : (at : ℕ) → (text : List ℕ) → (place : Option ℕ) → Bool → Unit
trailers_by at text (Some place) ended = whole_trailers at text place
trailers_by at text None ended = open_trailers text ended

-- the end of a body: the trailers behind the last chunk line, whose CRLF stands at `at`
abbrev pub IsEnd : (at : ℕ) → List ℕ → Bool → Unit → Type 0
IsEnd at held ended u =
    (place : Option ℕ) × FindsNeedle (drop at held) crlf2 0 place
    × (u ≡ trailers_by at (drop at held) place ended)

-- the unit of a chunk line, where so many bytes stand before it
abbrev pub IsUnitOf : (before : ℕ) → Line → List ℕ → Bool → Unit → Type 0
IsUnitOf before line.Begins held ended u = u ≡ waits ended
IsUnitOf before line.Never held ended u = u ≡ unit.Fault fault.BadChunk
IsUnitOf before (line.Whole size zero) held ended u = IsEnd (before + (size - 2)) held ended u
IsUnitOf before (line.Whole size (suc more)) held ended u =
    u ≡ unit.ChunkLine (before + size) (suc more)

abbrev pub IsLineUnit : (before : ℕ) → List ℕ → Bool → Unit → Type 0
IsLineUnit before held ended u = IsUnitOf before (line_of (drop before held)) held ended u

-- the CRLF that closes a chunk, and a chunk line
abbrev pub IsUnitBehind : Crlf → List ℕ → Bool → Unit → Type 0
IsUnitBehind Due held ended u = u ≡ waits ended
IsUnitBehind Other held ended u = u ≡ unit.Fault fault.BadChunk
IsUnitBehind (There rest) held ended u = IsLineUnit 2 held ended u

abbrev pub IsNextUnit : List ℕ → Bool → Unit → Type 0
IsNextUnit held ended u = IsUnitBehind (crlf held) held ended u

abbrev pub left_unit : ℕ → List ℕ → Bool → Unit
left_unit zero held ended = unit.Finished 0
left_unit (suc left) held ended = piece (suc left) held ended

abbrev pub IsChunkUnit : ℕ → List ℕ → Bool → Unit → Type 0
IsChunkUnit zero held ended u = IsNextUnit held ended u
IsChunkUnit (suc left) held ended u = u ≡ piece (suc left) held ended

-- the next unit of the bytes that are held; `ended` tells that no more come
abbrev pub IsUnit : BodyState → List ℕ → Bool → Unit → Type 0
IsUnit (state.Left left) held ended u = u ≡ left_unit left held ended
IsUnit state.ToEnd held ended u = u ≡ to_end held ended
IsUnit state.FirstLine held ended u = IsLineUnit 0 held ended u
IsUnit (state.Chunk left) held ended u = IsChunkUnit left held ended u
IsUnit state.NextLine held ended u = IsNextUnit held ended u
