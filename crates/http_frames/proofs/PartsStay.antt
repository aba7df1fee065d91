-- A part stays, whatever follows, and lies in what is held.
use Rattle.std.proofs.Common.{ap, ℕ, zero, suc, ◌+◌, ◌-◌, ◌≤◌, Bool, true, false, List, [], ◌∷◌, ◌++◌, length, take, drop, nat_lt, cond, Option, Some, None, arith}
use Rattle.std.specs.Prelude.{⊤}
use Rattle.std.proofs.lemmas.List.{length-drop}
use Rattle.memchr.specs.Find.{FindsNeedle}
use Rattle.seg_buffer.specs.Bytes.{crlf2}
use Rattle.px_bytes.specs.declared.fault.HttpFault.TheVariants.{BadChunk}
use Rattle.http_frames.specs.ChunkLines.{Crlf, crlf, line_of}
use Rattle.http_frames.specs.ChunkLines.Crlf.{There, Due, Other}
use Rattle.http_frames.specs.NextUnit.{chunk_unit, line_unit, next_unit, unit_of}
use Rattle.http_frames.specs.Parts.{PartIn, PartStays, PartsAreThere, PartsStay, part_by}
use Rattle.http_frames.specs.Units.{IsUnit, begun, is_paired, left_unit, of_lines, piece, to_end, trailers_by, waits}
use Rattle.http_frames.specs.declared.chunk_line.Line.{Line}
use Rattle.http_frames.specs.declared.chunk_line.Line.TheVariants as line
use Rattle.http_frames.specs.declared.state.BodyState.{BodyState}
use Rattle.http_frames.specs.declared.state.BodyState.TheVariants as state
use Rattle.http_frames.specs.declared.unit.Unit.{Unit}
use Rattle.http_frames.specs.declared.unit.Unit.TheVariants.{Piece, ChunkLine, Finished, NotYet, Fault}
use Rattle.http_frames.proofs.Longer.{Stands, stays}
use Rattle.http_frames.proofs.NextUnits.{unit_is}
use Rattle.seg_buffer.proofs.Places.{place_is}
use Rattle.http_frames.proofs.OneUnit.{one_unit}
use Rattle.http_frames.proofs.Taken.{Inside, inside}

stays_by : (s : BodyState) (held : List ℕ) (ended : Bool) (u v : Unit) → Stands u (IsUnit s held ended) → IsUnit s held ended v → PartStays (part_by u) (part_by v)
stays_by s held ended (Piece n) v stands is = ap part_by (one_unit held ended v (Piece _) s is stands.1)
stays_by s held ended (ChunkLine n size) v stands is = ap part_by (one_unit held ended v (ChunkLine n size) s is stands)
stays_by s held ended (Finished n) v stands is = ap part_by (one_unit held ended v (Finished n) s is stands)
stays_by s held ended NotYet v stands is = tt
stays_by s held ended (Fault f) v stands is = ap part_by (one_unit held ended v (Fault f) s is stands)

pub parts_stay : PartsStay
parts_stay s held more ended =
    stays_by s (held ++ more) ended (unit_of s held false) (unit_of s (held ++ more) ended) (stays s held more ended (unit_of s held false) (unit_is held false s)) (unit_is (held ++ more) ended s)

-- an end takes what is there
abbrev EndsIn : List ℕ → Unit → Type 0
EndsIn held (Finished n) = n ≤ length held
EndsIn held u = ⊤

waits_in : (held : List ℕ) (ended : Bool) → EndsIn held (waits ended)
waits_in held true = tt
waits_in held false = tt

fault_in : (held : List ℕ) (long : Bool) (u : Unit) → EndsIn held u → EndsIn held (cond long (Fault BadChunk) u)
fault_in held true u is = tt
fault_in held false u is = is

lines_in : (held : List ℕ) (lines : Bool) (u : Unit) → EndsIn held u → EndsIn held (cond lines u (Fault BadChunk))
lines_in held true u is = is
lines_in held false u is = tt

trailers_in : (held : List ℕ) (at : ℕ) (ended : Bool) (place : Option ℕ) → FindsNeedle (drop at held) crlf2 0 place → EndsIn held (trailers_by at (drop at held) place ended)
trailers_in held at ended (Some k) found =
    let text = drop at held in
    let fits = found.1.fits in
    fault_in held (nat_lt 60000 (k + 2)) (of_lines (take (k + 4) text) (Finished (at + k + 4)))
    (lines_in held (is_paired false (take (k + 4) text)) (Finished (at + k + 4)) (omega (arith, fits, length-drop at held)))
trailers_in held at ended None found =
    let text = drop at held in
    fault_in held (nat_lt 60002 (length text + (4 - begun text))) (of_lines text (waits ended)) (lines_in held (is_paired false text) (waits ended) (waits_in held ended))

module _ (held : List ℕ) (ended : Bool) where
  line_in : (before : ℕ) (l : Line) → EndsIn held (line_unit before l held ended)
  line_in before line.Begins = waits_in held ended
  line_in before line.Never = tt
  line_in before (line.Whole size zero) = trailers_in held (before + (size - 2)) ended _ (place_is (drop (before + (size - 2)) held))
  line_in before (line.Whole size (suc more)) = tt

  behind_in : (c : Crlf) → EndsIn held (next_unit c held ended)
  behind_in Due = waits_in held ended
  behind_in Other = tt
  behind_in (There rest) = line_in 2 (line_of (drop 2 held))

piece_in : (left : ℕ) (held : List ℕ) (ended : Bool) → EndsIn held (piece left held ended)
piece_in left [] ended = waits_in [] ended
piece_in left (b ∷ held) ended = tt

left_in : (left : ℕ) (held : List ℕ) (ended : Bool) → EndsIn held (left_unit left held ended)
left_in zero held ended = omega arith
left_in (suc left) held ended = piece_in (suc left) held ended

chunk_in : (left : ℕ) (held : List ℕ) (ended : Bool) → EndsIn held (chunk_unit left held ended)
chunk_in zero held ended = behind_in held ended (crlf held)
chunk_in (suc left) held ended = piece_in (suc left) held ended

to_end_in : (held : List ℕ) (ended : Bool) → EndsIn held (to_end held ended)
to_end_in [] true = omega arith
to_end_in [] false = tt
to_end_in (b ∷ held) ended = tt

unit_in : (s : BodyState) (held : List ℕ) (ended : Bool) → EndsIn held (unit_of s held ended)
unit_in (state.Left left) held ended = left_in left held ended
unit_in state.FirstLine held ended = line_in held ended 0 (line_of held)
unit_in (state.Chunk left) held ended = chunk_in left held ended
unit_in state.NextLine held ended = behind_in held ended (crlf held)
unit_in state.ToEnd held ended = to_end_in held ended

part_in_by : (held : List ℕ) (u : Unit) → Inside held u → EndsIn held u → PartIn held (part_by u)
part_in_by held (Piece n) i e = let within = i.within in let some = i.some in omega (arith, within, some)
part_in_by held (ChunkLine n size) i e = i.within
part_in_by held (Finished n) i e = e
part_in_by held NotYet i e = tt
part_in_by held (Fault f) i e = tt

pub parts_are_there : PartsAreThere
parts_are_there s held ended = part_in_by held (unit_of s held ended) (inside s held ended (unit_of s held ended) (unit_is held ended s)) (unit_in s held ended)
