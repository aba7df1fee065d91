-- What a unit takes of what is held.
use Rattle.std.proofs.Common.{◌≡◌, ℕ, zero, suc, ◌+◌, ◌-◌, ◌<◌, ◌≤◌, Bool, true, false, cond, ◌==◌, List, [], ◌∷◌, length, take, drop, nat_lt, Option, Some, None, refl, sym, subst, arith}
use Rattle.std.specs.Prelude.{⊤}
use Rattle.std.proofs.lemmas.List.{length-drop}
use Rattle.px_bytes.specs.declared.fault.HttpFault.TheVariants.{BadChunk}
use Rattle.http_frames.specs.ChunkLines.{IsWithin, behind_cr, line_of}
use Rattle.http_frames.specs.ChunkLines.Crlf.{There, Other}
use Rattle.http_frames.specs.Units.{IsChunkUnit, IsLineUnit, IsNextUnit, IsUnit, IsUnitBehind, IsUnitOf, begun, is_paired, left_unit, of_lines, piece, to_end, trailers_by, waits}
use Rattle.http_frames.specs.declared.chunk_line.Line.{Line}
use Rattle.http_frames.specs.declared.chunk_line.Line.TheVariants as line
use Rattle.http_frames.specs.declared.state.BodyState.{BodyState}
use Rattle.http_frames.specs.declared.state.BodyState.TheVariants as state
use Rattle.http_frames.specs.declared.unit.Unit.{Unit}
use Rattle.http_frames.specs.declared.unit.Unit.TheVariants.{Piece, ChunkLine, Finished, Fault}
use Rattle.http_frames.proofs.Lines.{line_within}

abbrev pub is_piece : Unit → Bool
is_piece (Piece n) = true
is_piece u = false

abbrev pub taken : Unit → ℕ
taken (Piece n) = n
taken (ChunkLine line size) = line
taken u = 0

-- a piece or a chunk line takes something
abbrev pub Takes : Unit → Type 0
Takes (Piece n) = 0 < n
Takes (ChunkLine line size) = 0 < line
Takes u = ⊤

-- what it takes is there
pub record Inside (held : List ℕ) (u : Unit) : Type 0 where
  pub within : taken u ≤ length held
  pub some : Takes u

-- the same, of what is no piece
record Whole (held : List ℕ) (u : Unit) : Type 0 where
  other : is_piece u ≡ false
  inside : Inside held u

waits_whole : (held : List ℕ) (ended : Bool) → Whole held (waits ended)
waits_whole held true = record { other = refl; inside = record { within = omega arith; some = tt } }
waits_whole held false = record { other = refl; inside = record { within = omega arith; some = tt } }

fault_if : (held : List ℕ) (long : Bool) (u : Unit) → Whole held u → Whole held (cond long (Fault BadChunk) u)
fault_if held true u whole = record { other = refl; inside = record { within = omega arith; some = tt } }
fault_if held false u whole = whole

lines_if : (held : List ℕ) (lines : Bool) (u : Unit) → Whole held u → Whole held (cond lines u (Fault BadChunk))
lines_if held true u whole = whole
lines_if held false u whole = record { other = refl; inside = record { within = omega arith; some = tt } }

trailers_whole : (held : List ℕ) (at : ℕ) (text : List ℕ) (place : Option ℕ) (ended : Bool) → Whole held (trailers_by at text place ended)
trailers_whole held at text (Some k) ended =
    fault_if held (nat_lt 60000 (k + 2)) (of_lines (take (k + 4) text) (Finished (at + k + 4)))
    (lines_if held (is_paired false (take (k + 4) text)) (Finished (at + k + 4)) (record { other = refl; inside = record { within = omega arith; some = tt } }))
trailers_whole held at text None ended =
    fault_if held (nat_lt 60002 (length text + (4 - begun text))) (of_lines text (waits ended)) (lines_if held (is_paired false text) (waits ended) (waits_whole held ended))

module _ (held : List ℕ) (ended : Bool) (u : Unit) where
  are : (v : Unit) → u ≡ v → Whole held v → Whole held u
  are v is whole = subst (Whole held) (sym is) whole

  of_whole : (before : ℕ) (l : Line) → before ≤ length held → IsWithin (length held - before) l → IsUnitOf before l held ended u → Whole held u
  of_whole before line.Begins inside within is = are (waits ended) is (waits_whole held ended)
  of_whole before line.Never inside within is = are (Fault BadChunk) is (record { other = refl; inside = record { within = omega arith; some = tt } })
  of_whole before (line.Whole size zero) inside within is =
      let at = before + (size - 2) in
      are (trailers_by at (drop at held) is.0 ended) is.2 (trailers_whole held at (drop at held) is.0 ended)
  of_whole before (line.Whole size (suc n)) inside within is =
      are (ChunkLine (before + size) (suc n)) is (record { other = refl; inside = record { within = omega (arith, inside, within.0, within.2); some = omega (arith, within.0) } })

  line_whole : (before : ℕ) → before ≤ length held → IsLineUnit before held ended u → Whole held u
  line_whole before inside is =
      of_whole before (line_of (drop before held)) inside (subst (λ n. IsWithin n (line_of (drop before held))) (length-drop before held) (line_within (drop before held))) is

next_whole : (held : List ℕ) (ended : Bool) (u : Unit) → IsNextUnit held ended u → Whole held u
next_whole [] ended u is = are [] ended u (waits ended) is (waits_whole [] ended)
next_whole (x ∷ []) ended u is =
    elim (x == 13) as (λ t. IsUnitBehind (cond t (behind_cr []) Other) (x ∷ []) ended u → Whole (x ∷ []) u) [
      | true ↦ λ h. are (x ∷ []) ended u (waits ended) h (waits_whole (x ∷ []) ended)
      | false ↦ λ h. are (x ∷ []) ended u (Fault BadChunk) h (record { other = refl; inside = record { within = omega arith; some = tt } })
    ] is
next_whole (x ∷ y ∷ rest) ended u is =
    let held : List ℕ = x ∷ y ∷ rest in
    elim (x == 13) as (λ t. IsUnitBehind (cond t (behind_cr (y ∷ rest)) Other) held ended u → Whole held u) [
      | true ↦ elim (y == 10) as (λ t. IsUnitBehind (cond t (There rest) Other) held ended u → Whole held u) [
        | true ↦ λ h. line_whole held ended u 2 (omega arith) h
        | false ↦ λ h. are held ended u (Fault BadChunk) h (record { other = refl; inside = record { within = omega arith; some = tt } })
      ]
      | false ↦ λ h. are held ended u (Fault BadChunk) h (record { other = refl; inside = record { within = omega arith; some = tt } })
    ] is

piece_inside : (left : ℕ) (held : List ℕ) (ended : Bool) → 0 < left → Inside held (piece left held ended)
piece_inside left [] ended more = (waits_whole [] ended).inside
piece_inside left (b ∷ held) ended more = record { within = omega arith; some = omega (arith, more) }

left_inside : (left : ℕ) (held : List ℕ) (ended : Bool) → Inside held (left_unit left held ended)
left_inside zero held ended = record { within = omega arith; some = tt }
left_inside (suc left) held ended = piece_inside (suc left) held ended (omega arith)

to_end_inside : (held : List ℕ) (ended : Bool) → Inside held (to_end held ended)
to_end_inside [] true = record { within = omega arith; some = tt }
to_end_inside [] false = record { within = omega arith; some = tt }
to_end_inside (b ∷ held) ended = record { within = omega arith; some = omega arith }

chunk_inside : (left : ℕ) (held : List ℕ) (ended : Bool) (u : Unit) → IsChunkUnit left held ended u → Inside held u
chunk_inside zero held ended u is = (next_whole held ended u is).inside
chunk_inside (suc left) held ended u is = subst (Inside held) (sym is) (piece_inside (suc left) held ended (omega arith))

pub inside : (s : BodyState) (held : List ℕ) (ended : Bool) (u : Unit) → IsUnit s held ended u → Inside held u
inside (state.Left left) held ended u is = subst (Inside held) (sym is) (left_inside left held ended)
inside state.FirstLine held ended u is = (line_whole held ended u 0 (omega arith) is).inside
inside (state.Chunk left) held ended u is = chunk_inside left held ended u is
inside state.NextLine held ended u is = (next_whole held ended u is).inside
inside state.ToEnd held ended u is = subst (Inside held) (sym is) (to_end_inside held ended)

-- before a line there is no piece
pub first_other : (held : List ℕ) (ended : Bool) (u : Unit) → IsLineUnit 0 held ended u → is_piece u ≡ false
first_other held ended u is = (line_whole held ended u 0 (omega arith) is).other

pub next_other : (held : List ℕ) (ended : Bool) (u : Unit) → IsNextUnit held ended u → is_piece u ≡ false
next_other held ended u is = (next_whole held ended u is).other
