-- A unit stays, whatever follows what is held.
use Rattle.std.proofs.Common.{◌≡◌, ℕ, zero, suc, ◌+◌, ◌-◌, ◌<◌, ◌≤◌, Bool, true, false, ◌==◌, cond, List, [], ◌∷◌, ◌++◌, length, drop, min, nat_lt, Option, Some, None, refl, sym, ap, subst, ◌∙◌, arith}
use Rattle.std.specs.Prelude.{⊤}
use Rattle.std.proofs.lemmas.Bool.{cond-true, lt-ltb, ltb-true}
use Rattle.std.proofs.lemmas.List.{drop-append-le, length-append, length-drop, take-append-le}
use Rattle.memchr.specs.Find.{FindsNeedle}
use Rattle.seg_buffer.specs.Bytes.{crlf2}
use Rattle.px_bytes.specs.declared.fault.HttpFault.TheVariants.{BadChunk}
use Rattle.http_frames.specs.ChunkLines.{IsWithin, behind_cr, line_of}
use Rattle.http_frames.specs.ChunkLines.Crlf.{There, Other}
use Rattle.http_frames.specs.Units.{IsChunkUnit, IsEnd, IsLineUnit, IsNextUnit, IsUnit, IsUnitBehind, IsUnitOf, begun, is_paired, left_unit, of_lines, piece, to_end, trailers_by, waits, whole_trailers}
use Rattle.http_frames.specs.declared.chunk_line.Line.{Line}
use Rattle.http_frames.specs.declared.chunk_line.Line.TheVariants as line
use Rattle.http_frames.specs.declared.state.BodyState.{BodyState}
use Rattle.http_frames.specs.declared.state.BodyState.TheVariants as state
use Rattle.http_frames.specs.declared.unit.Unit.{Unit}
use Rattle.http_frames.specs.declared.unit.Unit.TheVariants.{Piece, ChunkLine, Finished, NotYet, Fault}
use Rattle.http_frames.proofs.Begun.{begun_few, begun_more, found_late}
use Rattle.http_frames.proofs.Lines.{Stays, line_stays, line_within}
use Rattle.seg_buffer.proofs.Places.{a_place, still_found}
use Rattle.http_frames.proofs.Pairs.{not_lines, refused, still_refused, unpaired}

-- what a longer text has of a unit
abbrev pub Stands : Unit → (Unit → Type 0) → Type 0
Stands NotYet P = ⊤
Stands (Piece taken) P = (more : ℕ) × P (Piece (taken + more))
Stands (ChunkLine line size) P = P (ChunkLine line size)
Stands (Finished size) P = P (Finished size)
Stands (Fault f) P = P (Fault f)

standing : (P : Unit → Type 0) (u : Unit) → P u → Stands u P
standing P NotYet is = tt
standing P (Piece taken) is = (0, subst (λ n. P (Piece n)) (omega arith) is)
standing P (ChunkLine line size) is = is
standing P (Finished size) is = is
standing P (Fault f) is = is

waiting : (P : Unit → Type 0) (u : Unit) → u ≡ NotYet → Stands u P
waiting P u is = subst (λ v. Stands v P) (sym is) tt

-- trailers that are too long stay so
still_long : (at : ℕ) (text more : List ℕ) (ended : Bool) → 60002 < length text + (4 - begun text) → FindsNeedle text crlf2 0 None
    → (r : Option ℕ) → FindsNeedle (text ++ more) crlf2 0 r → trailers_by at (text ++ more) r ended ≡ Fault BadChunk
still_long at text more ended long nowhere (Some q) found =
    cond-true (nat_lt 60000 (q + 2)) _ _ (lt-ltb _ _ (omega (arith, long, begun_few text, found_late text more q nowhere found.1)))
still_long at text more ended long nowhere None found =
    cond-true (nat_lt 60002 (length (text ++ more) + (4 - begun (text ++ more)))) _ _
    (lt-ltb _ _ (omega (arith, long, begun_few text, begun_few (text ++ more), begun_more text more, length-append text more)))

-- and so do those that aren't lines
still_no_lines : (at : ℕ) (text more : List ℕ) (ended : Bool) → is_paired false text ≡ false → FindsNeedle text crlf2 0 None
    → (r : Option ℕ) → FindsNeedle (text ++ more) crlf2 0 r → trailers_by at (text ++ more) r ended ≡ Fault BadChunk
still_no_lines at text more ended bad nowhere (Some q) found = still_refused at text more q (omega (arith, begun_few text, found_late text more q nowhere found.1)) bad
still_no_lines at text more ended bad nowhere None found =
    let long = text ++ more in
    refused (nat_lt 60002 (length long + (4 - begun long))) (of_lines long (waits ended)) (not_lines long (waits ended) (unpaired false text more bad))

-- where the trailers end they are the same
same_trailers : (at : ℕ) (text more : List ℕ) (k : ℕ) → k + 4 ≤ length text → whole_trailers at text k ≡ whole_trailers at (text ++ more) k
same_trailers at text more k fits =
    ap (λ t. cond (nat_lt 60000 (k + 2)) (Fault BadChunk) (of_lines t (Finished (at + k + 4)))) (sym (take-append-le (k + 4) text more fits))

module _ (held more : List ℕ) (ended : Bool) (u : Unit) where
  refused_on : (at : ℕ) → drop at (held ++ more) ≡ drop at held ++ more → u ≡ Fault BadChunk
      → ((r : Option ℕ) → FindsNeedle (drop at held ++ more) crlf2 0 r → trailers_by at (drop at held ++ more) r ended ≡ Fault BadChunk) → Stands u (IsEnd at (held ++ more) ended)
  refused_on at rest so last =
      let there = a_place (drop at held ++ more) in
      standing (IsEnd at (held ++ more) ended) u
      (subst (λ t. (place : Option ℕ) × FindsNeedle t crlf2 0 place × (u ≡ trailers_by at t place ended)) (sym rest) (there.0, there.1, so ∙ sym (last there.0 there.1)))

  end_by : (at : ℕ) → drop at (held ++ more) ≡ drop at held ++ more → (place : Option ℕ) → FindsNeedle (drop at held) crlf2 0 place
      → u ≡ trailers_by at (drop at held) place false → Stands u (IsEnd at (held ++ more) ended)
  end_by at rest (Some k) found is =
      standing (IsEnd at (held ++ more) ended) u (
        Some k,
        subst (λ t. FindsNeedle t crlf2 0 (Some k)) (sym rest) (still_found (drop at held) more k found),
        is ∙ same_trailers at (drop at held) more k found.1.fits ∙ sym (ap (λ t. whole_trailers at t k) rest),
      )
  end_by at rest None found is =
      let text = drop at held in
      let size = length text + (4 - begun text) in
      elim (nat_lt 60002 size) as (λ t. nat_lt 60002 size ≡ t → u ≡ cond t (Fault BadChunk) (of_lines text NotYet) → Stands u (IsEnd at (held ++ more) ended)) [
        | true ↦ λ long so. refused_on at rest so (still_long at text more ended (ltb-true 60002 size long) found)
        | false ↦ λ few so. elim (is_paired false text) as (λ p. is_paired false text ≡ p → u ≡ cond p NotYet (Fault BadChunk) → Stands u (IsEnd at (held ++ more) ended)) [
          | true ↦ λ lines is. waiting (IsEnd at (held ++ more) ended) u is
          | false ↦ λ bad is. refused_on at rest is (still_no_lines at text more ended bad found)
        ] refl so
      ] refl is

  end_stays : (at : ℕ) → at ≤ length held → IsEnd at held false u → Stands u (IsEnd at (held ++ more) ended)
  end_stays at inside is = end_by at (drop-append-le at held more inside) is.0 is.1 is.2

  line_by : (before : ℕ) (l m : Line) → before ≤ length held → IsWithin (length held - before) l → Stays l m
      → IsUnitOf before l held false u → Stands u (IsUnitOf before m (held ++ more) ended)
  line_by before line.Begins m inside within same is = waiting (IsUnitOf before m (held ++ more) ended) u is
  line_by before line.Never m inside within same is =
      subst (λ l. Stands u (IsUnitOf before l (held ++ more) ended)) (sym same) (standing (IsUnitOf before line.Never (held ++ more) ended) u is)
  line_by before (line.Whole size zero) m inside within same is =
      subst (λ l. Stands u (IsUnitOf before l (held ++ more) ended)) (sym same) (end_stays (before + (size - 2)) (omega (arith, inside, within.0, within.2)) is)
  line_by before (line.Whole size (suc n)) m inside within same is =
      subst (λ l. Stands u (IsUnitOf before l (held ++ more) ended)) (sym same) (standing (IsUnitOf before (line.Whole size (suc n)) (held ++ more) ended) u is)

  unit_stays : (before : ℕ) → before ≤ length held → IsLineUnit before held false u → Stands u (IsLineUnit before (held ++ more) ended)
  unit_stays before inside is =
      let rest = drop-append-le before held more inside in
      line_by before (line_of (drop before held)) (line_of (drop before (held ++ more))) inside
      (subst (λ n. IsWithin n (line_of (drop before held))) (length-drop before held) (line_within (drop before held)))
      (subst (λ t. Stays (line_of (drop before held)) (line_of t)) (sym rest) (line_stays (drop before held) more)) is

next_stays : (held more : List ℕ) (ended : Bool) (u : Unit) → IsNextUnit held false u → Stands u (IsNextUnit (held ++ more) ended)
next_stays [] more ended u is = waiting (IsNextUnit more ended) u is
next_stays (x ∷ []) more ended u is =
    elim (x == 13) as (λ t. IsUnitBehind (cond t (behind_cr []) Other) (x ∷ []) false u → Stands u (IsUnitBehind (cond t (behind_cr more) Other) (x ∷ more) ended)) [
      | true ↦ λ h. waiting (IsUnitBehind (behind_cr more) (x ∷ more) ended) u h
      | false ↦ λ h. standing (IsUnitBehind Other (x ∷ more) ended) u h
    ] is
next_stays (x ∷ y ∷ rest) more ended u is =
    let long : List ℕ = x ∷ y ∷ (rest ++ more) in
    elim (x == 13) as (λ t. IsUnitBehind (cond t (behind_cr (y ∷ rest)) Other) (x ∷ y ∷ rest) false u → Stands u (IsUnitBehind (cond t (behind_cr (y ∷ (rest ++ more))) Other) long ended)) [
      | true ↦ elim (y == 10) as (λ t. IsUnitBehind (cond t (There rest) Other) (x ∷ y ∷ rest) false u → Stands u (IsUnitBehind (cond t (There (rest ++ more)) Other) long ended)) [
        | true ↦ λ h. unit_stays (x ∷ y ∷ rest) more ended u 2 (omega arith) h
        | false ↦ λ h. standing (IsUnitBehind Other long ended) u h
      ]
      | false ↦ λ h. standing (IsUnitBehind Other long ended) u h
    ] is

longer_piece : (n m : ℕ) → n ≤ m → (u : Unit) → u ≡ Piece n → Stands u (λ v. v ≡ Piece m)
longer_piece n m less u is = subst (λ v. Stands v (λ w. w ≡ Piece m)) (sym is) (m - n, ap Piece (omega (arith, less)))

piece_stays : (left : ℕ) (held more : List ℕ) (ended : Bool) (u : Unit) → u ≡ piece left held false → Stands u (λ v. v ≡ piece left (held ++ more) ended)
piece_stays left [] more ended u is = waiting (λ v. v ≡ piece left more ended) u is
piece_stays left (b ∷ held) more ended u is =
    longer_piece (min left (length (b ∷ held))) (min left (length (b ∷ (held ++ more)))) (omega (arith, length-append held more)) u is

left_stays : (left : ℕ) (held more : List ℕ) (ended : Bool) (u : Unit) → u ≡ left_unit left held false → Stands u (λ v. v ≡ left_unit left (held ++ more) ended)
left_stays zero held more ended u is = standing (λ v. v ≡ Finished 0) u is
left_stays (suc left) held more ended u is = piece_stays (suc left) held more ended u is

chunk_stays : (left : ℕ) (held more : List ℕ) (ended : Bool) (u : Unit) → IsChunkUnit left held false u → Stands u (IsChunkUnit left (held ++ more) ended)
chunk_stays zero held more ended u is = next_stays held more ended u is
chunk_stays (suc left) held more ended u is = piece_stays (suc left) held more ended u is

to_end_stays : (held more : List ℕ) (ended : Bool) (u : Unit) → u ≡ to_end held false → Stands u (λ v. v ≡ to_end (held ++ more) ended)
to_end_stays [] more ended u is = waiting (λ v. v ≡ to_end more ended) u is
to_end_stays (b ∷ held) more ended u is = longer_piece (length (b ∷ held)) (length (b ∷ (held ++ more))) (omega (arith, length-append held more)) u is

pub stays : (s : BodyState) (held more : List ℕ) (ended : Bool) (u : Unit) → IsUnit s held false u → Stands u (IsUnit s (held ++ more) ended)
stays (state.Left left) held more ended u is = left_stays left held more ended u is
stays state.FirstLine held more ended u is = unit_stays held more ended u 0 (omega arith) is
stays (state.Chunk left) held more ended u is = chunk_stays left held more ended u is
stays state.NextLine held more ended u is = next_stays held more ended u is
stays state.ToEnd held more ended u is = to_end_stays held more ended u is
