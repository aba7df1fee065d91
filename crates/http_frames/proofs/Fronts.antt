-- Where nothing is there yet, what is held is the front of a unit.
use Rattle.std.proofs.Common.{◌≡◌, ℕ, zero, suc, ◌+◌, ◌-◌, ◌<◌, ◌≤◌, Bool, true, false, ◌==◌, cond, List, [], ◌∷◌, ◌++◌, length, take, drop, min, nat_lt, Option, Some, None, refl, sym, ap, subst, ◌∙◌, arith}
use Rattle.std.specs.Prelude.{slice_index}
use Rattle.std.proofs.lemmas.Bool.{cond-false, eqb-true, false≢true, le-ltb, ltb-false, ltb-true}
use Rattle.std.proofs.lemmas.List.{drop-append-le, drop-drop, get_or-append_right, get_or-drop, get_or_append_left, length-append, length-drop, take_all}
use Rattle.std.proofs.Math.Seq.{drop-append_seam}
use Rattle.memchr.specs.Find.{FindsNeedle}
use Rattle.seg_buffer.specs.Bytes.{crlf2}
use Rattle.px_bytes.specs.declared.fault.HttpFault.TheVariants.{BadChunk}
use Rattle.http_frames.specs.ChunkLines.{IsWithin, behind_cr, line_of, line_size}
use Rattle.http_frames.specs.ChunkLines.Crlf.{There, Due, Other}
use Rattle.http_frames.specs.Cuttings.{IsFound, NotYetMayBecome}
use Rattle.http_frames.specs.Units.{IsChunkUnit, IsEnd, IsLineUnit, IsNextUnit, IsUnitBehind, IsUnitOf, begun, is_paired, left_unit, piece, to_end, trailers_by, whole_trailers}
use Rattle.http_frames.specs.declared.chunk_line.Line.{Line}
use Rattle.http_frames.specs.declared.chunk_line.Line.TheVariants as line
use Rattle.http_frames.specs.declared.state.BodyState.TheVariants as state
use Rattle.http_frames.specs.declared.unit.Unit.{Unit}
use Rattle.http_frames.specs.declared.unit.Unit.TheVariants.{Piece, ChunkLine, Finished, NotYet, Fault}
use Rattle.http_frames.proofs.Begun.{at_begun, begun_few, found_late, most}
use Rattle.http_frames.proofs.Completions.{Completed, completed, whole_line}
use Rattle.http_frames.proofs.Lines.{Stays, line_stays, line_within}
use Rattle.http_frames.proofs.Pairs.{are_lines, paired_more, rest_paired}

-- more bytes, with which there is a unit
abbrev pub Becomes : (List ℕ → Unit → Type 0) → List ℕ → Type 0
Becomes P held = (more : List ℕ) × (u : Unit) × P (held ++ more) u × IsFound u

abbrev waits : Unit → Bool
waits NotYet = true
waits u = false

never : {A : Type 0} (u : Unit) → NotYet ≡ u → waits u ≡ false → A
never u is other = absurd (false≢true (sym other ∙ sym (ap waits is)))

-- the rest of CR LF CR LF, behind what has begun
module _ (text : List ℕ) where
  abbrev more : List ℕ
  more = drop (begun text) crlf2

  abbrev place : ℕ
  place = length text - begun text

  size : length (text ++ more) ≡ place + 4
  size = omega (arith, length-append text more, length-drop (begun text) crlf2, begun_few text, (at_begun text).fits)

  reads : (j : ℕ) → j < 4 → slice_index (text ++ more) (place + j) ≡ slice_index crlf2 j
  reads j less =
      elim (nat_lt j (begun text)) as (λ t. nat_lt j (begun text) ≡ t → slice_index (text ++ more) (place + j) ≡ slice_index crlf2 j) [
        | true ↦ λ h.
            let few = ltb-true j (begun text) h in
            get_or_append_left text more 0 (place + j) (omega (arith, few, (at_begun text).fits)) ∙ (at_begun text).reads j few
        | false ↦ λ h.
            let many = ltb-false j (begun text) h in
            let at : begun text + (place + j - length text) ≡ j = omega (arith, many, (at_begun text).fits) in
            get_or-append_right text more (length text) (place + j) 0 refl (omega (arith, many, (at_begun text).fits))
            ∙ get_or-drop (begun text) crlf2 (place + j - length text) 0 ∙ ap (slice_index crlf2) at
      ] refl

  first : FindsNeedle text crlf2 0 None → FindsNeedle (text ++ more) crlf2 0 (Some place)
  first nowhere = (
    record {
      low = omega arith;
      high = omega (arith, size);
      before = λ q low less here. absurd (omega (arith, less, found_late text more q nowhere here));
    },
    record { fits = omega (arith, size); reads = reads },
  )

-- the text with that rest is made of lines, if it was
joined : (text : List ℕ) → is_paired false text ≡ true → is_paired false (take (place text + 4) (text ++ more text)) ≡ true
joined text lines =
    ap (is_paired false) (take_all (place text + 4) (text ++ more text) (omega (arith, size text)))
    ∙ paired_more false text (more text) lines (rest_paired text (begun text) (begun_few text) (at_begun text) (λ one. most text 1 (omega arith) one))

no_fault : (long lines : Bool) → NotYet ≡ cond long (Fault BadChunk) (cond lines NotYet (Fault BadChunk)) → (long ≡ false) × (lines ≡ true)
no_fault true lines is = never (Fault BadChunk) is refl
no_fault false true is = (refl, refl)
no_fault false false is = never (Fault BadChunk) is refl

over : (long lines : Bool) (end : ℕ) → waits (cond long (Fault BadChunk) (cond lines (Finished end) (Fault BadChunk))) ≡ false
over true lines end = refl
over false true end = refl
over false false end = refl

end_becomes : (at : ℕ) (held : List ℕ) → at ≤ length held → (p : Option ℕ) → FindsNeedle (drop at held) crlf2 0 p → NotYet ≡ trailers_by at (drop at held) p false
    → Becomes (λ h u. IsEnd at h false u) held
end_becomes at held inside (Some k) found is = never (trailers_by at (drop at held) (Some k) false) is (over (nat_lt 60000 (k + 2)) (is_paired false (take (k + 4) (drop at held))) (at + k + 4))
end_becomes at held inside None found is =
    let text = drop at held in
    let k = place text in
    let none = no_fault (nat_lt 60002 (length text + (4 - begun text))) (is_paired false text) is in
    let few = ltb-false 60002 (length text + (4 - begun text)) none.0 in
    let short = le-ltb 60000 (k + 2) (omega (arith, few, begun_few text, (at_begun text).fits)) in
    let rest = drop-append-le at held (more text) inside in (
      more text,
      Finished (at + k + 4),
      (
        Some k,
        subst (λ t. FindsNeedle t crlf2 0 (Some k)) (sym rest) (first text found),
        sym (ap (λ t. whole_trailers at t k) rest ∙ cond-false (nat_lt 60000 (k + 2)) _ _ short ∙ are_lines (take (k + 4) (text ++ more text)) (Finished (at + k + 4)) (joined text none.1)),
      ),
      tt,
    )

at_front : FindsNeedle crlf2 crlf2 0 (Some 0)
at_front = (
  record { low = omega arith; high = omega arith; before = λ q low less here. absurd (omega (arith, less)) },
  record { fits = omega arith; reads = λ j less. ap (slice_index crlf2) (omega arith) },
)

by_size : (before : ℕ) (front long : List ℕ) (at : ℕ) → drop at long ≡ crlf2 → at ≡ before + (length front + 2 - 2) → (size : ℕ)
    → (u : Unit) × IsUnitOf before (line.Whole (length front + 2) size) long false u × IsFound u
by_size before front long at behind is zero = (
  Finished (at + 0 + 4),
  subst (λ n. IsEnd n long false (Finished (at + 0 + 4))) is
      (Some 0, subst (λ t. FindsNeedle t crlf2 0 (Some 0)) (sym behind) at_front, sym (ap (λ t. whole_trailers at t 0) behind)),
  tt,
)
by_size before front long at behind is (suc size) = (ChunkLine (before + (length front + 2)) (suc size), refl, tt)

line_completes : (before : ℕ) (held : List ℕ) → before ≤ length held → Completed (drop before held) → Becomes (λ h u. IsLineUnit before h false u) held
line_completes before held inside c =
    let long = held ++ c.more in
    let front = c.front in
    let rest : drop before long ≡ front ++ crlf2 = drop-append-le before held c.more inside ∙ c.same in
    let is_line = ap line_of rest ∙ whole_line front (13 ∷ 10 ∷ []) c.is_text in
    let at = before + (length front + 2 - 2) in
    let behind : drop at long ≡ crlf2 =
    ap (λ n. drop n long) (omega arith) ∙ sym (drop-drop (length front) before long) ∙ ap (drop (length front)) rest ∙ drop-append_seam front crlf2 in
    let found : (size : ℕ) → (u : Unit) × IsUnitOf before (line.Whole (length front + 2) size) long false u × IsFound u = λ size. by_size before front long at behind refl size in
    let u = found (line_size front) in
    (c.more, u.0, subst (λ l. IsUnitOf before l long false u.0) (sym is_line) u.1, u.2)

of_line : (before : ℕ) (held : List ℕ) → before ≤ length held → (l : Line) → line_of (drop before held) ≡ l → IsUnitOf before l held false NotYet → Becomes (λ h u. IsLineUnit before h false u) held
of_line before held inside line.Begins e is = line_completes before held inside (completed (drop before held) e)
of_line before held inside line.Never e is = never (Fault BadChunk) is refl
of_line before held inside (line.Whole size (suc n)) e is = never (ChunkLine (before + size) (suc n)) is refl
of_line before held inside (line.Whole size zero) e is =
    let text = drop before held in
    let within = subst (IsWithin (length text)) e (line_within text) in
    let end = end_becomes (before + (size - 2)) held (omega (arith, inside, within.0, within.2, length-drop before held)) is.0 is.1 is.2 in
    let same = ap line_of (drop-append-le before held end.0 inside) ∙ subst (λ l. Stays l (line_of (text ++ end.0))) e (line_stays text end.0) in
    (end.0, end.1, subst (λ l. IsUnitOf before l (held ++ end.0) false end.1) (sym same) end.2, end.3)

line_becomes : (before : ℕ) (held : List ℕ) → before ≤ length held → IsLineUnit before held false NotYet → Becomes (λ h u. IsLineUnit before h false u) held
line_becomes before held inside is = of_line before held inside (line_of (drop before held)) refl is

-- behind the CRLF that closes a chunk
fresh_line : Becomes (λ h u. IsLineUnit 2 h false u) (13 ∷ 10 ∷ [])
fresh_line = line_becomes 2 (13 ∷ 10 ∷ []) (omega arith) refl

behind_cut_cr : Becomes (λ h u. IsNextUnit h false u) (13 ∷ [])
behind_cut_cr = (10 ∷ fresh_line.0, fresh_line.1, fresh_line.2, fresh_line.3)

next_becomes : (held : List ℕ) → IsNextUnit held false NotYet → Becomes (λ h u. IsNextUnit h false u) held
next_becomes [] is = (13 ∷ 10 ∷ fresh_line.0, fresh_line.1, fresh_line.2, fresh_line.3)
next_becomes (x ∷ []) is =
    elim (x == 13) as (λ t. (x == 13) ≡ t → IsUnitBehind (cond t Due Other) (x ∷ []) false NotYet → Becomes (λ h u. IsNextUnit h false u) (x ∷ [])) [
      | true ↦ λ h i. subst (λ y. Becomes (λ g u. IsNextUnit g false u) (y ∷ [])) (sym (eqb-true x 13 h)) behind_cut_cr
      | false ↦ λ h i. never (Fault BadChunk) i refl
    ] refl is
next_becomes (x ∷ y ∷ rest) is =
    let held : List ℕ = x ∷ y ∷ rest in
    elim (x == 13) as (λ t. IsUnitBehind (cond t (behind_cr (y ∷ rest)) Other) held false NotYet
    → (more : List ℕ) × (u : Unit) × IsUnitBehind (cond t (behind_cr (y ∷ (rest ++ more))) Other) (held ++ more) false u × IsFound u) [
      | true ↦ elim (y == 10) as (λ t. IsUnitBehind (cond t (There rest) Other) held false NotYet
          → (more : List ℕ) × (u : Unit) × IsUnitBehind (cond t (There (rest ++ more)) Other) (held ++ more) false u × IsFound u) [
            | true ↦ λ i. line_becomes 2 held (omega arith) i
            | false ↦ λ i. never (Fault BadChunk) i refl
          ]
      | false ↦ λ i. never (Fault BadChunk) i refl
    ] is

piece_becomes : (left : ℕ) (held : List ℕ) → NotYet ≡ piece left held false → Becomes (λ h u. u ≡ piece left h false) held
piece_becomes left [] is = (0 ∷ [], Piece (min left 1), refl, tt)
piece_becomes left (b ∷ held) is = never (piece left (b ∷ held) false) is refl

left_becomes : (left : ℕ) (held : List ℕ) → NotYet ≡ left_unit left held false → Becomes (λ h u. u ≡ left_unit left h false) held
left_becomes zero held is = never (Finished 0) is refl
left_becomes (suc left) held is = piece_becomes (suc left) held is

chunk_becomes : (left : ℕ) (held : List ℕ) → IsChunkUnit left held false NotYet → Becomes (λ h u. IsChunkUnit left h false u) held
chunk_becomes zero held is = next_becomes held is
chunk_becomes (suc left) held is = piece_becomes (suc left) held is

end_of_stream : (held : List ℕ) → NotYet ≡ to_end held false → Becomes (λ h u. u ≡ to_end h false) held
end_of_stream [] is = (0 ∷ [], Piece 1, refl, tt)
end_of_stream (b ∷ held) is = never (to_end (b ∷ held) false) is refl

pub not_yet_may_become : NotYetMayBecome
not_yet_may_become (state.Left left) held is = left_becomes left held is
not_yet_may_become state.FirstLine held is = line_becomes 0 held (omega arith) is
not_yet_may_become (state.Chunk left) held is = chunk_becomes left held is
not_yet_may_become state.NextLine held is = next_becomes held is
not_yet_may_become state.ToEnd held is = end_of_stream held is
