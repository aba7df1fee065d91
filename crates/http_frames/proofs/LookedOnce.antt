-- What was looked at once isn't looked at again.
use Rattle.std.proofs.Common.{◌≡◌, ℕ, zero, suc, ◌+◌, ◌-◌, ◌<◌, ◌≤◌, Bool, true, false, ◌&&◌, ◌==◌, List, [], ◌∷◌, ◌++◌, length, take, drop, Option, Some, None, nat_lt, refl, sym, ap, subst, ◌∙◌, arith, true≢false}
use Rattle.std.specs.Prelude.{slice_index, if◌then◌else◌}
use Rattle.std.proofs.lemmas.Bool.{and_parts, ltb-false, ltb-true}
use Rattle.std.proofs.lemmas.List.{drop-append-le, drop-take, length-append, length-drop, take-append-drop, take-append-le}
use Rattle.memchr.specs.Find.{FindsNeedle, first_of, matches}
use Rattle.px_bytes.specs.declared.fault.HttpFault.TheVariants.{BadChunk}
use Rattle.seg_buffer.specs.Bytes.{crlf2}
use Rattle.http_frames.specs.ChunkLines.{IsWithin, line_of}
use Rattle.http_frames.specs.Looked.{EndLookedAt, LineLookedAt, LookedAt, NoEnd, cr_before}
use Rattle.http_frames.specs.NextUnit.{line_unit}
use Rattle.http_frames.specs.Units.{is_paired, may_follow, trailers_by}
use Rattle.http_frames.specs.declared.chunk_line.Line.{Line}
use Rattle.http_frames.specs.declared.chunk_line.Line.TheVariants.{Whole, Begins, Never}
use Rattle.http_frames.specs.declared.state.BodyState.{BodyState}
use Rattle.http_frames.specs.declared.state.BodyState.TheVariants.{FirstLine, NextLine}
use Rattle.http_frames.specs.declared.unit.Unit.{Unit}
use Rattle.http_frames.specs.declared.unit.Unit.TheVariants.{Piece, ChunkLine, Finished, NotYet, Fault}
use Rattle.http_frames.proofs.Lines.{Stays, line_stays, line_within}
use Rattle.seg_buffer.proofs.Places.{did_occur, place_is}

-- ---- lines that were read up to a place

same_cr : (n x : ℕ) (text : List ℕ) → (slice_index (x ∷ text) n == 13) ≡ cr_before (x == 13) n text
same_cr zero x text = refl
same_cr (suc n) x text = refl

-- the byte before a place
pub cr_none : (from : ℕ) (text : List ℕ) → from ≡ 0 → false ≡ cr_before false from text
cr_none zero text is = refl
cr_none (suc n) text is = absurd (omega (arith, is))

pub cr_some : (from : ℕ) (text : List ℕ) → 0 < from → (slice_index text (from - 1) == 13) ≡ cr_before false from text
cr_some zero text some = absurd (omega (arith, some))
cr_some (suc n) text some =
    let place : suc n - 1 ≡ n = omega arith in ap (λ k. slice_index text k == 13) place

pub paired_on : (b : Bool) (from : ℕ) (text : List ℕ) → from ≤ length text → is_paired b (take from text) ≡ true
    → is_paired (cr_before b from text) (drop from text) ≡ is_paired b text
paired_on b zero text inside lines = refl
paired_on b (suc n) [] inside lines = absurd (omega (arith, inside))
paired_on b (suc n) (x ∷ text) inside lines =
    let both = and_parts (may_follow b x) (is_paired (x == 13) (take n text)) lines in
    ap (λ t. is_paired t (drop n text)) (same_cr n x text)
    ∙ paired_on (x == 13) n text (omega (arith, inside)) both.1
    ∙ sym (ap (λ t. t && is_paired (x == 13) text) both.0)

paired_front : (b : Bool) (n : ℕ) (text : List ℕ) → is_paired b text ≡ true → is_paired b (take n text) ≡ true
paired_front b zero text lines = refl
paired_front b (suc n) [] lines = refl
paired_front b (suc n) (x ∷ text) lines =
    let both = and_parts (may_follow b x) (is_paired (x == 13) text) lines in
    ap (λ t. t && is_paired (x == 13) (take n text)) both.0 ∙ paired_front (x == 13) n text both.1

-- ---- what waits for the end of trailers holds none

abbrev is_none_yet : Unit → Bool
is_none_yet NotYet = true
is_none_yet (Piece n) = false
is_none_yet (ChunkLine n size) = false
is_none_yet (Finished n) = false
is_none_yet (Fault f) = false

whole_by : (b p : Bool) (n : ℕ) → (if b then Fault BadChunk else (if p then Finished n else Fault BadChunk)) ≡ NotYet → true ≡ false
whole_by true p n is = sym (ap is_none_yet is)
whole_by false true n is = sym (ap is_none_yet is)
whole_by false false n is = sym (ap is_none_yet is)

open_by : (b p : Bool) → (if b then Fault BadChunk else (if p then NotYet else Fault BadChunk)) ≡ NotYet → p ≡ true
open_by true p is = absurd (true≢false (sym (ap is_none_yet is)))
open_by false true is = refl
open_by false false is = absurd (true≢false (sym (ap is_none_yet is)))

record Waits (text : List ℕ) : Type 0 where
  none : FindsNeedle text crlf2 0 None
  lines : is_paired false text ≡ true

waits_by : (at : ℕ) (text : List ℕ) (place : Option ℕ) → FindsNeedle text crlf2 0 place → trailers_by at text place false ≡ NotYet → Waits text
waits_by at text (Some place) found is = absurd (true≢false (whole_by _ _ _ is))
waits_by at text None found is = record { none = found; lines = open_by _ _ is }

-- ---- the bytes that were looked at

abbrev is_whole : Line → Bool
is_whole (Whole size n) = true
is_whole Begins = false
is_whole Never = false

nothing : (text : List ℕ) (from : ℕ) → from ≡ 0 → NoEnd text from
nothing text from is = record {
  inside = omega (arith, is);
  none = λ k low less. absurd (omega (arith, less, is));
  lines = ap (λ n. is_paired false (take n text)) is;
}

pub none_looked : (before : ℕ) (held : List ℕ) (looked : ℕ) → looked ≡ 0 → EndLookedAt before held looked
none_looked before held looked is = λ size line. nothing (drop (before + (size - 2)) held) _ (omega (arith, is))

-- of a text and what follows it
no_end : (text more : List ℕ) (from : ℕ) → Waits text → from + 3 ≤ length text → NoEnd (text ++ more) from
no_end text more from waits less = record {
  inside = omega (arith, less, length-append text more);
  none = λ k low before here. waits.none k (omega arith) (omega (arith, before, less)) (did_occur text more k (omega (arith, before, less)) here);
  lines = ap (is_paired false) (take-append-le from text more (omega (arith, less))) ∙ paired_front false from text waits.lines;
}

-- the bytes that were looked at hold the line
module _ (before : ℕ) (held : List ℕ) (looked : ℕ) (there : before ≤ looked) (inside : looked ≤ length held) where
  abbrev more : List ℕ
  more = drop looked held

  apart : (n : ℕ) → n ≤ looked → drop n held ≡ drop n (take looked held) ++ more
  apart n few =
      let size : length (take looked held) ≡ looked = omega (arith, inside, ap length (take-append-drop looked held), length-append (take looked held) more, length-drop looked held) in
      sym (ap (drop n) (take-append-drop looked held)) ∙ drop-append-le n (take looked held) more (omega (arith, few, size))

  pub sub_line : take (looked - before) (drop before held) ≡ drop before (take looked held)
  sub_line =
      let sum : before + (looked - before) ≡ looked = omega (arith, there) in
      sym (drop-take before (looked - before) held) ∙ ap (λ n. drop before (take n held)) sum

  of_line : (size : ℕ) → LineLookedAt before held looked → line_of (drop before (take looked held)) ≡ Whole size 0
      → NoEnd (drop (before + (size - 2)) held) (looked - (before + (size - 2) + 3))
  of_line size known line =
      let at = before + (size - 2) in
      let f = take looked held in
      let long : length f ≡ looked = omega (arith, inside, ap length (take-append-drop looked held), length-append f more, length-drop looked held) in
      let within = subst (IsWithin (length (drop before f))) line (line_within (drop before f)) in
      let few : at ≤ looked = omega (arith, within.0, within.2, length-drop before f, long, there) in
      let waits = waits_by at (drop at f) (first_of (matches (drop at f) crlf2 0)) (place_is (drop at f)) (sym (ap (λ l. line_unit before l f false) line) ∙ known there) in
      elim (nat_lt looked (at + 3)) as (λ t. nat_lt looked (at + 3) ≡ t → NoEnd (drop at held) (looked - (at + 3))) [
        | true ↦ λ h. nothing (drop at held) _ (omega (arith, ltb-true looked (at + 3) h))
        | false ↦ λ h. subst (λ t. NoEnd t (looked - (at + 3))) (sym (apart at few)) (no_end (drop at f) more _ waits (omega (arith, ltb-false looked (at + 3) h, length-drop at f, long)))
      ] refl

  same_line : (l : Line) (size n whole : ℕ) → l ≡ Whole size n → Stays l (Whole whole 0) → l ≡ Whole whole 0
  same_line (Whole a b) size n whole is stays = sym stays
  same_line Begins size n whole is stays = absurd (true≢false (sym (ap is_whole is)))
  same_line Never size n whole is stays = absurd (true≢false (sym (ap is_whole is)))

  pub line_looked : (l n : ℕ) → LineLookedAt before held looked → line_of (take (looked - before) (drop before held)) ≡ Whole l n
      → EndLookedAt before held looked
  line_looked l n known found size line =
      let f = drop before (take looked held) in
      let found_front : line_of f ≡ Whole l n = sym (ap line_of sub_line) ∙ found in
      let stays : Stays (line_of f) (Whole size 0) =
      subst (Stays (line_of f)) (sym (ap line_of (apart before there)) ∙ line) (line_stays f more) in
      of_line size known (same_line (line_of f) l n size found_front stays)

-- ---- by the states of a body

pub none_yet : (s : BodyState) (held : List ℕ) → LookedAt s held 0
none_yet s held = λ less. absurd (omega (arith, less))

pub first_looked : (held : List ℕ) (looked : ℕ) → LookedAt FirstLine held looked → LineLookedAt 0 held looked
first_looked held zero known = λ less. refl
first_looked held (suc n) known = λ less. known (omega arith)

pub next_looked : (rest : List ℕ) (looked : ℕ) → LookedAt NextLine (13 ∷ 10 ∷ rest) looked → LineLookedAt 2 (13 ∷ 10 ∷ rest) looked
next_looked rest zero known = λ less. absurd (omega (arith, less))
next_looked rest (suc zero) known = λ less. absurd (omega (arith, less))
next_looked rest (suc (suc n)) known = λ less. known (omega arith)
