-- A look behind what was looked at before finds what a look at all finds.
use Rattle.std.proofs.Common.{◌≡◌, ℕ, ◌+◌, ◌-◌, ◌<◌, ◌≤◌, Bool, true, false, ◌&&◌, ◌==◌, List, [], ◌∷◌, ◌++◌, length, take, drop, nat_eq, nat_le, Option, Some, None, if◌then◌else◌, refl, sym, ap, subst, ◌∙◌, arith, ◌⊎◌, inl, inr, ⊎_elim}
use Rattle.std.proofs.lemmas.Bool.{eq-eqb, false≢true, leb-false, ne_eqb}
use Rattle.std.proofs.lemmas.List.{drop-append-le, drop-drop, length-append, length-drop, length-take, take-append-drop, take-append-le, take-take, take_all}
use Rattle.std.proofs.Math.ListN.{drop_of_length-le}
use Rattle.memchr.specs.Find.{FindsNeedle, Nowhere, OccursAt, first_of, matches}
use Rattle.memchr.proofs.lemmas.ValueLemmas.{FindsNeedle-value}
use Rattle.seg_buffer.specs.Bytes.{crlf2, is_empty}
use Rattle.seg_buffer.proofs.Places.{did_occur, place_is}
use Rattle.http_heads.specs.Fronts.{Looks, LooksAll, WereLooked, begins_blank, blank_length, head_by, head_limit, head_part, headless, none_looked}
use Rattle.http_heads.specs.declared.front.HeadPart.{HeadPart}
use Rattle.http_heads.specs.declared.front.HeadPart.TheVariants.{HeadOf, StreamEnds, Faulty, NoHead}
use Rattle.http_heads.specs.declared.front.Looked.{Looked}

-- ---- empty lines

pub blank_few : (text : List ℕ) → blank_length text ≤ length text
blank_few [] = omega arith
blank_few (x ∷ []) = omega arith
blank_few (x ∷ y ∷ rest) = by_test (x == 13 && y == 10) (blank_few rest)
  where
    by_test : (b : Bool) → blank_length rest ≤ length rest → (if b then 2 + blank_length rest else 0) ≤ length (x ∷ y ∷ rest)
    by_test true few = omega (arith, few)
    by_test false few = omega arith

-- so many bytes at the front are empty lines, no fewer than a count of steps
pub record AreBlank (text : List ℕ) (steps blank : ℕ) : Type 0 where
  pub inside : blank ≤ length text
  pub ahead : steps ≤ blank
  pub rest : blank_length text ≡ blank + blank_length (drop blank text)

-- a line more
record OneLine (text : List ℕ) : Type 0 where
  some : 2 ≤ length text
  more : blank_length text ≡ 2 + blank_length (drop 2 text)

one_line : (text : List ℕ) → begins_blank text ≡ true → OneLine text
one_line [] is = absurd (false≢true is)
one_line (x ∷ []) is = absurd (false≢true is)
one_line (x ∷ y ∷ rest) is = record { some = omega arith; more = ap (λ b. if b then 2 + blank_length rest else 0) is }

no_line : (text : List ℕ) → begins_blank text ≡ false → blank_length text ≡ 0
no_line [] is = refl
no_line (x ∷ []) is = refl
no_line (x ∷ y ∷ rest) is = ap (λ b. if b then 2 + blank_length rest else 0) is

pub blank_on : {text : List ℕ} {steps blank : ℕ} → AreBlank text steps blank → begins_blank (drop blank text) ≡ true
    → AreBlank text (steps + 1) (blank + 2)
blank_on {text} {steps} {blank} are is =
    let line = one_line (drop blank text) is in
    let more : blank_length (drop blank text) ≡ 2 + blank_length (drop (blank + 2) text) =
    line.more ∙ ap (λ t. 2 + blank_length t) (drop-drop 2 blank text) in
    record {
      inside = omega (arith, are.inside, line.some, length-drop blank text);
      ahead = omega (arith, are.ahead);
      rest = omega (arith, are.rest, more);
    }

pub blank_end : {text : List ℕ} {steps blank : ℕ} → AreBlank text steps blank → begins_blank (drop blank text) ≡ false
    → blank ≡ blank_length text
blank_end {text} {steps} {blank} are is = omega (arith, are.rest, no_line (drop blank text) is)

pub all_blank : {text : List ℕ} {steps blank : ℕ} → AreBlank text steps blank → length text ≤ steps → blank ≡ blank_length text
all_blank {text} {steps} {blank} are all =
    let none : drop blank text ≡ [] = drop_of_length-le text (omega (arith, all, are.ahead)) in
    omega (arith, are.rest, ap blank_length none)

line_or_none : (b : Bool) (x y : ℕ) (rest : List ℕ) → (x == 13 && y == 10) ≡ b
    → blank_length (x ∷ y ∷ rest) ≡ (if b then 2 + blank_length rest else 0)
line_or_none b x y rest is = ap (λ t. if t then 2 + blank_length rest else 0) is

-- of a text and what follows it
blank_grown : (text more : List ℕ)
    → blank_length (text ++ more) ≡ blank_length text + blank_length (drop (blank_length text) (text ++ more))
blank_grown [] more = omega arith
blank_grown (x ∷ []) more = omega arith
blank_grown (x ∷ y ∷ rest) more = by_test (x == 13 && y == 10) refl (blank_grown rest more)
  where
    all : List ℕ
    all = x ∷ y ∷ rest ++ more

    by_test : (b : Bool) → (x == 13 && y == 10) ≡ b → blank_length (rest ++ more) ≡ blank_length rest + blank_length (drop (blank_length rest) (rest ++ more))
        → blank_length all ≡ blank_length (x ∷ y ∷ rest) + blank_length (drop (blank_length (x ∷ y ∷ rest)) all)
    by_test true is on =
        let front = line_or_none true x y rest is in
        let behind = ap (λ n. blank_length (drop n all)) front ∙ ap blank_length (sym (drop-drop (blank_length rest) 2 all)) in
        omega (arith, front, line_or_none true x y (rest ++ more) is, behind, on)
    by_test false is on =
        let front = line_or_none false x y rest is in
        omega (arith, front, ap (λ n. blank_length (drop n all)) front)

blank_near : (text more : List ℕ) → (blank_length (text ++ more) ≡ blank_length text) ⊎ (length text < blank_length text + 2)
blank_near [] more = inr (omega arith)
blank_near (x ∷ []) more = inr (omega arith)
blank_near (x ∷ y ∷ rest) more = by_test (x == 13 && y == 10) (blank_near rest more)
  where
    by_test : (b : Bool) → (blank_length (rest ++ more) ≡ blank_length rest) ⊎ (length rest < blank_length rest + 2)
        → ((if b then 2 + blank_length (rest ++ more) else 0) ≡ (if b then 2 + blank_length rest else 0))
        ⊎ (length (x ∷ y ∷ rest) < (if b then 2 + blank_length rest else 0) + 2)
    by_test true (inl same) = inl (ap (λ n. 2 + n) same)
    by_test true (inr near) = inr (omega (arith, near))
    by_test false either = inl refl

-- ---- where no head stands

abbrev is_no_head : HeadPart → Bool
is_no_head NoHead = true
is_no_head other = false

record IsOpen (place : Option ℕ) (long ended : Bool) : Type 0 where
  none : place ≡ None
  short : long ≡ false
  more : ended ≡ false

open_by : (blank : ℕ) (place : Option ℕ) (long ended empty : Bool) → head_by blank place long ended empty ≡ NoHead
    → IsOpen place long ended
open_by blank (Some k) long ended empty is = absurd (false≢true (ap is_no_head is))
open_by blank None true ended empty is = absurd (false≢true (ap is_no_head is))
open_by blank None false true true is = absurd (false≢true (ap is_no_head is))
open_by blank None false true false is = absurd (false≢true (ap is_no_head is))
open_by blank None false false empty is = record { none = refl; short = refl; more = refl }

abbrev place_in : List ℕ → Option ℕ
place_in front = first_of (matches (drop (blank_length front) front) crlf2 0)

open_front : (unread : List ℕ) (ended : Bool) → head_part unread ended ≡ NoHead
    → IsOpen (place_in (take head_limit unread)) (nat_le head_limit (length unread)) ended
open_front unread ended is = open_by _ _ _ _ _ is

-- all of a short text is looked at
short_front : (unread : List ℕ) → nat_le head_limit (length unread) ≡ false → take head_limit unread ≡ unread
short_front unread short = take_all head_limit unread (omega (arith, leb-false head_limit (length unread) short))

-- ---- what was looked at, in the bytes in which a head is looked for

module _ (looked : Looked) (unread : List ℕ) (were : WereLooked looked unread) where
  abbrev front : List ℕ
  front = take head_limit unread

  abbrev seen : List ℕ
  seen = take looked.size unread

  seen_size : length seen ≡ looked.size
  seen_size = omega (arith, length-take looked.size unread, were.inside)

  no_head : IsOpen (place_in (take head_limit seen)) (nat_le head_limit (length seen)) false
  no_head = open_front seen false were.none

  seen_few : looked.size < 65536
  seen_few = omega (arith, leb-false head_limit (length seen) no_head.short, seen_size)

  seen_front : take looked.size front ≡ seen
  seen_front = take-take looked.size head_limit unread (omega (arith, seen_few))

  grows : front ≡ seen ++ drop looked.size front
  grows = sym (take-append-drop looked.size front) ∙ ap (λ t. t ++ drop looked.size front) seen_front

  seen_none : FindsNeedle (drop (blank_length seen) seen) crlf2 0 None
  seen_none =
      let all = short_front seen no_head.short in
      subst (FindsNeedle (drop (blank_length seen) seen) crlf2 0) (sym (ap place_in all) ∙ no_head.none)
      (place_is (drop (blank_length seen) seen))

  pub blank_inside : looked.blank ≤ length front
  blank_inside = omega (arith, were.blank, blank_few seen, seen_size, length-take head_limit unread, were.inside, seen_few)

  pub blank_goes_on : blank_length front ≡ looked.blank + blank_length (drop looked.blank front)
  blank_goes_on =
      subst (λ t. blank_length t ≡ looked.blank + blank_length (drop looked.blank t)) (sym grows)
      (subst (λ n. blank_length (seen ++ drop looked.size front) ≡ n + blank_length (drop n (seen ++ drop looked.size front))) (sym were.blank)
      (blank_grown seen (drop looked.size front)))

  none_same : blank_length front ≡ blank_length seen
      → Nowhere (OccursAt (drop (blank_length front) front) crlf2) 0 (looked.size - (blank_length front + 3))
  none_same same k low less here =
      let more = drop looked.size front in
      let apart : drop (blank_length front) front ≡ drop (blank_length seen) seen ++ more =
      ap (λ n. drop n front) same ∙ ap (drop (blank_length seen)) grows ∙ drop-append-le (blank_length seen) seen more (blank_few seen) in
      let size = length-drop (blank_length seen) seen in
      let there = subst (λ t. OccursAt t crlf2 k) apart here in
      seen_none k low (omega (arith, less, same, size, seen_size))
      (did_occur (drop (blank_length seen) seen) more k (omega (arith, less, same, size, seen_size)) there)

  none_near : looked.size < blank_length seen + 2
      → Nowhere (OccursAt (drop (blank_length front) front) crlf2) 0 (looked.size - (blank_length front + 3))
  none_near near k low less here = absurd (omega (arith, less, near, blank_goes_on, were.blank))

  none_there : Nowhere (OccursAt (drop (blank_length front) front) crlf2) 0 (looked.size - (blank_length front + 3))
  none_there = ⊎_elim
      (λ same. none_same (ap blank_length grows ∙ same))
      (λ near. none_near (subst (λ n. n < blank_length seen + 2) seen_size near))
      (blank_near seen (drop looked.size front))

  -- the end of a head stands nowhere in it, but for the last three bytes
  pub none_seen : (blank : ℕ) → blank ≡ blank_length front → Nowhere (OccursAt (drop blank front) crlf2) 0 (looked.size - (blank + 3))
  none_seen blank is = subst (λ n. Nowhere (OccursAt (drop n front) crlf2) 0 (looked.size - (n + 3))) (sym is) none_there

  pub seen_inside : (blank : ℕ) → looked.size - (blank + 3) ≤ length (drop blank front)
  seen_inside blank = omega (arith, length-drop blank front, length-take head_limit unread, seen_few, were.inside)

-- ---- what a look gives

module _ (unread : List ℕ) (ended : Bool) where
  abbrev here : List ℕ
  here = take head_limit unread

  pub part_is : (place : Option ℕ) → FindsNeedle (drop (blank_length here) here) crlf2 0 place
      → head_by (blank_length here) place (nat_le head_limit (length unread)) ended (is_empty (drop (blank_length here) here))
      ≡ head_part unread ended
  part_is place found =
      ap (λ p. head_by (blank_length here) p (nat_le head_limit (length unread)) ended (is_empty (drop (blank_length here) here)))
      (FindsNeedle-value (drop (blank_length here) here) crlf2 place found)

empty_by : (n : ℕ) (text : List ℕ) → n ≤ length text → nat_eq (length text) n ≡ is_empty (drop n text)
empty_by n text few = by_rest (drop n text) (length-drop n text)
  where
    by_rest : (rest : List ℕ) → length rest ≡ length text - n → nat_eq (length text) n ≡ is_empty rest
    by_rest [] size = eq-eqb (length text) n (omega (arith, size, few))
    by_rest (x ∷ rest) size = ne_eqb (length text) n (λ same. omega (arith, size, same))

-- no end of a head stands there
headless_is : (unread : List ℕ) (ended : Bool) (blank : ℕ) → blank ≡ blank_length (take head_limit unread)
    → (long : Bool) → nat_le head_limit (length unread) ≡ long
    → headless long ended (nat_eq (length unread) blank) ≡ headless long ended (is_empty (drop blank (take head_limit unread)))
headless_is unread ended blank is true long = refl
headless_is unread ended blank is false short =
    let all = short_front unread short in
    let few : blank ≤ length unread = omega (arith, is, blank_few (take head_limit unread), ap length all) in
    ap (headless false ended) (empty_by blank unread few ∙ ap (λ t. is_empty (drop blank t)) (sym all))

module _ (unread : List ℕ) (ended : Bool) (blank : ℕ) (is : blank ≡ blank_length (take head_limit unread)) where
  pub found_is : (place : ℕ) → FindsNeedle (drop blank (take head_limit unread)) crlf2 0 (Some place)
      → HeadOf (blank + place + 4) ≡ head_part unread ended
  found_is place found =
      ap (λ n. HeadOf (n + place + 4)) is
      ∙ part_is unread ended (Some place) (subst (λ n. FindsNeedle (drop n (take head_limit unread)) crlf2 0 (Some place)) is found)

  pub none_is : FindsNeedle (drop blank (take head_limit unread)) crlf2 0 None
      → headless (nat_le head_limit (length unread)) ended (nat_eq (length unread) blank) ≡ head_part unread ended
  none_is none =
      headless_is unread ended blank is (nat_le head_limit (length unread)) refl
      ∙ ap (λ n. headless (nat_le head_limit (length unread)) ended (is_empty (drop n (take head_limit unread)))) is
      ∙ part_is unread ended None (subst (λ n. FindsNeedle (drop n (take head_limit unread)) crlf2 0 None) is none)

  pub looks_all : (part : HeadPart) (old new : Looked) → part ≡ head_part unread ended
      → LooksAll part old new (length unread) blank → Looks part old new unread
  looks_all (HeadOf n) old new part same = same
  looks_all StreamEnds old new part same = same
  looks_all (Faulty f) old new part same = same
  looks_all NoHead old new part same =
      let waits = open_front unread ended (sym part) in
      let whole : take (length unread) unread ≡ unread = take_all (length unread) unread (omega arith) in
      let here : WereLooked (record { size = length unread; blank = blank }) unread = record {
        inside = omega arith;
        blank = is ∙ ap blank_length (short_front unread waits.short ∙ sym whole);
        none = ap (λ t. head_part t false) whole ∙ sym (part ∙ ap (head_part unread) waits.more);
      } in
      subst (λ t. (t.size ≡ length unread) × WereLooked t unread) (sym same) (refl, here)

-- ---- more behind what was looked at

pub looked_stay : (looked : Looked) (unread more : List ℕ) → WereLooked looked unread → WereLooked looked (unread ++ more)
looked_stay looked unread more were =
    let front = take-append-le looked.size unread more were.inside in
    record {
      inside = omega (arith, were.inside, length-append unread more);
      blank = were.blank ∙ ap blank_length (sym front);
      none = ap (λ t. head_part t false) front ∙ were.none;
    }

pub none_were : (unread : List ℕ) → WereLooked none_looked unread
none_were unread = record {
  inside = omega arith;
  blank = refl;
  none = ap (λ p. head_by 0 p false false true) (sym (FindsNeedle-value [] crlf2 None (λ k low less here. absurd (omega (arith, here.fits)))));
}
