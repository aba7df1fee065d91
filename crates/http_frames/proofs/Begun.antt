-- How much of CR LF CR LF stands at the end of a text, and of a longer one.
use Rattle.std.proofs.Common.{◌≡◌, ℕ, zero, suc, ◌+◌, ◌-◌, ◌<◌, ◌≤◌, Bool, true, false, cond, List, [], ◌∷◌, ◌++◌, length, drop, nat_eq, nat_le, None, refl, sym, ap, subst, ◌∙◌, arith}
use Rattle.std.specs.Prelude.{slice_index}
use Rattle.std.specs.List.{ends_with}
use Rattle.std.proofs.lemmas.Bool.{leb-false, leb-true}
use Rattle.std.proofs.lemmas.List.{ext_get_or, get_or-drop, get_or_append_left, length-append, length-drop}
use Rattle.std.proofs.lemmas.Slice.Eq.{bytes_eq-Decides}
use Rattle.memchr.specs.Find.{FindsNeedle, OccursAt}
use Rattle.seg_buffer.specs.Bytes.{crlf2}
use Rattle.http_frames.specs.Units.{begun}
use Rattle.seg_buffer.proofs.Places.{did_occur}

-- so many bytes at the end begin CR LF CR LF
pub record AtEnd (text : List ℕ) (n : ℕ) : Type 0 where
  pub fits : n ≤ length text
  pub reads : (j : ℕ) → j < n → slice_index text (length text - n + j) ≡ slice_index crlf2 j

module _ (text p q : List ℕ) (front : crlf2 ≡ p ++ q) where
  part : (j : ℕ) → j < length p → slice_index p j ≡ slice_index crlf2 j
  part j less = sym (ap (λ l. slice_index l j) front ∙ get_or_append_left p q 0 j less)

  tested : AtEnd text (length p) → ends_with nat_eq text p ≡ true
  tested at =
      let k = length text - length p in
      (bytes_eq-Decides p (drop k text)).1 (ext_get_or 0 p (drop k text) (omega (arith, at.fits, length-drop k text))
      (λ j less. part j less ∙ sym (at.reads j less) ∙ sym (get_or-drop k text j 0)))

  stands : ends_with nat_eq text p ≡ true → AtEnd text (length p)
  stands test =
      let k = length text - length p in
      let same : p ≡ drop k text = (bytes_eq-Decides p (drop k text)).0 test in
      let size = ap length same in
      record {
        fits = omega (arith, size, length-drop k text);
        reads = λ j less. sym (get_or-drop k text j 0) ∙ sym (ap (λ l. slice_index l j) same) ∙ part j less;
      }

module _ (text : List ℕ) where
  abbrev three : Bool
  three = ends_with nat_eq text (13 ∷ 10 ∷ 13 ∷ [])

  abbrev two : Bool
  two = ends_with nat_eq text (13 ∷ 10 ∷ [])

  abbrev one : Bool
  one = ends_with nat_eq text (13 ∷ [])

  nothing : AtEnd text 0
  nothing = record { fits = omega arith; reads = λ j less. absurd (omega (arith, less)) }

  pub at_begun : AtEnd text (begun text)
  at_begun =
      elim three as (λ t. three ≡ t → AtEnd text (cond t 3 (cond two 2 (cond one 1 0)))) [
        | true ↦ λ h. stands text (13 ∷ 10 ∷ 13 ∷ []) (10 ∷ []) refl h
        | false ↦ λ g. elim two as (λ t. two ≡ t → AtEnd text (cond t 2 (cond one 1 0))) [
          | true ↦ λ h. stands text (13 ∷ 10 ∷ []) (13 ∷ 10 ∷ []) refl h
          | false ↦ λ f. elim one as (λ t. one ≡ t → AtEnd text (cond t 1 0)) [
            | true ↦ λ h. stands text (13 ∷ []) (10 ∷ 13 ∷ 10 ∷ []) refl h
            | false ↦ λ h. nothing
          ] refl
        ] refl
      ] refl

  at_most_three : (a b c : Bool) → cond a 3 (cond b 2 (cond c 1 0)) ≤ 3
  at_most_three a b c = grind arith

  pub begun_few : begun text ≤ 3
  begun_few = at_most_three three two one

  least_two : (a c : Bool) → 2 ≤ cond a 3 (cond true 2 (cond c 1 0))
  least_two a c = grind arith

  least_one : (a b : Bool) → 1 ≤ cond a 3 (cond b 2 (cond true 1 0))
  least_one a b = grind arith

  pub most : (n : ℕ) → n ≤ 3 → AtEnd text n → n ≤ begun text
  most zero few at = omega arith
  most (suc zero) few at = subst (λ t. 1 ≤ cond three 3 (cond two 2 (cond t 1 0))) (sym (tested text (13 ∷ []) (10 ∷ 13 ∷ 10 ∷ []) refl at)) (least_one three two)
  most (suc (suc zero)) few at = subst (λ t. 2 ≤ cond three 3 (cond t 2 (cond one 1 0))) (sym (tested text (13 ∷ 10 ∷ []) (13 ∷ 10 ∷ []) refl at)) (least_two three one)
  most (suc (suc (suc zero))) few at = subst (λ t. 3 ≤ cond t 3 (cond two 2 (cond one 1 0))) (sym (tested text (13 ∷ 10 ∷ 13 ∷ []) (10 ∷ []) refl at)) (omega arith)
  most (suc (suc (suc (suc n)))) few at = absurd (omega (arith, few))

module _ (text more : List ℕ) where
  begun_left : AtEnd text (begun (text ++ more) - length more)
  begun_left =
      let long = at_begun (text ++ more) in
      let b = begun (text ++ more) in
      record {
        fits = omega (arith, long.fits, length-append text more);
        reads = λ j less.
            let inside : length text - (b - length more) + j < length text = omega (arith, less, long.fits, length-append text more) in
            let place : length (text ++ more) - b + j ≡ length text - (b - length more) + j = omega (arith, less, long.fits, length-append text more) in
            sym (get_or_append_left text more 0 (length text - (b - length more) + j) inside)
            ∙ sym (ap (slice_index (text ++ more)) place) ∙ long.reads j (omega (arith, less));
      }

  -- further bytes add no more than they are
  pub begun_more : begun (text ++ more) ≤ begun text + length more
  begun_more = omega (arith, most text (begun (text ++ more) - length more) (omega (arith, begun_few (text ++ more))) begun_left)

  late : (q : ℕ) → length text < q + 4 → OccursAt (text ++ more) crlf2 q → length text - q ≤ begun text
  late q outside here =
      most text (length text - q) (omega (arith, outside)) (record {
        fits = omega arith;
        reads = λ j less.
            let inside : length text - (length text - q) + j < length text = omega (arith, less) in
            let place : q + j ≡ length text - (length text - q) + j = omega (arith, less) in
            sym (get_or_append_left text more 0 (length text - (length text - q) + j) inside)
            ∙ sym (ap (slice_index (text ++ more)) place) ∙ here.reads j (omega (arith, less, outside));
      })

  -- what isn't in a text ends behind it in a longer one
  pub found_late : (q : ℕ) → FindsNeedle text crlf2 0 None → OccursAt (text ++ more) crlf2 q → length text ≤ q + begun text
  found_late q nowhere here =
      elim (nat_le (q + 4) (length text)) as (λ t. nat_le (q + 4) (length text) ≡ t → length text ≤ q + begun text) [
        | true ↦ λ h. let inside = leb-true (q + 4) (length text) h in absurd (nowhere q (omega arith) (omega (arith, inside)) (did_occur text more q inside here))
        | false ↦ λ h. omega (arith, late q (leb-false (q + 4) (length text) h) here)
      ] refl
