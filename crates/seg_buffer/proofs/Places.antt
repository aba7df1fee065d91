-- Where CR LF CR LF stands in a text, and in a longer one.
use Rattle.std.proofs.Common.{◌≡◌, ℕ, zero, suc, ◌+◌, ◌-◌, ◌≤◌, true, false, List, ◌++◌, length, drop, Option, Some, None, nat_lt, refl, sym, ap, subst, ◌∙◌, arith}
use Rattle.std.specs.Prelude.{slice_index}
use Rattle.std.proofs.lemmas.Bool.{false≢true, ltb-false, ltb-true}
use Rattle.std.proofs.lemmas.List.{get_or-drop, get_or_append_left, length-append, length-drop}
use Rattle.memchr.specs.Find.{FindsNeedle, Nowhere, OccursAt, first_of, matches, occurs_at}
use Rattle.memchr.proofs.lemmas.FindLemmas.{Nowhere-more}
use Rattle.memchr.proofs.lemmas.MatchLemmas.{OccursAt-true, occurs_at-true}
use Rattle.memchr.proofs.lemmas.ValueLemmas.{FindsNeedle-value}
use Rattle.seg_buffer.specs.Bytes.{crlf2}

-- the place is one alone
pub one_place : (text : List ℕ) (p q : Option ℕ) → FindsNeedle text crlf2 0 p → FindsNeedle text crlf2 0 q → p ≡ q
one_place text p q a b = FindsNeedle-value text crlf2 p a ∙ sym (FindsNeedle-value text crlf2 q b)

module _ (text more : List ℕ) where
  pub still_occurs : (k : ℕ) → OccursAt text crlf2 k → OccursAt (text ++ more) crlf2 k
  still_occurs k here = record {
    fits = omega (arith, here.fits, length-append text more);
    reads = λ j less. get_or_append_left text more 0 (k + j) (omega (arith, here.fits, less)) ∙ here.reads j less;
  }

  pub did_occur : (k : ℕ) → k + 4 ≤ length text → OccursAt (text ++ more) crlf2 k → OccursAt text crlf2 k
  did_occur k inside here = record {
    fits = omega (arith, inside);
    reads = λ j less. sym (get_or_append_left text more 0 (k + j) (omega (arith, inside, less))) ∙ here.reads j less;
  }

  -- what was found is found in a longer text
  pub still_found : (k : ℕ) → FindsNeedle text crlf2 0 (Some k) → FindsNeedle (text ++ more) crlf2 0 (Some k)
  still_found k found = (
    record {
      low = found.0.low;
      high = omega (arith, found.0.high, length-append text more);
      before = λ j low less here. found.0.before j low less (did_occur j (omega (arith, less, found.1.fits)) here);
    },
    still_occurs k found.1,
  )

-- it stands somewhere first, or nowhere
module _ (text : List ℕ) where
  abbrev Found : Type 0
  Found = (place : Option ℕ) × FindsNeedle text crlf2 0 place

  search_on : (n from : ℕ) → from + n ≡ length text + 1 → Nowhere (OccursAt text crlf2) 0 from → Found
  search_on zero from all nowhere = (None, λ k low less. nowhere k low (omega (arith, all, less)))
  search_on (suc n) from all nowhere =
      elim (occurs_at text crlf2 from) as (λ t. occurs_at text crlf2 from ≡ t → Found) [
        | true ↦ λ h. (Some from, (record { low = omega arith; high = omega (arith, all); before = nowhere }, OccursAt-true text crlf2 from h))
        | false ↦ λ h. search_on n (from + 1) (omega (arith, all)) (Nowhere-more nowhere (λ here. false≢true (sym h ∙ occurs_at-true text crlf2 from here)))
      ] refl

  pub a_place : Found
  a_place = search_on (length text + 1) 0 (omega arith) (λ k low less. absurd (omega (arith, less)))

-- the place of CR LF CR LF, as a value
pub place_is : (text : List ℕ) → FindsNeedle text crlf2 0 (first_of (matches text crlf2 0))
place_is text = let there = a_place text in subst (FindsNeedle text crlf2 0) (FindsNeedle-value text crlf2 there.0 there.1) there.1

-- ---- places behind it

module _ (text : List ℕ) (from : ℕ) where
  occurs_on : (k : ℕ) → OccursAt (drop from text) crlf2 k → OccursAt text crlf2 (from + k)
  occurs_on k here = record {
    fits = omega (arith, here.fits, length-drop from text);
    reads = λ j less.
        let place : from + k + j ≡ from + (k + j) = omega arith in
        ap (slice_index text) place ∙ sym (get_or-drop from text (k + j) 0) ∙ here.reads j less;
  }

  occurs_back : (k : ℕ) → from ≤ k → OccursAt text crlf2 k → OccursAt (drop from text) crlf2 (k - from)
  occurs_back k behind here = record {
    fits = omega (arith, here.fits, behind, length-drop from text);
    reads = λ j less.
        let place : from + (k - from + j) ≡ k + j = omega (arith, behind) in
        get_or-drop from text (k - from + j) 0 ∙ ap (slice_index text) place ∙ here.reads j less;
  }

  none_on : (to : ℕ) → Nowhere (OccursAt text crlf2) 0 from → Nowhere (OccursAt (drop from text) crlf2) 0 to
      → Nowhere (OccursAt text crlf2) 0 (from + to)
  none_on to first rest k low less here =
      elim (nat_lt k from) as (λ t. nat_lt k from ≡ t → ⊥) [
        | true ↦ λ h. first k low (ltb-true k from h) here
        | false ↦ λ h.
            let behind : from ≤ k = omega (arith, ltb-false k from h) in
            rest (k - from) (omega arith) (omega (arith, less, behind)) (occurs_back k behind here)
      ] refl

  pub found_on : (k : ℕ) → Nowhere (OccursAt text crlf2) 0 from → FindsNeedle (drop from text) crlf2 0 (Some k)
      → FindsNeedle text crlf2 0 (Some (from + k))
  found_on k first found = (
    record {
      low = omega arith;
      high = omega (arith, found.0.high, found.1.fits, length-drop from text);
      before = none_on k first found.0.before;
    },
    occurs_on k found.1,
  )

  pub nowhere_on : from ≤ length text → Nowhere (OccursAt text crlf2) 0 from → FindsNeedle (drop from text) crlf2 0 None
      → FindsNeedle text crlf2 0 None
  nowhere_on inside first none k low less =
      none_on (length (drop from text) + 1) first none k low (omega (arith, less, inside, length-drop from text))
