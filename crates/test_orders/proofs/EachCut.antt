-- Each cut once, and the pieces of a text.
use Rattle.std.proofs.Common.{◌≡◌, ℕ, zero, suc, ◌+◌, ◌-◌, ◌<◌, ◌≤◌, List, [], ◌∷◌, length, get_or}
use Rattle.std.proofs.Common.{inl, inr, refl, sym, ap, subst, ◌∙◌, arith}
use Rattle.test_orders.specs.Cuts.{cuts, places_from, places_in}
use Rattle.test_orders.specs.Laws.{Among, Distinct, EachCutOnce, IsCut}
use Rattle.test_orders.specs.declared.cut.Cut.{Cut}
use Rattle.test_orders.specs.declared.cut.Cut.TheVariants.{Whole, Bytes, At}
use Rattle.test_orders.proofs.Members.{among_either, among_left, among_right, distinct_both}

-- the number of the text and the place of a cut
abbrev send_of : Cut → ℕ
send_of (At send place) = send
send_of other = 0

abbrev place_of : Cut → ℕ
place_of (At send place) = place
place_of other = 0

-- which of the three it is
abbrev is_at : Cut → ℕ
is_at Whole = 0
is_at Bytes = 1
is_at (At send place) = 2

record IsPlace (cut : Cut) (send first most : ℕ) : Type 0 where
  is : cut ≡ At send (place_of cut)
  from : first ≤ place_of cut
  below : place_of cut < first + most

are_places : (send first most : ℕ) (cut : Cut) → Among cut (places_from send first most) → IsPlace cut send first most
are_places send first zero cut a = absurd a
are_places send first (suc more) cut (inl e) =
    record { is = rw e refl; from = omega (arith, ap place_of e); below = omega (arith, ap place_of e) }
are_places send first (suc more) cut (inr a) =
    let r = are_places send (first + 1) more cut a in
    record { is = r.is; from = omega (arith, r.from); below = omega (arith, r.below) }

places_are : (send first most i : ℕ) → i < most → Among (At send (first + i)) (places_from send first most)
places_are send first zero i there = absurd (omega (arith, there))
places_are send first (suc more) zero there = inl (ap (At send) (omega arith))
places_are send first (suc more) (suc i) there =
    inr (subst (λ p. Among (At send p) (places_from send (first + 1) more)) (omega arith)
    (places_are send (first + 1) more i (omega (arith, there))))

distinct_places : (send first most : ℕ) → Distinct (places_from send first most)
distinct_places send first zero = tt
distinct_places send first (suc more) =
    (λ a. absurd (omega (arith, (are_places send (first + 1) more (At send first) a).from)), distinct_places send (first + 1) more)

record InText (cut : Cut) (send : ℕ) (lengths : List ℕ) : Type 0 where
  i : ℕ
  there : i < length lengths
  is : cut ≡ At (send + i) (place_of cut)
  some : 0 < place_of cut
  below : place_of cut < get_or lengths i 0

in_texts : (send : ℕ) (lengths : List ℕ) (cut : Cut) → Among cut (places_in send lengths) → InText cut send lengths
in_texts send [] cut a = absurd a
in_texts send (l ∷ ls) cut a = elim (among_either cut (places_from send 1 (l - 1)) (places_in (send + 1) ls) a) [
  | inl b ↦
      let r = are_places send 1 (l - 1) cut b in
      let same : send ≡ send + 0 = omega arith in
      record {
        i = 0;
        there = omega arith;
        is = r.is ∙ ap (λ s. At s (place_of cut)) same;
        some = omega (arith, r.from);
        below = omega (arith, r.from, r.below);
      }
  | inr b ↦
      let r = in_texts (send + 1) ls cut b in
      let same : (send + 1) + r.i ≡ send + suc r.i = omega arith in
      record {
        i = suc r.i;
        there = omega (arith, r.there);
        is = r.is ∙ ap (λ s. At s (place_of cut)) same;
        some = r.some;
        below = r.below;
      }
]

texts_in : (send : ℕ) (lengths : List ℕ) (i place : ℕ) → i < length lengths → 0 < place → place < get_or lengths i 0
    → Among (At (send + i) place) (places_in send lengths)
texts_in send [] i place there some below = absurd (omega (arith, there))
texts_in send (l ∷ ls) zero place there some below =
    let sent : send ≡ send + 0 = omega arith in
    let placed : 1 + (place - 1) ≡ place = omega (arith, some) in
    among_left (At (send + 0) place) (places_from send 1 (l - 1)) (places_in (send + 1) ls)
    (subst (λ s. Among (At s place) (places_from send 1 (l - 1))) sent
    (subst (λ p. Among (At send p) (places_from send 1 (l - 1))) placed
    (places_are send 1 (l - 1) (place - 1) (omega (arith, some, below)))))
texts_in send (l ∷ ls) (suc i) place there some below =
    let sent : (send + 1) + i ≡ send + suc i = omega arith in
    among_right (At (send + suc i) place) (places_from send 1 (l - 1)) (places_in (send + 1) ls)
    (subst (λ s. Among (At s place) (places_in (send + 1) ls)) sent
    (texts_in (send + 1) ls i place (omega (arith, there)) some below))

distinct_texts : (send : ℕ) (lengths : List ℕ) → Distinct (places_in send lengths)
distinct_texts send [] = tt
distinct_texts send (l ∷ ls) = distinct_both (places_from send 1 (l - 1)) (places_in (send + 1) ls)
    (distinct_places send 1 (l - 1)) (distinct_texts (send + 1) ls)
    (λ cut a b.
    let r = are_places send 1 (l - 1) cut a in
    let q = in_texts (send + 1) ls cut b in
    absurd (omega (arith, ap send_of (sym r.is ∙ q.is))))

is_cut : (lengths : List ℕ) (cut : Cut) → InText cut 0 lengths → IsCut lengths cut
is_cut lengths Whole r = tt
is_cut lengths Bytes r = tt
is_cut lengths (At send place) r =
    let same : send ≡ r.i = omega (arith, ap send_of r.is) in
    (omega (arith, same, r.there), r.some, rw same r.below)

among_cuts : (lengths : List ℕ) (cut : Cut) → Among cut (cuts lengths) → IsCut lengths cut
among_cuts lengths Whole a = tt
among_cuts lengths Bytes a = tt
among_cuts lengths (At send place) (inl e) = absurd (omega (arith, ap is_at e))
among_cuts lengths (At send place) (inr (inl e)) = absurd (omega (arith, ap is_at e))
among_cuts lengths (At send place) (inr (inr a)) = is_cut lengths (At send place) (in_texts 0 lengths (At send place) a)

cuts_among : (lengths : List ℕ) (cut : Cut) → IsCut lengths cut → Among cut (cuts lengths)
cuts_among lengths Whole is = inl refl
cuts_among lengths Bytes is = inr (inl refl)
cuts_among lengths (At send place) is =
    let same : 0 + send ≡ send = omega arith in
    inr (inr (subst (λ s. Among (At s place) (places_in 0 lengths)) same (texts_in 0 lengths send place is.0 is.1 is.2)))

whole_once : (lengths : List ℕ) → Among Whole (Bytes ∷ places_in 0 lengths) → ⊥
whole_once lengths (inl e) = absurd (omega (arith, ap is_at e))
whole_once lengths (inr a) = absurd (omega (arith, ap is_at (in_texts 0 lengths Whole a).is))

bytes_once : (lengths : List ℕ) → Among Bytes (places_in 0 lengths) → ⊥
bytes_once lengths a = absurd (omega (arith, ap is_at (in_texts 0 lengths Bytes a).is))

pub each_cut_once : (lengths : List ℕ) → EachCutOnce lengths
each_cut_once lengths = record {
  once = (λ a. whole_once lengths a, (λ a. bytes_once lengths a, distinct_texts 0 lengths));
  each = λ cut. (among_cuts lengths cut, cuts_among lengths cut);
}
