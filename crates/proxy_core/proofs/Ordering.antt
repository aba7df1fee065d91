-- Places in order.
use Rattle.std.proofs.Common.{◌≡◌, refl, sym, ap, ◌∙◌, ℕ, zero, suc, ◌+◌, ◌<◌, List, [], ◌∷◌, ◌++◌, take, length, get_or, Bool, true, false, Some, None, nat_le, arith, if◌then◌else◌, flat_map, append_assoc, append-nil}
use Rattle.std.specs.List.{insert, position_from}
use Rattle.std.specs.Prelude.{slice_get, slice_index_or}
use Rattle.rule_loader.specs.declared.handler.EventHandler as loaded
use Rattle.conn.specs.declared.setup.Place.{Place}
use Rattle.proxy_core.specs.Bodies.{place_priority, placed}
use Rattle.record_model.specs.Order.{put}

abbrev stands_before : ℕ → Place → Bool
stands_before n p = nat_le n p.priority

-- where one is found it is put there
put_from : (p : Place) (ps : List Place) (from at : ℕ) → position_from (stands_before p.priority) from ps ≡ Some at → (k : ℕ) × (at ≡ k + from) × (insert ps k p ≡ put place_priority p ps)
put_from p [] from at e = absurd (cc)
put_from p (q ∷ ps) from at e = by_test (nat_le p.priority q.priority) (λ k. put_from p ps (from + 1) at k) e
  where
    by_test : (b : Bool) → (position_from (stands_before p.priority) (from + 1) ps ≡ Some at → (k : ℕ) × (at ≡ k + (from + 1)) × (insert ps k p ≡ put place_priority p ps))
        → (if b then Some from else position_from (stands_before p.priority) (from + 1) ps) ≡ Some at → (k : ℕ) × (at ≡ k + from) × (insert (q ∷ ps) k p ≡ (if b then p ∷ q ∷ ps else q ∷ put place_priority p ps))
    by_test true behind e = let same : from ≡ at = cc in (0, omega (arith, same), refl)
    by_test false behind e =
        let more = behind e in
        let is = more.1 in
        (suc more.0, omega (arith, is), ap (λ r. q ∷ r) more.2)

pub put_found : (p : Place) (ps : List Place) (at : ℕ) → position_from (stands_before p.priority) 0 ps ≡ Some at → insert ps at p ≡ put place_priority p ps
put_found p ps at e =
    let k = put_from p ps 0 at e in
    let is = k.1 in
    let same : at ≡ k.0 = omega (arith, is) in
    ap (λ n. insert ps n p) same ∙ k.2

-- and else at the end
put_last : (p : Place) (ps : List Place) (from : ℕ) → position_from (stands_before p.priority) from ps ≡ None → ps ++ p ∷ [] ≡ put place_priority p ps
put_last p [] from e = refl
put_last p (q ∷ ps) from e = by_test (nat_le p.priority q.priority) (λ k. put_last p ps (from + 1) k) e
  where
    by_test : (b : Bool) → (position_from (stands_before p.priority) (from + 1) ps ≡ None → ps ++ p ∷ [] ≡ put place_priority p ps)
        → (if b then Some from else position_from (stands_before p.priority) (from + 1) ps) ≡ None → (q ∷ ps) ++ p ∷ [] ≡ (if b then p ∷ q ∷ ps else q ∷ put place_priority p ps)
    by_test true behind e = absurd (cc)
    by_test false behind e = ap (λ r. q ∷ r) (behind e)

pub put_none : (p : Place) (ps : List Place) → position_from (stands_before p.priority) 0 ps ≡ None → ps ++ p ∷ [] ≡ put place_priority p ps
put_none p ps e = put_last p ps 0 e

-- one more number
pub flat_more : {A B : Type 0} (f : A → List B) (xs : List A) (i : ℕ) (x : A) → slice_get xs i ≡ Some x → flat_map f (take (i + 1) xs) ≡ flat_map f (take i xs) ++ f x
flat_more f [] zero x e = absurd (cc)
flat_more f [] (suc i) x e = absurd (cc)
flat_more f (y ∷ xs) zero x e = let same : y ≡ x = cc in append-nil (f y) ∙ ap f same
flat_more f (y ∷ xs) (suc i) x e =
    let next : suc i + 1 ≡ suc (i + 1) = omega arith in
    ap (λ n. flat_map f (take n (y ∷ xs))) next ∙ ap (λ r. f y ++ r) (flat_more f xs i x e) ∙ sym (append_assoc (f y) (flat_map f (take i xs)) (f x))

-- one more body of a rule
pub placed_more : (rule from : ℕ) (hs : List loaded.EventHandler) (i : ℕ) (h : loaded.EventHandler) → slice_get hs i ≡ Some h → placed rule from (take (i + 1) hs) ≡ placed rule from (take i hs) ++ record { rule = rule; number = from + i; priority = h.priority } ∷ []
placed_more rule from [] zero h e = absurd (cc)
placed_more rule from [] (suc i) h e = absurd (cc)
placed_more rule from (x ∷ hs) zero h e =
    let same : x ≡ h = cc in
    let here : from ≡ from + 0 = omega arith in
    let P : ℕ → ℕ → List Place = λ n k. record { rule = rule; number = n; priority = k } ∷ [] in
    ap (λ y. P from y.priority) same ∙ ap (λ n. P n h.priority) here
placed_more rule from (x ∷ hs) (suc i) h e =
    let next : suc i + 1 ≡ suc (i + 1) = omega arith in
    let at : (from + 1) + i ≡ from + suc i = omega arith in
    let first : Place = record { rule = rule; number = from; priority = x.priority } in
    let P : ℕ → List Place = λ n. first ∷ (placed rule (from + 1) (take i hs) ++ record { rule = rule; number = n; priority = h.priority } ∷ []) in
    ap (λ n. placed rule from (take n (x ∷ hs))) next ∙ ap (λ r. first ∷ r) (placed_more rule (from + 1) hs i h e) ∙ ap P at

-- an item within a list
pub some_at : {A : Type 0} (xs : List A) (i : ℕ) (x : A) → i < length xs → x ≡ get_or xs i x → slice_get xs i ≡ Some x
some_at [] i x within is = absurd (omega (arith, within))
some_at (y ∷ xs) zero x within is = ap (λ z. Some z) (sym is)
some_at (y ∷ xs) (suc i) x within is = some_at xs i x (omega (arith, within)) is

pub none_at : {A : Type 0} (xs : List (List A)) (i : ℕ) → slice_get xs i ≡ None → slice_index_or xs i [] ≡ []
none_at [] zero e = refl
none_at [] (suc i) e = refl
none_at (x ∷ xs) zero e = absurd (cc)
none_at (x ∷ xs) (suc i) e = none_at xs i e
