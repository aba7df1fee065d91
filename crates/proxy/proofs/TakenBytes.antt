-- What one connection's sides took, changed in the list of all.
use Rattle.std.proofs.Common.{◌≡◌, ℕ, suc, ◌+◌, ◌-◌, ◌<◌, ◌≤◌, List, [], ◌∷◌, Bool, true}
use Rattle.std.proofs.Common.{false, if◌then◌else◌, Option, Some, None, nat_eq, length, set, get_or}
use Rattle.std.proofs.Common.{refl, sym, ap, ◌∙◌, arith, zero, Result, Ok, Err, OnOk}
use Rattle.std.specs.List.{position_from, slice_get}
use Rattle.std.proofs.lemmas.Option.{slice_get_read}
use Rattle.proxy.specs.declared.taken.Taken.{Taken}
use Rattle.proxy.specs.ServerBytes.{on_last}
use Rattle.proxy.specs.Taken.{changed}

changed_from : (conn : ℕ) (f : Taken → Taken) (i at : ℕ) (all : List Taken) (t : Taken) → Some at ≡ position_from (λ x. nat_eq x.conn conn) i all → (i ≤ at) × (slice_get all (at - i) ≡ Some t → changed conn f all ≡ set all (at - i) (f t))
changed_from conn f i at [] t e = cc
changed_from conn f i at (x ∷ all) t e = by_cases (nat_eq x.conn conn) (λ g. changed_from conn f (i + 1) at all t g) e
  where
    by_cases : (b : Bool) → (Some at ≡ position_from (λ y. nat_eq y.conn conn) (i + 1) all → (i + 1 ≤ at) × (slice_get all (at - (i + 1)) ≡ Some t → changed conn f all ≡ set all (at - (i + 1)) (f t))) → Some at ≡ (if b then Some i else position_from (λ y. nat_eq y.conn conn) (i + 1) all)
        → (i ≤ at) × (slice_get (x ∷ all) (at - i) ≡ Some t → (if b then f x ∷ all else x ∷ changed conn f all) ≡ set (x ∷ all) (at - i) (f t))
    by_cases true rest g =
        let h : at ≡ i = cc in
        let z : at - i ≡ 0 = omega arith in
        (omega arith, rw z (λ k. let l : x ≡ t = cc in ap (λ y. f y ∷ all) l))
    by_cases false rest g =
        let r = rest g in
        let m : at - i ≡ suc (at - (i + 1)) = omega (arith, r.0) in
        (omega (arith, r.0), rw m (λ k. ap (λ l. x ∷ l) (r.1 k)))

changed_at : (conn : ℕ) (f : Taken → Taken) (at : ℕ) (all : List Taken) (t : Taken) → Some at ≡ position_from (λ x. nat_eq x.conn conn) 0 all → slice_get all at ≡ Some t → changed conn f all ≡ set all at (f t)
changed_at conn f at all t e h =
    let m : at - 0 ≡ at = omega arith in (rw m at ((changed_from conn f 0 at all t e).1)) h

absent_from : (conn : ℕ) (f : Taken → Taken) (i : ℕ) (all : List Taken) → None ≡ position_from (λ x. nat_eq x.conn conn) i all → changed conn f all ≡ all
absent_from conn f i [] e = refl
absent_from conn f i (x ∷ all) e = by_cases (nat_eq x.conn conn) (λ g. absent_from conn f (i + 1) all g) e
  where
    by_cases : (b : Bool) → (None ≡ position_from (λ y. nat_eq y.conn conn) (i + 1) all → changed conn f all ≡ all) → None ≡ (if b then Some i else position_from (λ y. nat_eq y.conn conn) (i + 1) all) → (if b then f x ∷ all else x ∷ changed conn f all) ≡ x ∷ all
    by_cases true rest g = cc
    by_cases false rest g = ap (λ l. x ∷ l) (rest g)

-- the entry that was read at the place of a connection
pub changed_there : (conn : ℕ) (f : Taken → Taken) (at : ℕ) (all found : List Taken) (t new : Taken) → found ≡ all → Some at ≡ position_from (λ x. nat_eq x.conn conn) 0 found → at < length found → t ≡ get_or all at t → new ≡ f t → set all at new ≡ changed conn f all
changed_there conn f at all found t new e p w r k =
    let h = slice_get_read all (length all) at t refl (rw e at w) r in
    ap (λ x. set all at x) k ∙ sym (changed_at conn f at all t (rw e at p) h)

pub none_there : (conn : ℕ) (f : Taken → Taken) (all found : List Taken) (o : Option ℕ) → found ≡ all → o ≡ position_from (λ x. nat_eq x.conn conn) 0 found → o ≡ None → all ≡ changed conn f all
none_there conn f all found o e p n = sym (absent_from conn f 0 all (sym n ∙ (rw e at p)))

-- what follows where it is done
pub on_ok : {T E : Type 0} (r : Result T E) (P Q : Type 0) → (P → Q) → OnOk r P → OnOk r Q
on_ok (Ok x) P Q f h = f h
on_ok (Err x) P Q f h = tt

-- the last one changed
last_read : (f : List ℕ → List ℕ) (n : ℕ) (all : List (List ℕ)) (t : List ℕ) → length all ≡ suc n → slice_get all n ≡ Some t → set all n (f t) ≡ on_last f all
last_read f n [] t e h = cc
last_read f zero (x ∷ []) t e h = let k : x ≡ t = cc in ap (λ y. f y ∷ []) (sym k)
last_read f zero (x ∷ y ∷ more) t e h = absurd (omega (arith, e))
last_read f (suc n) (x ∷ []) t e h = absurd (omega (arith, e))
last_read f (suc n) (x ∷ y ∷ more) t e h = ap (λ l. x ∷ l) (last_read f n (y ∷ more) t (omega (arith, e)) h)

pub last_there : (f : List ℕ → List ℕ) (at : ℕ) (all : List (List ℕ)) (t new : List ℕ) → length all ≡ suc at → t ≡ get_or all at t → new ≡ f t → set all at new ≡ on_last f all
last_there f at all t new e r k =
    let h = slice_get_read all (length all) at t refl (omega (arith, e)) r in
    ap (λ x. set all at x) k ∙ last_read f at all t e h

pub none_last : (f : List ℕ → List ℕ) (all : List (List ℕ)) → length all ≡ 0 → all ≡ on_last f all
none_last f [] e = refl
none_last f (x ∷ all) e = absurd (omega (arith, e))
