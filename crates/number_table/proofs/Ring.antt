-- The ring of those that are ready: each number is that of an entry, which tells of it.
use Rattle.std.proofs.Common.{◌≡◌, ◌∙◌, refl, sym, ap, ℕ, zero, suc, ◌<◌, List, [], ◌∷◌, ◌++◌, Bool, true, false, ◌||◌, Some, nat_eq, arith, remove, set, slice_get}
use Rattle.std.specs.List.{AllByRecursion}
use Rattle.std.proofs.lemmas.Bool.Decides.{nat_tests}
pub use Rattle.index_lists.proofs.Rings.{absent_all, distinct_none, distinct_push, distinct_without, found_within, front_not_in_rest}
pub use Rattle.index_lists.proofs.Rings.{in_pushed_other, in_pushed_self, in_rest_other, in_without_other, not_in_without, or_later, or_true}
pub use Rattle.index_lists.proofs.Rings.{pushed_within, ring_room, ring_within, without_absent, without_found, without_missing}
use Rattle.number_table.specs.Layout.{Flagged, numbers_of}
use Rattle.number_table.specs.Table.{Rises, is_in}
use Rattle.number_table.specs.declared.Entry.{Entry}
use Rattle.number_table.proofs.Numbers.{eq_self}

-- the flags of entries
pub flag_at : (at : ℕ) (ring : List ℕ) (es : List Entry) (e : Entry) → Flagged ring es → slice_get es at ≡ Some e → e.ready ≡ is_in ring e.number
flag_at at ring [] e f h = cc
flag_at zero ring (x ∷ es) e f h = let k : e ≡ x = cc in rw k f.0
flag_at (suc at) ring (x ∷ es) e f h = flag_at at ring es e f.1 h

pub flagged_push : (ring : List ℕ) (es : List Entry) (e : Entry) → Flagged ring es → e.ready ≡ is_in ring e.number → Flagged ring (es ++ e ∷ [])
flagged_push ring [] e f h = (h, tt)
flagged_push ring (x ∷ es) e f h = (f.0, flagged_push ring es e f.1 h)

-- a number that isn't among them comes into the ring
pub flagged_joined : (n : ℕ) (ring : List ℕ) (es : List Entry) → ((m : ℕ) → is_in (numbers_of es) m ≡ true → m < n) → Flagged ring es → Flagged (ring ++ n ∷ []) es
flagged_joined n ring [] above f = tt
flagged_joined n ring (x ∷ es) above f =
    let lt : x.number < n = above x.number (rw (eq_self x.number) refl) in
    let t : nat_eq x.number n ≡ false = grind (arith, nat_tests) in
    (f.0 ∙ sym (in_pushed_other n x.number ring t), flagged_joined n ring es (λ m h. above m (or_later (nat_eq m x.number) (is_in (numbers_of es) m) h)) f.1)

-- the flags where the ring changes at one number alone
flagged_behind : (n : ℕ) (old new : List ℕ) (es : List Entry) → AllByRecursion (λ m. n < m) (numbers_of es) → Flagged old es → ((q : ℕ) → nat_eq q n ≡ false → is_in new q ≡ is_in old q) → Flagged new es
flagged_behind n old new [] a f s = tt
flagged_behind n old new (x ∷ es) a f s =
    let t : nat_eq x.number n ≡ false = grind (arith, nat_tests, a.0) in (f.0 ∙ sym (s x.number t), flagged_behind n old new es a.1 f.1 s)

below_it : (at : ℕ) (x : ℕ) (es : List Entry) (e : Entry) → AllByRecursion (λ m. x < m) (numbers_of es) → slice_get es at ≡ Some e → x < e.number
below_it at x [] e a h = cc
below_it zero x (y ∷ es) e a h = let k : e ≡ y = cc in rw k a.0
below_it (suc at) x (y ∷ es) e a h = below_it at x es e a.1 h

pub flagged_set : (at : ℕ) (old new : List ℕ) (es : List Entry) (e f : Entry) → slice_get es at ≡ Some e → f.number ≡ e.number → Rises (numbers_of es) → Flagged old es → f.ready ≡ is_in new e.number → ((q : ℕ) → nat_eq q e.number ≡ false → is_in new q ≡ is_in old q) → Flagged new (set es at f)
flagged_set at old new [] e f h k r g t s = tt
flagged_set zero old new (x ∷ es) e f h k r g t s =
    let same : x.number ≡ e.number = (let m : x ≡ e = cc in ap (λ y. y.number) m) in
    (t ∙ ap (is_in new) (sym k), flagged_behind e.number old new es (rw same at r.0) g.1 s)
flagged_set (suc at) old new (x ∷ es) e f h k r g t s =
    let lt = below_it at x.number es e r.0 h in
    let n : nat_eq x.number e.number ≡ false = grind (arith, nat_tests) in
    (g.0 ∙ sym (s x.number n), flagged_set at old new es e f h k r.1 g.1 t s)

pub flagged_remove : (at : ℕ) (old new : List ℕ) (es : List Entry) (e : Entry) → slice_get es at ≡ Some e → Rises (numbers_of es) → Flagged old es → ((q : ℕ) → nat_eq q e.number ≡ false → is_in new q ≡ is_in old q) → Flagged new (remove es at)
flagged_remove at old new [] e h r g s = cc
flagged_remove zero old new (x ∷ es) e h r g s =
    let same : x.number ≡ e.number = (let m : x ≡ e = cc in ap (λ y. y.number) m) in
    flagged_behind e.number old new es (rw same at r.0) g.1 s
flagged_remove (suc at) old new (x ∷ es) e h r g s =
    let lt = below_it at x.number es e r.0 h in
    let n : nat_eq x.number e.number ≡ false = grind (arith, nat_tests) in
    (g.0 ∙ sym (s x.number n), flagged_remove at old new es e h r.1 g.1 s)

-- the number of an entry is among the numbers, and others stay where one goes
pub in_numbers : (at : ℕ) (es : List Entry) (e : Entry) → slice_get es at ≡ Some e → is_in (numbers_of es) e.number ≡ true
in_numbers at [] e h = cc
in_numbers zero (x ∷ es) e h = let k : e ≡ x = cc in let t : nat_eq e.number x.number ≡ true = rw k (eq_self x.number) in rw t refl
in_numbers (suc at) (x ∷ es) e h = or_later (nat_eq e.number x.number) (is_in (numbers_of es) e.number) (in_numbers at es e h)

pub in_removed : (at : ℕ) (es : List Entry) (e : Entry) (q : ℕ) → slice_get es at ≡ Some e → nat_eq q e.number ≡ false → is_in (numbers_of es) q ≡ true → is_in (numbers_of (remove es at)) q ≡ true
in_removed at [] e q h n g = cc
in_removed zero (x ∷ es) e q h n g =
    let k : x ≡ e = cc in
    let t : nat_eq q x.number ≡ false = ap (λ y. nat_eq q y.number) k ∙ n in or_true (nat_eq q x.number) (is_in (numbers_of es) q) g t
in_removed (suc at) (x ∷ es) e q h n g = by_cases (nat_eq q x.number) g (in_removed at es e q h n)
  where
    by_cases : (b : Bool) → (b || is_in (numbers_of es) q) ≡ true → (is_in (numbers_of es) q ≡ true → is_in (numbers_of (remove es at)) q ≡ true) → (b || is_in (numbers_of (remove es at)) q) ≡ true
    by_cases true k rest = refl
    by_cases false k rest = rest k

pub in_last_number : (es : List Entry) (e : Entry) → is_in (numbers_of (es ++ e ∷ [])) e.number ≡ true
in_last_number [] e = rw (eq_self e.number) refl
in_last_number (x ∷ es) e = or_later (nat_eq e.number x.number) _ (in_last_number es e)

pub in_push_numbers : (es : List Entry) (e : Entry) (q : ℕ) → is_in (numbers_of es) q ≡ true → is_in (numbers_of (es ++ e ∷ [])) q ≡ true
in_push_numbers [] e q h = cc
in_push_numbers (x ∷ es) e q h = by_cases (nat_eq q x.number) h (in_push_numbers es e q)
  where
    by_cases : (b : Bool) → (b || is_in (numbers_of es) q) ≡ true → (is_in (numbers_of es) q ≡ true → is_in (numbers_of (es ++ e ∷ [])) q ≡ true) → (b || is_in (numbers_of (es ++ e ∷ [])) q) ≡ true
    by_cases true k rest = refl
    by_cases false k rest = rest k
