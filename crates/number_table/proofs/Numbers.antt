-- Numbers that rise, and where one stands.
use Rattle.std.proofs.Common.{map, ◌≡◌, ◌≢◌, ◌∙◌, refl, sym, ap, ℕ, zero, suc, ◌+◌, ◌<◌, ◌≤◌, List, [], ◌∷◌, ◌++◌, Bool, true, false, ◌||◌, Some, None, Result, Ok, Err, nat_eq, nat_lt, length, arith, remove, set, slice_get, get_or, if◌then◌else◌}
use Rattle.std.specs.List.{AllByRecursion, position_from}
use Rattle.std.specs.List.Sorted.{IsSearchInRange, IsBinarySearchResult, IsNonDecreasingBy}
use Rattle.std.specs.Ordering.{nat_cmp, ordering_index}
use Rattle.std.specs.Result.{result_ok}
use Rattle.std.proofs.lemmas.Bool.Decides.{nat_tests}
use Rattle.std.proofs.lemmas.Cmp.{ranked}
use Rattle.std.proofs.lemmas.List.Sorted.{IsNonDecreasingBy-from_default}
pub use Rattle.index_lists.proofs.Rings.{eq_self, eq_same, eq_turned, or_false}
use Rattle.number_table.specs.Layout.{numbers_of}
use Rattle.number_table.specs.Table.{Rises, is_in, place_in}
use Rattle.number_table.specs.declared.Entry.{Entry}

above_push : (m n : ℕ) (ns : List ℕ) → AllByRecursion (λ k. m < k) ns → m < n → AllByRecursion (λ k. m < k) (ns ++ n ∷ [])
above_push m n [] a h = (h, tt)
above_push m n (k ∷ ns) a h = (a.0, above_push m n ns a.1 h)

above_remove : (m at : ℕ) (ns : List ℕ) → AllByRecursion (λ k. m < k) ns → AllByRecursion (λ k. m < k) (remove ns at)
above_remove m zero [] a = tt
above_remove m (suc at) [] a = tt
above_remove m zero (k ∷ ns) a = a.1
above_remove m (suc at) (k ∷ ns) a = (a.0, above_remove m at ns a.1)

-- a number above all
pub rises_push : (n : ℕ) (ns : List ℕ) → ((m : ℕ) → is_in ns m ≡ true → m < n) → Rises ns → Rises (ns ++ n ∷ [])
rises_push n [] above r = (tt, tt)
rises_push n (k ∷ ns) above r =
    (above_push k n ns r.0 (above k (let t = eq_self k in rw t refl)), rises_push n ns (λ m h. above m (later (nat_eq m k) (is_in ns m) h)) r.1)
  where
    later : (a b : Bool) → b ≡ true → (a || b) ≡ true
    later true b h = refl
    later false b h = h

pub rises_remove : (at : ℕ) (ns : List ℕ) → Rises ns → Rises (remove ns at)
rises_remove zero [] r = tt
rises_remove (suc at) [] r = tt
rises_remove zero (k ∷ ns) r = r.1
rises_remove (suc at) (k ∷ ns) r = (above_remove k at ns r.0, rises_remove at ns r.1)

-- the entries keep their numbers
pub numbers_set : (at : ℕ) (es : List Entry) (e f : Entry) → slice_get es at ≡ Some e → f.number ≡ e.number → numbers_of (set es at f) ≡ numbers_of es
numbers_set at [] e f h k = refl
numbers_set zero (x ∷ es) e f h k = let t : x ≡ e = cc in ap (λ n. n ∷ numbers_of es) (k ∙ ap (λ y. y.number) (sym t))
numbers_set (suc at) (x ∷ es) e f h k = ap (λ ns. x.number ∷ ns) (numbers_set at es e f h k)

pub numbers_remove : (at : ℕ) (es : List Entry) → numbers_of (remove es at) ≡ remove (numbers_of es) at
numbers_remove zero [] = refl
numbers_remove (suc at) [] = refl
numbers_remove zero (x ∷ es) = refl
numbers_remove (suc at) (x ∷ es) = ap (λ ns. x.number ∷ ns) (numbers_remove at es)

pub numbers_push : (es : List Entry) (e : Entry) → numbers_of (es ++ e ∷ []) ≡ numbers_of es ++ e.number ∷ []
numbers_push [] e = refl
numbers_push (x ∷ es) e = ap (λ ns. x.number ∷ ns) (numbers_push es e)

pub number_at : (at : ℕ) (es : List Entry) (e : Entry) → slice_get es at ≡ Some e → get_or (numbers_of es) at 0 ≡ e.number
number_at at [] e h = cc
number_at zero (x ∷ es) e h = let t : x ≡ e = cc in ap (λ y. y.number) t
number_at (suc at) (x ∷ es) e h = number_at at es e h

-- no number behind one is the same
pub not_behind : (n : ℕ) (ns : List ℕ) → AllByRecursion (λ m. n < m) ns → is_in ns n ≡ false
not_behind n [] a = refl
not_behind n (m ∷ ns) a = let t : nat_eq n m ≡ false = grind (arith, nat_tests, a.0) in rw t (not_behind n ns a.1)

pub above_at : (n at : ℕ) (ns : List ℕ) (d : ℕ) → AllByRecursion (λ m. n < m) ns → at < length ns → n < get_or ns at d
above_at n at [] d a h = absurd (omega arith)
above_at n zero (m ∷ ns) d a h = a.0
above_at n (suc at) (m ∷ ns) d a h = above_at n at ns d a.1 (omega arith)

pub below_at : (i j : ℕ) (ns : List ℕ) (d : ℕ) → Rises ns → i < j → j < length ns → get_or ns i d < get_or ns j d
below_at i j [] d r h w = absurd (omega arith)
below_at i zero (n ∷ ns) d r h w = absurd (omega arith)
below_at zero (suc j) (n ∷ ns) d r h w = above_at n j ns d r.0 (omega arith)
below_at (suc i) (suc j) (n ∷ ns) d r h w = below_at i j ns d r.1 (omega arith) (omega arith)

-- the place of a number that stands there
placed_from : (i at n : ℕ) (ns : List ℕ) → Rises ns → at < length ns → get_or ns at 0 ≡ n → position_from (nat_eq n) i ns ≡ Some (i + at)
placed_from i at n [] r w h = absurd (omega arith)
placed_from i zero n (m ∷ ns) r w h = let t : nat_eq n m ≡ true = grind (arith, nat_tests) in rw t (ap Some (omega arith))
placed_from i (suc at) n (m ∷ ns) r w h =
    let lt : m < n = (let a = above_at m at ns 0 r.0 (omega arith) in omega (arith, a, h)) in
    let t : nat_eq n m ≡ false = grind (arith, nat_tests) in
    rw t (placed_from (i + 1) at n ns r.1 (omega arith) h ∙ ap Some (omega arith))

pub placed : (at n : ℕ) (ns : List ℕ) → Rises ns → at < length ns → get_or ns at 0 ≡ n → place_in ns n ≡ Some at
placed at n ns r w h = placed_from 0 at n ns r w h ∙ ap Some (omega arith)

missing_from : (i n : ℕ) (ns : List ℕ) → ((k : ℕ) → k < length ns → get_or ns k 0 ≢ n) → position_from (nat_eq n) i ns ≡ None
missing_from i n [] h = refl
missing_from i n (m ∷ ns) h =
    let ne : m ≢ n = h 0 (omega arith) in
    let t : nat_eq n m ≡ false = grind (arith, nat_tests) in
    rw t (missing_from (i + 1) n ns (λ k w. h (suc k) (omega arith)))

-- one that is in the list has a place
in_from : (i n : ℕ) (ns : List ℕ) → is_in ns n ≡ true → position_from (nat_eq n) i ns ≢ None
in_from i n [] h = cc
in_from i n (m ∷ ns) h = by_test (nat_eq n m) h (in_from (i + 1) n ns)
  where
    by_test : (b : Bool) → (b || is_in ns n) ≡ true → (is_in ns n ≡ true → position_from (nat_eq n) (i + 1) ns ≢ None) → (if b then Some i else position_from (nat_eq n) (i + 1) ns) ≢ None
    by_test true k r = λ e. cc
    by_test false k r = r k

pub has_place : (n : ℕ) (ns : List ℕ) → is_in ns n ≡ true → place_in ns n ≢ None
has_place n ns h = in_from 0 n ns h

-- a place of a number has that number
found_from : (i n at : ℕ) (ns : List ℕ) → position_from (nat_eq n) i ns ≡ Some at → (k : ℕ) × ((at ≡ i + k) × ((k < length ns) × (get_or ns k 0 ≡ n)))
found_from i n at [] h = cc
found_from i n at (m ∷ ns) h = by_test (nat_eq n m) refl h (found_from (i + 1) n at ns)
  where
    by_test : (b : Bool) → nat_eq n m ≡ b → (if b then Some i else position_from (nat_eq n) (i + 1) ns) ≡ Some at → (position_from (nat_eq n) (i + 1) ns ≡ Some at → (k : ℕ) × ((at ≡ i + 1 + k) × ((k < length ns) × (get_or ns k 0 ≡ n)))) → (k : ℕ) × ((at ≡ i + k) × ((k < suc (length ns)) × (get_or (m ∷ ns) k 0 ≡ n)))
    by_test true t k r = (0, (let e : i ≡ at = cc in omega (arith, e), (omega arith, sym (eq_same n m t))))
    by_test false t k r = let f = r k in (suc f.0, (omega (arith, f.1.0), (omega (arith, f.1.1.0), f.1.1.1)))

pub found_at : (n at : ℕ) (ns : List ℕ) → place_in ns n ≡ Some at → (at < length ns) × (get_or ns at 0 ≡ n)
found_at n at ns h = let f = found_from 0 n at ns h in let e : at ≡ f.0 = omega (arith, f.1.0) in rw e (f.1.1.0, f.1.1.1)

pub length_numbers : (es : List Entry) → length (numbers_of es) ≡ length es
length_numbers [] = refl
length_numbers (e ∷ es) = ap suc (length_numbers es)

eq_flipped : (a b : ℕ) → nat_eq a b ≡ nat_eq b a
eq_flipped a b = by_cases (nat_eq b a) refl
  where
    by_cases : (t : Bool) → nat_eq b a ≡ t → nat_eq a b ≡ t
    by_cases true e = grind (arith, nat_tests)
    by_cases false e = grind (arith, nat_tests)

-- anything by its number
module _ {X : Type 0} (number : X → ℕ) (n : ℕ) where
  placed_by_from : (i : ℕ) (xs : List X) → position_from (nat_eq n) i (map number xs) ≡ position_from (λ x. nat_eq (number x) n) i xs
  placed_by_from i [] = refl
  placed_by_from i (x ∷ xs) = rw (eq_flipped n (number x), placed_by_from (i + 1) xs) refl

  -- the place of a number is that of the first that has it
  pub placed_by : (xs : List X) → place_in (map number xs) n ≡ position_from (λ x. nat_eq (number x) n) 0 xs
  placed_by xs = placed_by_from 0 xs

  number_or : (i : ℕ) (xs : List X) (d : X) → i < length xs → number (get_or xs i d) ≡ get_or (map number xs) i 0
  number_or i [] d w = absurd (omega arith)
  number_or zero (x ∷ xs) d w = refl
  number_or (suc i) (x ∷ xs) d w = number_or i xs d (omega arith)

  length_map : (xs : List X) → length (map number xs) ≡ length xs
  length_map [] = refl
  length_map (x ∷ xs) = ap suc (length_map xs)

  rise : (xs : List X) (d : X) → Rises (map number xs) → IsNonDecreasingBy (λ x. ordering_index (nat_cmp (number x) n)) xs
  rise xs d r = IsNonDecreasingBy-from_default (λ x. ordering_index (nat_cmp (number x) n)) xs d (λ i j le w.
      let a = number_or i xs d (omega arith) in
      let b = number_or j xs d w in
      let up : number (get_or xs i d) ≤ number (get_or xs j d) = by_place i j le w a b in
      grind (arith, nat_tests))
    where
      by_place : (i j : ℕ) → i ≤ j → j < length xs → number (get_or xs i d) ≡ get_or (map number xs) i 0 → number (get_or xs j d) ≡ get_or (map number xs) j 0 → number (get_or xs i d) ≤ number (get_or xs j d)
      by_place i j le w a b = either (nat_eq i j) refl
        where
          either : (t : Bool) → nat_eq i j ≡ t → number (get_or xs i d) ≤ number (get_or xs j d)
          either true t = let s = eq_same i j t in rw s (omega arith)
          either false t = let lt : i < j = grind (arith, nat_tests) in let m = below_at i j (map number xs) 0 r lt (omega (arith, length_map xs)) in omega (arith, a, b, m)

  -- what a search by halving tells
  searched_with : (xs : List X) (d : X) → Rises (map number xs) → (o : Result ℕ ℕ) → IsSearchInRange o (length xs) → IsBinarySearchResult (λ x. nat_cmp (number x) n) xs o → result_ok o ≡ place_in (map number xs) n
  searched_with xs d r (Ok at) w h =
      let same = number_or at xs d w in
      let e : number (get_or xs at d) ≡ n = ranked _ n _ (sym (h d)) in
      sym (placed at n (map number xs) r (omega (arith, length_map xs)) (sym same ∙ e))
  searched_with xs d r (Err at) w h = sym (missing_from 0 n (map number xs) other)
    where
      other : (k : ℕ) → k < length (map number xs) → get_or (map number xs) k 0 ≢ n
      other k v e =
          let within : k < length xs = omega (arith, length_map xs) in
          let same = number_or k xs d within in
          either (nat_lt k at) refl within same
        where
          either : (t : Bool) → nat_lt k at ≡ t → k < length xs → number (get_or xs k d) ≡ get_or (map number xs) k 0 → ⊥
          either true t v same = let lt : k < at = grind (arith, nat_tests) in let m : number (get_or xs k d) < n = ranked _ n _ (sym ((h (rise xs d r)).0 k d (omega arith) lt)) in omega (arith, m, same, e)
          either false t v same = let le : at ≤ k = grind (arith, nat_tests) in let m : n < number (get_or xs k d) = ranked _ n _ (sym ((h (rise xs d r)).1 k d le v)) in omega (arith, m, same, e)

  pub searched : (xs : List X) → Rises (map number xs) → (o : Result ℕ ℕ) → IsSearchInRange o (length xs) → IsBinarySearchResult (λ x. nat_cmp (number x) n) xs o → result_ok o ≡ place_in (map number xs) n
  searched [] r (Ok at) w h = absurd (omega (arith, w))
  searched [] r (Err at) w h = refl
  searched (x ∷ xs) r o w h = searched_with (x ∷ xs) x r o w h
