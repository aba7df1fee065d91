-- What the nodes tell of the leaves, and what a set leaf changes.
use Rattle.std.proofs.Common.{◌≡◌, ◌≢◌, ℕ, zero, suc, ◌+◌, ◌-◌, ◌*◌, ◌/◌, ◌<◌, ◌≤◌, List}
use Rattle.std.proofs.Common.{Bool, true, false, Option, None, nat_eq, length, get_or, slice_set}
use Rattle.std.proofs.Common.{drop, refl, sym, ap, ◌∙◌, subst, arith}
use Rattle.std.proofs.lemmas.Bool.Decides.{nat_tests}
use Rattle.std.proofs.lemmas.List.{get_or-set_same, get_or-set_other, length-drop}
use Rattle.std.proofs.lemmas.List.{drop-set-lt, drop-set-add}
use Rattle.index_lists.specs.Least.{NodeAt, IsLeast, IsLeastBut, IsTree, earlier}
use Rattle.index_lists.proofs.Orders.{Within, earlier_left, earlier_right, same_within}
use Rattle.index_lists.proofs.Orders.{within_trans}

-- a node has no later deadline than a child of it
below_parent : (n k : ℕ) (xs : List (Option ℕ)) → IsLeast n xs → 2 ≤ k → k < 2 * n
    → Within (get_or xs (k / 2) None) (get_or xs k None)
below_parent n k xs s lo hi =
    by (nat_eq (2 * (k / 2)) k) refl (s.nodes (k / 2) (omega arith) (omega arith))
  where
    by : (t : Bool) → nat_eq (2 * (k / 2)) k ≡ t → NodeAt xs (k / 2)
        → Within (get_or xs (k / 2) None) (get_or xs k None)
    by true q e =
        let f : 2 * (k / 2) ≡ k = grind (arith, nat_tests) in
        let P : ℕ → Type 0 = λ i. Within (get_or xs (k / 2) None) (get_or xs i None) in
        subst P f (rw e (earlier_left (get_or xs (2 * (k / 2)) None) (get_or xs (2 * (k / 2) + 1) None)))
    by false q e =
        let ne : 2 * (k / 2) ≢ k = grind (arith, nat_tests) in
        let f : 2 * (k / 2) + 1 ≡ k = omega (arith, ne) in
        let P : ℕ → Type 0 = λ i. Within (get_or xs (k / 2) None) (get_or xs i None) in
        subst P f (rw e (earlier_right (get_or xs (2 * (k / 2)) None) (get_or xs (2 * (k / 2) + 1) None)))

-- the root has none later than any node
pub root_below : (n k : ℕ) (xs : List (Option ℕ)) → IsLeast n xs → 1 ≤ k → k < 2 * n
    → Within (get_or xs 1 None) (get_or xs k None)
root_below n k xs s lo hi = up k k lo hi (omega arith)
  where
    up : (fuel j : ℕ) → 1 ≤ j → j < 2 * n → j ≤ fuel → Within (get_or xs 1 None) (get_or xs j None)
    up zero j low high f = absurd (omega arith)
    up (suc fuel) j low high f = by (up fuel (j / 2)) (nat_eq j 1) refl
      where
        by : (1 ≤ j / 2 → j / 2 < 2 * n → j / 2 ≤ fuel → Within (get_or xs 1 None) (get_or xs (j / 2) None))
            → (t : Bool) → nat_eq j 1 ≡ t → Within (get_or xs 1 None) (get_or xs j None)
        by next true q =
            let e : 1 ≡ j = grind (arith, nat_tests) in same_within _ _ (ap (λ i. get_or xs i None) e)
        by next false q =
            let ne : j ≢ 1 = grind (arith, nat_tests) in
            let two : 2 ≤ j = omega (arith, ne) in
            within_trans _ _ _ (next (omega arith) (omega arith) (omega arith)) (below_parent n j xs s two high)

-- where a leaf is set, all nodes but its parent are as they should be
pub leaf_set : (n at : ℕ) (d : Option ℕ) (xs : List (Option ℕ)) → IsLeast n xs → n ≤ at
    → IsLeastBut n (at / 2) (slice_set xs at d)
leaf_set n at d xs s low = record {
  nodes = λ k lo hi ne.
      let self = get_or-set_other xs at k d None (λ e. absurd (omega (arith, e))) in
      let left = get_or-set_other xs at (2 * k) d None (λ e. ne (omega (arith, e))) in
      let right = get_or-set_other xs at (2 * k + 1) d None (λ e. ne (omega (arith, e))) in
      rw (self, left, right) (s.nodes k lo hi);
}

-- a node is put right, and its parent is left
pub node_set : (n p : ℕ) (xs : List (Option ℕ)) → length xs ≡ 2 * n → IsLeastBut n p xs → 1 ≤ p → p < n
    → IsLeastBut n (p / 2) (slice_set xs p (earlier (get_or xs (2 * p) None) (get_or xs (2 * p + 1) None)))
node_set n p xs len s lo hi = record { nodes = λ k klo khi ne. by k klo khi ne (nat_eq k p) refl }
  where
    v : Option ℕ
    v = earlier (get_or xs (2 * p) None) (get_or xs (2 * p + 1) None)

    by : (k : ℕ) → 1 ≤ k → k < n → k ≢ p / 2 → (t : Bool) → nat_eq k p ≡ t → NodeAt (slice_set xs p v) k
    by k klo khi ne true q =
        let e : k ≡ p = grind (arith, nat_tests) in
        let P : ℕ → Type 0 = λ i. NodeAt (slice_set xs p v) i in
        let self = get_or-set_same xs p v None (omega (arith, len)) in
        let left = get_or-set_other xs p (2 * p) v None (λ f. absurd (omega (arith, f, lo))) in
        let right = get_or-set_other xs p (2 * p + 1) v None (λ f. absurd (omega (arith, f, lo))) in
        let own : NodeAt (slice_set xs p v) p = rw (self, left, right) refl in
        subst P (sym e) own
    by k klo khi ne false q =
        let other : k ≢ p = grind (arith, nat_tests) in
        let self = get_or-set_other xs p k v None other in
        let left = get_or-set_other xs p (2 * k) v None (λ f. ne (omega (arith, f))) in
        let right = get_or-set_other xs p (2 * k + 1) v None (λ f. ne (omega (arith, f))) in
        rw (self, left, right) (s.nodes k klo khi other)

-- a node that is as it should be leaves none
pub none_left : (n p : ℕ) (xs : List (Option ℕ)) → IsLeastBut n p xs → NodeAt xs p → IsLeast n xs
none_left n p xs s e = record { nodes = λ k lo hi. by k lo hi (nat_eq k p) refl }
  where
    by : (k : ℕ) → 1 ≤ k → k < n → (t : Bool) → nat_eq k p ≡ t → NodeAt xs k
    by k lo hi true q =
        let f : k ≡ p = grind (arith, nat_tests) in
        let P : ℕ → Type 0 = λ i. NodeAt xs i in
        subst P (sym f) e
    by k lo hi false q = s.nodes k lo hi (grind (arith, nat_tests))

pub root_left : (n : ℕ) (xs : List (Option ℕ)) → IsLeastBut n 0 xs → IsLeast n xs
root_left n xs s = record { nodes = λ k lo hi. s.nodes k lo hi (λ e. absurd (omega (arith, e))) }

-- a leaf's deadline is that of its number; inner nodes have no number
pub leaves_set : (n at : ℕ) (d : Option ℕ) (xs : List (Option ℕ)) → n ≤ at
    → drop n (slice_set xs at d) ≡ slice_set (drop n xs) (at - n) d
leaves_set n at d xs low =
    let e : at ≡ n + (at - n) = omega arith in
    ap (λ i. drop n (slice_set xs i d)) e ∙ drop-set-add n xs (at - n) d

pub inner_set : (n p : ℕ) (d : Option ℕ) (xs : List (Option ℕ)) → p < n
    → drop n (slice_set xs p d) ≡ drop n xs
inner_set n p d xs w = drop-set-lt n xs p d w

pub length_dues : (n : ℕ) (xs : List (Option ℕ)) → IsTree n xs → length (drop n xs) ≡ n
length_dues n xs t = omega (arith, t.twice, length-drop n xs)
