-- What the root tells of the deadlines.
use Rattle.std.proofs.Common.{◌≡◌, ◌⊎◌, inl, inr, ℕ, zero, suc, ◌+◌, ◌-◌, ◌*◌, ◌<◌, ◌≤◌, List, Bool, true, false}
use Rattle.std.proofs.Common.{Option, Some, None, IfSome, IfNone, nat_lt, length, get_or, drop, refl, sym, ap, ◌∙◌}
use Rattle.std.proofs.Common.{subst, arith, replicate}
use Rattle.std.proofs.lemmas.Bool.Decides.{nat_tests}
use Rattle.std.proofs.lemmas.List.{get_or-drop, get_or-replicate, get_or_past, length-replicate}
use Rattle.index_lists.specs.Least.{NodeAt, IsTree, earlier}
use Rattle.index_lists.specs.Wheel.{IsDue, IsNext, due_of}
use Rattle.index_lists.proofs.Orders.{Within, earlier_is, within_due, within_none}
use Rattle.index_lists.proofs.Trees.{length_dues, root_below}

-- the root comes behind no deadline
pub under_root : (n id : ℕ) (xs : List (Option ℕ)) → IsTree n xs
    → Within (get_or xs 1 None) (due_of (drop n xs) id)
under_root n id xs t = by (nat_lt id n) refl
  where
    by : (b : Bool) → nat_lt id n ≡ b → Within (get_or xs 1 None) (due_of (drop n xs) id)
    by true e =
        let w : id < n = grind (arith, nat_tests) in
        let P : Option ℕ → Type 0 = λ o. Within (get_or xs 1 None) o in
        subst P (sym (get_or-drop n xs id None)) (root_below n (n + id) xs t.least (omega (arith, w)) (omega (arith, w)))
    by false e =
        let w : length (drop n xs) ≤ id = (let l = length_dues n xs t in grind (arith, nat_tests)) in
        let P : Option ℕ → Type 0 = λ o. Within (get_or xs 1 None) o in
        subst P (sym (get_or_past (drop n xs) id None w)) (record { is = refl })

-- a leaf with the deadline of a node
pub record LeafOf (n k : ℕ) (xs : List (Option ℕ)) : Type 0 where
  pub at : ℕ
  pub low : n ≤ at
  pub same : get_or xs at None ≡ get_or xs k None

leaf_of : (fuel n k : ℕ) (xs : List (Option ℕ)) → IsTree n xs → 1 ≤ k → k < 2 * n → 2 * n ≤ k + fuel → LeafOf n k xs
leaf_of zero n k xs t lo hi f = absurd (omega arith)
leaf_of (suc fuel) n k xs t lo hi f =
    by (leaf_of fuel n (2 * k) xs t) (leaf_of fuel n (2 * k + 1) xs t) (nat_lt k n) refl
  where
    Deep : ℕ → Type 0
    Deep j = 1 ≤ j → j < 2 * n → 2 * n ≤ j + fuel → LeafOf n j xs

    by : Deep (2 * k) → Deep (2 * k + 1) → (b : Bool) → nat_lt k n ≡ b → LeafOf n k xs
    by left right false e = record { at = k; low = grind (arith, nat_tests); same = refl }
    by left right true e =
        let w : k < n = grind (arith, nat_tests) in
        down w (t.least.nodes k lo w) (earlier_is (get_or xs (2 * k) None) (get_or xs (2 * k + 1) None))
      where
        down : k < n → NodeAt xs k → earlier (get_or xs (2 * k) None) (get_or xs (2 * k + 1) None) ≡ get_or xs (2 * k) None
            ⊎ earlier (get_or xs (2 * k) None) (get_or xs (2 * k + 1) None) ≡ get_or xs (2 * k + 1) None → LeafOf n k xs
        down w node (inl i) =
            let d = left (omega arith) (omega arith) (omega arith) in
            record { at = d.at; low = d.low; same = d.same ∙ sym (node ∙ i) }
        down w node (inr i) =
            let d = right (omega arith) (omega arith) (omega arith) in
            record { at = d.at; low = d.low; same = d.same ∙ sym (node ∙ i) }

-- the deadline of a leaf
leaf_due : (n at : ℕ) (xs : List (Option ℕ)) → n ≤ at → due_of (drop n xs) (at - n) ≡ get_or xs at None
leaf_due n at xs low =
    let back : n + (at - n) ≡ at = omega (arith, low) in
    get_or-drop n xs (at - n) None ∙ ap (λ i. get_or xs i None) back

pub root_is_next : (n : ℕ) (xs : List (Option ℕ)) → IsTree n xs → 0 < n → (due : ℕ) → get_or xs 1 None ≡ Some due → IsNext (drop n xs) due
root_is_next n xs t pos due e =
    let d = leaf_of (2 * n) n 1 xs t (omega arith) (omega arith) (omega arith) in
    record {
      id = d.at - n;
      is = leaf_due n d.at xs d.low ∙ d.same ∙ e;
      least = λ other later is. within_due due later (
          let P : Option ℕ → Type 0 = λ o. Within o (Some later) in
          let Q : Option ℕ → Type 0 = λ o. Within (get_or xs 1 None) o in
          subst P e (subst Q is (under_root n other xs t)));
    }

pub none_next : (n : ℕ) (xs : List (Option ℕ)) → IsTree n xs → get_or xs 1 None ≡ None → (id : ℕ) → due_of (drop n xs) id ≡ None
none_next n xs t e id =
    let P : Option ℕ → Type 0 = λ o. Within o (due_of (drop n xs) id) in
    within_none _ (subst P e (under_root n id xs t))

-- what the root's deadline tells, where it is read
pub next_some : (n : ℕ) (xs : List (Option ℕ)) (o : Option ℕ) → IsTree n xs → 0 < n → get_or xs 1 None ≡ o
    → IfSome o (λ due. IsNext (drop n xs) due)
next_some n xs None t pos e = tt
next_some n xs (Some due) t pos e = root_is_next n xs t pos due e

pub next_none : (n : ℕ) (xs : List (Option ℕ)) (o : Option ℕ) → IsTree n xs → get_or xs 1 None ≡ o
    → IfNone o ((id : ℕ) → due_of (drop n xs) id ≡ None)
next_none n xs None t e = none_next n xs t e
next_none n xs (Some due) t e = tt

-- a leaf with the root's deadline is due, where the least deadline is
pub leaf_is_due : (n at due moment : ℕ) (xs : List (Option ℕ)) → IsTree n xs → n ≤ at
    → get_or xs at None ≡ get_or xs 1 None → IsNext (drop n xs) due → due ≤ moment → IsDue (drop n xs) moment (at - n)
leaf_is_due n at due moment xs t low same next come = by (get_or xs 1 None) refl
  where
    by : (o : Option ℕ) → get_or xs 1 None ≡ o → IsDue (drop n xs) moment (at - n)
    by None e = absurd (let i = sym next.is ∙ none_next n xs t e next.id in cc)
    by (Some r) e =
        let P : Option ℕ → Type 0 = λ o. Within o (Some due) in
        let Q : Option ℕ → Type 0 = λ o. Within (get_or xs 1 None) o in
        let least = within_due r due (subst P e (subst Q next.is (under_root n next.id xs t))) in
        record { due = r; is = leaf_due n at xs low ∙ same ∙ e; come = omega (arith, least, come) }

-- none of the numbers has a deadline
pub empty_tree : (n : ℕ) → IsTree n (replicate (2 * n) None)
empty_tree n = record {
  least = record {
    nodes = λ k lo hi.
        let self = none k (omega arith) in
        let left = none (2 * k) (omega arith) in
        let right = none (2 * k + 1) (omega arith) in
        rw (self, left, right) refl;
  };
  twice = length-replicate (2 * n) None;
}
  where
    none : (k : ℕ) → k < 2 * n → get_or {A = Option ℕ} (replicate (2 * n) None) k None ≡ None
    none k w = get_or-replicate (2 * n) k None None w
