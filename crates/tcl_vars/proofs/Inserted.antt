-- What setting a key's value leaves of a sorted list of entries, and of a sum over them.
use Rattle.std.proofs.Common.{◌≡◌, ℕ, ◌+◌, List, [], ◌∷◌, Option, Some, Ordering, refl, ap, arith}
use Rattle.std.specs.declared.cmp.Ordering.TheVariants.{Less, Equal, Greater}
use Rattle.std.specs.Prelude.{sum_by, option_map, unwrap_or}
use Rattle.std.specs.BTreeMap.{insert_entry, is_at}
use Rattle.std.specs.Cmp.{IsTotalOrder}
use Rattle.std.specs.List.Sorted.{IsStrictlySortedBy}
use Rattle.std.specs.Map.{keys_of, lookup, set_value}
use Rattle.std.proofs.lemmas.Map.{lookup-none}
use Rattle.std.proofs.lemmas.Map.Entries.{none_below_head}
use Rattle.std.proofs.lemmas.Map.Keys.{sorted_tail}
use Rattle.std.proofs.lemmas.Map.Lookups.{CmpEqualImpliesEq}
use Rattle.std.proofs.lemmas.List.Sums.{sum_by-cons}

module _ {K X : Type 0} {R : K → K → Ordering} (laws : IsTotalOrder R) (q : K) where
  -- a key that is there takes the value in its place
  pub insert_found : (es : List (K × X)) (v w : X) → IsStrictlySortedBy R (keys_of es) → lookup (is_at (R q)) es ≡ Some v
      → insert_entry R es q w ≡ set_value (is_at (R q)) es w
  insert_found [] v w sorted found = cc
  insert_found (e ∷ es) v w sorted found =
      elim (R q e.0) as (λ o. R q e.0 ≡ o → insert_entry R (e ∷ es) q w ≡ set_value (is_at (R q)) (e ∷ es) w) [
        | Less ↦ λ below. let none = lookup-none (is_at (R q)) (e ∷ es) (none_below_head laws q e es sorted below) in cc
        | Equal ↦ λ same. rw same
        | Greater ↦ λ above. let rest = rw above at found in rw above (ap (λ fs. e ∷ fs) (insert_found es v w (sorted_tail R e.0 (keys_of es) sorted) rest))
      ] refl

  -- the sum of what the entries weigh: the old value's weight goes and the new one's comes
  pub sum_by-insert : CmpEqualImpliesEq R → (f : K × X → ℕ) (es : List (K × X)) (w : X) → IsStrictlySortedBy R (keys_of es)
      → sum_by f (insert_entry R es q w) + unwrap_or (option_map (λ v. f (q, v)) (lookup (is_at (R q)) es)) 0 ≡ sum_by f es + f (q, w)
  sum_by-insert exact f [] w sorted = omega arith
  sum_by-insert exact f (e ∷ es) w sorted =
      let P : List (K × X) → Option X → Type 0 = λ fs o. sum_by f fs + unwrap_or (option_map (λ v. f (q, v)) o) 0 ≡ sum_by f (e ∷ es) + f (q, w) in
      elim (R q e.0) as (λ o. R q e.0 ≡ o → P (insert_entry R (e ∷ es) q w) (lookup (is_at (R q)) (e ∷ es))) [
        | Less ↦ λ below. rw (lookup-none (is_at (R q)) (e ∷ es) (none_below_head laws q e es sorted below)) (rw below (omega (arith, sum_by-cons f (q, w) (e ∷ es))))
        | Equal ↦ λ same. rw same (let k = exact q e.0 same in
            omega (arith, sum_by-cons f (e.0, w) es, sum_by-cons f e es, ap (λ x. f (x, e.1)) k, ap (λ x. f (x, w)) k))
        | Greater ↦ λ above. rw above (omega (arith, sum_by-cons f e es, sum_by-cons f e (insert_entry R es q w), sum_by-insert exact f es w (sorted_tail R e.0 (keys_of es) sorted)))
      ] refl
