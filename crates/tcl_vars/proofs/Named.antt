-- Entries whose keys are read as names.
use Rattle.std.proofs.Common.{◌≡◌, ℕ, List, [], ◌∷◌, Option, Some, Ordering, sym, refl, ap, ◌∙◌}
use Rattle.std.proofs.Common.{map, cond, Bool, true, false}
use Rattle.std.specs.declared.cmp.Ordering.TheVariants.{Less, Equal, Greater}
use Rattle.std.specs.Ordering.{nat_cmp, is_eq, match_ordering}
use Rattle.std.specs.Cmp.Lexicographic.{slice_cmp}
use Rattle.std.specs.BTreeMap.{insert_entry, is_at}
use Rattle.std.specs.List.{AllByRecursion}
use Rattle.std.specs.List.Sorted.{IsStrictlySortedBy}
use Rattle.std.specs.Map.{keys_of, lookup, set_value}
use Rattle.std.proofs.lemmas.Cmp.{nat_list_cmp_total}
use Rattle.std.proofs.lemmas.Map.Text.{is_eq-slice_cmp}
use Rattle.tcl_vars.specs.Scopes.{Table, find_in, put_in}
use Rattle.tcl_vars.specs.Tables.{IsInOrder}
use Rattle.tcl_vars.proofs.Inserted.{insert_found}

-- the order of keys by their names
abbrev pub by_name : {K : Type 0} → (K → List ℕ) → K → K → Ordering
by_name name x y = slice_cmp nat_cmp (name x) (name y)

-- the query for a name
abbrev pub is_named : {K : Type 0} → (K → List ℕ) → List ℕ → K → Bool
is_named name q k = is_eq (slice_cmp nat_cmp q (name k))

-- the entries with the keys' names
abbrev pub named : {K X : Type 0} → (K → List ℕ) → List (K × X) → Table X
named name es = map (λ e. (name e.0, e.1)) es

-- a query finds by equal bytes
pub lookup-at : {X : Type 0} (q : List ℕ) (t : Table X) → lookup (is_at (slice_cmp nat_cmp q)) t ≡ find_in q t
lookup-at q [] = refl
lookup-at q (e ∷ es) = rw (is_eq-slice_cmp q e.0, lookup-at q es)

module _ {K X : Type 0} (name : K → List ℕ) where
  pub find_in-named : (q : List ℕ) (es : List (K × X)) → lookup (is_named name q) es ≡ find_in q (named name es)
  find_in-named q [] = refl
  find_in-named q (e ∷ es) = rw (is_eq-slice_cmp q (name e.0), find_in-named q es)

  -- what a query finds in the tree, found by the name in the table that the tree is seen as
  pub found_in : (q : List ℕ) (es : List (K × X)) {t : Table X} {found : Option X} → named name es ≡ t → found ≡ lookup (is_named name q) es → find_in q t ≡ found
  found_in q es seen there = ap (λ t. find_in q t) (sym seen) ∙ sym (find_in-named q es) ∙ sym there

  pub set_value-named : (q : List ℕ) (es : List (K × X)) (w : X) → named name (set_value (is_named name q) es w) ≡ set_value (is_at (slice_cmp nat_cmp q)) (named name es) w
  set_value-named q [] w = refl
  set_value-named q (e ∷ es) w =
      elim (is_named name q e.0) as (λ b. named name (cond b ((e.0, w) ∷ es) (e ∷ set_value (is_named name q) es w)) ≡ cond b ((name e.0, w) ∷ named name es) ((name e.0, e.1) ∷ set_value (is_at (slice_cmp nat_cmp q)) (named name es) w)) [
        | true ↦ refl
        | false ↦ ap (λ fs. (name e.0, e.1) ∷ fs) (set_value-named q es w)
      ]

  pub put_in-named : (k : K) (w : X) (es : List (K × X)) → named name (insert_entry (by_name name) es k w) ≡ put_in (name k) w (named name es)
  put_in-named k w [] = refl
  put_in-named k w (e ∷ es) =
      elim (by_name name k e.0) as (λ o. named name (match_ordering o ((k, w) ∷ e ∷ es) ((e.0, w) ∷ es) (e ∷ insert_entry (by_name name) es k w)) ≡ match_ordering o ((name k, w) ∷ (name e.0, e.1) ∷ named name es) ((name e.0, w) ∷ named name es) ((name e.0, e.1) ∷ put_in (name k) w (named name es))) [
        | Less ↦ refl
        | Equal ↦ refl
        | Greater ↦ ap (λ fs. (name e.0, e.1) ∷ fs) (put_in-named k w es)
      ]

  all_above-named : (k : K) (es : List (K × X)) → AllByRecursion (λ y. by_name name k y ≡ Less) (keys_of es) → AllByRecursion (λ y. slice_cmp nat_cmp (name k) y ≡ Less) (keys_of (named name es))
  all_above-named k [] above = tt
  all_above-named k (e ∷ es) above = (above.0, all_above-named k es above.1)

  pub in_order-named : (es : List (K × X)) → IsStrictlySortedBy (by_name name) (keys_of es) → IsInOrder (named name es)
  unfolding IsStrictlySortedBy
  in_order-named [] sorted = tt
  in_order-named (e ∷ es) sorted = (all_above-named e.0 es sorted.0, in_order-named es sorted.1)

  -- an entry that is there takes the value, in the names' words
  pub set_found-named : (q : List ℕ) (es : List (K × X)) (v w : X) → IsStrictlySortedBy (by_name name) (keys_of es) → lookup (is_named name q) es ≡ Some v
      → named name (set_value (is_named name q) es w) ≡ put_in q w (named name es)
  set_found-named q es v w sorted found =
      set_value-named q es w ∙ sym (insert_found nat_list_cmp_total q (named name es) v w (in_order-named es sorted) (lookup-at q (named name es) ∙ sym (find_in-named q es) ∙ found))
