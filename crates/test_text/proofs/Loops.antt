-- Items that are read one behind the other.
use Rattle.std.proofs.Common.{◌≡◌, ℕ, ◌+◌, ◌<◌, List, ◌∷◌, map, drop, length, get_or, Result, Ok, Err, sym, ap, ◌∙◌}
use Rattle.std.proofs.lemmas.List.{drop_more}
use Rattle.test_text.specs.Faults.{read_all, with_value}
use Rattle.test_text.specs.declared.fault.TestFault.{TestFault}

module _ {S X Y : Type 0} (f : S → Y → Result S TestFault) (view : X → Y) (xs : List X) (i : ℕ) (x : X)
    (there : i < length xs) (is : x ≡ get_or xs i x) (s : S) where
  -- an item more
  here : read_all f s (map view (drop i xs)) ≡ with_value (f s (view x)) (λ more. read_all f more (map view (drop (i + 1) xs)))
  here = ap (λ ys. read_all f s (map view ys)) (drop_more xs i x there ∙ ap (λ y. y ∷ drop (i + 1) xs) (sym is))

  pub goes_on : {wanted : Result S TestFault} → wanted ≡ read_all f s (map view (drop i xs)) → (more : S) → f s (view x) ≡ Ok more
      → wanted ≡ read_all f more (map view (drop (i + 1) xs))
  goes_on so more e = so ∙ here ∙ ap (λ r. with_value r (λ m. read_all f m (map view (drop (i + 1) xs)))) e

  pub stops : {wanted : Result S TestFault} → wanted ≡ read_all f s (map view (drop i xs)) → (fault : TestFault) → f s (view x) ≡ Err fault
      → wanted ≡ Err fault
  stops so fault e = so ∙ here ∙ ap (λ r. with_value r (λ m. read_all f m (map view (drop (i + 1) xs)))) e
