-- Fields without some of them.
use Rattle.std.proofs.Common.{◌≡◌, ◌≤◌, Bool, true, false, ◌&&◌, cond, List, [], ◌∷◌, length, refl, ap₂, arith}
use Rattle.std.specs.Prelude.{filter}
use Rattle.std.specs.List.{list_all}
use Rattle.std.proofs.lemmas.Bool.{and_parts}
use Rattle.http_heads.specs.Fields.{AreFields, Pair, is_field}

pub all_left : (test : Pair → Bool) (fs : List Pair) → list_all is_field fs ≡ true → list_all is_field (filter test fs) ≡ true
all_left test [] all = refl
all_left test (f ∷ fs) all =
    let both = and_parts (is_field f) (list_all is_field fs) all in
    let rest = all_left test fs both.1 in
    elim (test f) as (λ t. list_all is_field (cond t (f ∷ filter test fs) (filter test fs)) ≡ true) [
      | true ↦ ap₂ (λ s t. s && t) both.0 rest
      | false ↦ rest
    ]

pub few_left : (test : Pair → Bool) (fs : List Pair) → length (filter test fs) ≤ length fs
few_left test [] = omega arith
few_left test (f ∷ fs) = elim (test f) as (λ t. length (cond t (f ∷ filter test fs) (filter test fs)) ≤ length (f ∷ fs)) [
  | true ↦ omega (arith, few_left test fs)
  | false ↦ omega (arith, few_left test fs)
]

pub fields_left : (test : Pair → Bool) (fs : List Pair) → AreFields fs → AreFields (filter test fs)
fields_left test fs are = record { are = all_left test fs are.are; few = omega (arith, are.few, few_left test fs) }
