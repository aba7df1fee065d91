-- Fields without those of a name, but for the first.
use Rattle.std.proofs.Common.{◌≡◌, ℕ, zero, suc, ◌<◌, ◌≤◌, Bool, true, false, not, ◌&&◌, ◌||◌, cond, List, [], ◌∷◌, length, get_or, remove, refl, sym, ap, ap₂, ◌∙◌, arith}
use Rattle.std.specs.List.{list_all}
use Rattle.std.proofs.lemmas.Bool.{and_parts}
use Rattle.http_heads.specs.Fields.{AreFields, Pair, is_field, is_named, without}
use Rattle.http_heads.specs.Passed.{first_alone}
use Rattle.http_heads.proofs.FilterFields.{all_left, few_left}

-- what is left of the fields behind a place, before which one of the name was seen or not
abbrev pub rest_of : List ℕ → Bool → List Pair → List Pair
rest_of name seen fs = cond seen (without name fs) (first_alone name fs)

abbrev pub rest_from : List ℕ → Bool → ℕ → List Pair → List Pair
rest_from name seen zero fs = rest_of name seen fs
rest_from name seen (suc at) [] = []
rest_from name seen (suc at) (f ∷ fs) = f ∷ rest_from name seen at fs

none_left : (name : List ℕ) (seen : Bool) → rest_of name seen [] ≡ []
none_left name true = refl
none_left name false = refl

pub at_end : (name : List ℕ) (seen : Bool) (fs : List Pair) (at : ℕ) → length fs ≤ at → rest_from name seen at fs ≡ fs
at_end name seen [] zero end = none_left name seen
at_end name seen [] (suc at) end = refl
at_end name seen (f ∷ fs) zero end = absurd (omega (arith, end))
at_end name seen (f ∷ fs) (suc at) end = ap (λ xs. f ∷ xs) (at_end name seen fs at (omega (arith, end)))

-- a further field of the name goes
pub goes : (name : List ℕ) (fs : List Pair) (at : ℕ) (g : Pair) → at < length fs → g ≡ get_or fs at g → is_named name g ≡ true
    → rest_from name true at (remove fs at) ≡ rest_from name true at fs
goes name [] at g there is so = absurd (omega (arith, there))
goes name (f ∷ fs) zero g there is so = sym (ap (λ t. cond (not t) (f ∷ without name fs) (without name fs)) (ap (is_named name) (sym is) ∙ so))
goes name (f ∷ fs) (suc at) g there is so = ap (λ xs. f ∷ xs) (goes name fs at g (omega (arith, there)) is so)

one_stays : (name : List ℕ) (seen : Bool) (f : Pair) (fs : List Pair) (named : Bool) → is_named name f ≡ named → (named && seen) ≡ false
    → f ∷ rest_of name (seen || named) fs ≡ rest_of name seen (f ∷ fs)
one_stays name true f fs true so both = absurd (grind (arith, both))
one_stays name true f fs false so both = sym (ap (λ t. cond (not t) (f ∷ without name fs) (without name fs)) so)
one_stays name false f fs true so both = sym (ap (λ t. cond t (f ∷ without name fs) (f ∷ first_alone name fs)) so)
one_stays name false f fs false so both = sym (ap (λ t. cond t (f ∷ without name fs) (f ∷ first_alone name fs)) so)

-- the first of the name stays, and so does one of another
pub stays : (name : List ℕ) (seen : Bool) (fs : List Pair) (at : ℕ) (g : Pair) (named : Bool) → at < length fs → g ≡ get_or fs at g
    → is_named name g ≡ named → (named && seen) ≡ false → rest_from name (seen || named) (suc at) fs ≡ rest_from name seen at fs
stays name seen [] at g named there is so both = absurd (omega (arith, there))
stays name seen (f ∷ fs) zero g named there is so both = one_stays name seen f fs named (ap (is_named name) (sym is) ∙ so) both
stays name seen (f ∷ fs) (suc at) g named there is so both = ap (λ xs. f ∷ xs) (stays name seen fs at g named (omega (arith, there)) is so both)

pub all_first : (name : List ℕ) (fs : List Pair) → list_all is_field fs ≡ true → list_all is_field (first_alone name fs) ≡ true
all_first name [] all = refl
all_first name (f ∷ fs) all =
    let both = and_parts (is_field f) (list_all is_field fs) all in
    elim (is_named name f) as (λ t. list_all is_field (cond t (f ∷ without name fs) (f ∷ first_alone name fs)) ≡ true) [
      | true ↦ ap₂ (λ s t. s && t) both.0 (all_left (λ g. not (is_named name g)) fs both.1)
      | false ↦ ap₂ (λ s t. s && t) both.0 (all_first name fs both.1)
    ]

pub few_first : (name : List ℕ) (fs : List Pair) → length (first_alone name fs) ≤ length fs
few_first name [] = omega arith
few_first name (f ∷ fs) =
    elim (is_named name f) as (λ t. length (cond t (f ∷ without name fs) (f ∷ first_alone name fs)) ≤ length (f ∷ fs)) [
      | true ↦ omega (arith, few_left (λ g. not (is_named name g)) fs)
      | false ↦ omega (arith, few_first name fs)
    ]

pub fields_first : (name : List ℕ) (fs : List Pair) → AreFields fs → AreFields (first_alone name fs)
fields_first name fs are = record { are = all_first name fs are.are; few = omega (arith, are.few, few_first name fs) }
