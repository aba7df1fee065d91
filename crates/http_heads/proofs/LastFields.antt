-- The last field of a name, and a field in the place of another.
use Rattle.std.proofs.Common.{◌≡◌, ℕ, zero, suc, ◌+◌, ◌<◌, Bool, true, false, ◌&&◌, cond, List, [], ◌∷◌, ◌++◌, length, get_or, set, Option, Some, None, Result, Ok, Err, refl, sym, ap, ap₂, ◌∙◌, arith, take}
use Rattle.std.specs.Prelude.{IfSome}
use Rattle.std.specs.List.{list_all}
use Rattle.std.proofs.lemmas.Bool.{and_parts}
use Rattle.std.proofs.lemmas.List.{take_more, length-take-le, length-set}
use Rattle.px_bytes.specs.FaultText.{too_long}
use Rattle.px_bytes.specs.Gives.{Gives}
use Rattle.px_bytes.specs.declared.fault.Raise.{Raise}
use Rattle.px_bytes.specs.declared.fault.Raise.TheVariants as raise
use Rattle.http_heads.specs.Fields.{AreFields, Edits, Pair, fit, is_field, is_named, last_place, later}

-- the last place with one field more
abbrev pub with_more : ℕ → Bool → Option ℕ → Option ℕ
with_more size here last = cond here (Some size) last

later_more : (size : ℕ) (here first : Bool) (last : Option ℕ) → later (with_more size here last) first ≡ with_more (size + 1) here (later last first)
later_more size true first last = refl
later_more size false first last = refl

last_one_more : (name : List ℕ) (fs : List Pair) (f : Pair) → last_place name (fs ++ f ∷ []) ≡ with_more (length fs) (is_named name f) (last_place name fs)
last_one_more name [] f = elim (is_named name f) as (λ t. later None t ≡ cond t (Some 0) None) [ true ↦ refl | false ↦ refl ]
last_one_more name (g ∷ fs) f =
    let size : length fs + 1 ≡ length (g ∷ fs) = omega arith in
    ap (λ l. later l (is_named name g)) (last_one_more name fs f) ∙ later_more (length fs) (is_named name f) (is_named name g) (last_place name fs)
    ∙ ap (λ n. with_more n (is_named name f) (later (last_place name fs) (is_named name g))) size

pub last_more : (name : List ℕ) (fs : List Pair) (i : ℕ) (f : Pair) → i < length fs → f ≡ get_or fs i f
    → last_place name (take (i + 1) fs) ≡ with_more i (is_named name f) (last_place name (take i fs))
last_more name fs i f there is =
    ap (last_place name) (take_more fs i f there ∙ ap (λ y. take i fs ++ y ∷ []) (sym is))
    ∙ last_one_more name (take i fs) f
    ∙ ap (λ n. with_more n (is_named name f) (last_place name (take i fs))) (length-take-le i fs (omega (arith, there)))

pub still_within : (last : Option ℕ) (at : ℕ) → IfSome last (λ place. place < at) → IfSome last (λ place. place < at + 1)
still_within None at is = tt
still_within (Some place) at is = omega (arith, is)

pub all_set : (fs : List Pair) (at : ℕ) (f : Pair) → list_all is_field fs ≡ true → is_field f ≡ true → list_all is_field (set fs at f) ≡ true
all_set [] at f all is = all
all_set (g ∷ fs) zero f all is =
    ap₂ (λ s t. s && t) is (and_parts (is_field g) (list_all is_field fs) all).1
all_set (g ∷ fs) (suc at) f all is =
    let both = and_parts (is_field g) (list_all is_field fs) all in
    ap₂ (λ s t. s && t) both.0 (all_set fs at f both.1 is)

pub fields_set : (fs : List Pair) (at : ℕ) (f : Pair) → AreFields fs → is_field f ≡ true → AreFields (set fs at f)
fields_set fs at f are is = record { are = all_set fs at f are.are is; few = omega (arith, are.few, length-set fs at f) }

pub set_back : (fs : List Pair) (at : ℕ) (f g : Pair) → at < length fs → g ≡ get_or fs at g → set (set fs at f) at g ≡ fs
set_back [] at f g there is = absurd (omega (arith, there))
set_back (h ∷ fs) zero f g there is = ap (λ x. x ∷ fs) is
set_back (h ∷ fs) (suc at) f g there is = ap (λ xs. h ∷ xs) (set_back fs at f g (omega (arith, there)) is)

-- what is too long is refused
pub edit_refused : (r : Result (Unit {0}) Raise) (old new wanted : List Pair) → Gives r (Err too_long) → fit wanted ≡ false → new ≡ old → Edits r old new wanted
edit_refused (Ok done) old new wanted says long same = cc
edit_refused (Err (raise.Fault f)) old new wanted says long same = let is : f ≡ too_long = cc in (long, is, same)
edit_refused (Err raise.Memory) old new wanted says long same = same
