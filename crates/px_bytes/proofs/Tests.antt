-- Cases of a test, without a helper that states its goal again.
use Rattle.std.proofs.Common.{◌≡◌, refl, ap, ℕ, Bool, true, false, if◌then◌else◌, nat_eq}
use Rattle.px_bytes.specs.At.{at}

-- what holds of both outcomes holds of the one that a test selects
pub on_if : {A : Type 0} (P : A → Type 0) (b : Bool) {x y : A} → P x → P y → P (if b then x else y)
on_if P true p q = p
on_if P false p q = q

-- a fact about a test, by both of its values, each of which is known in its case
pub by_cases : (P : Bool → Type 0) (b : Bool) → (b ≡ true → P true) → (b ≡ false → P false) → P b
by_cases P true p q = p refl
by_cases P false p q = q refl

-- at the number itself the change is made
pub at_self : {A : Type 0} (d c : ℕ) (f : A → A) (x : A) → nat_eq d c ≡ true → at d c f x ≡ f x
at_self d c f x eq = ap (λ b. if b then f x else x) eq

-- at another number nothing changes
pub at_other : {A : Type 0} (d c : ℕ) (f : A → A) (x : A) → nat_eq d c ≡ false → at d c f x ≡ x
at_other d c f x eq = ap (λ b. if b then f x else x) eq
