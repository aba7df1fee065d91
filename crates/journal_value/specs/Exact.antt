-- What it is to read something exactly.
use Rattle.std.specs.Prelude.{◌≡◌, Option, Some, IfSome}

-- it is found exactly where something that fits is written so
pub record Exact (A W : Type 0) (written : A → W) (Fits : A → Type 0) (given : W)
    (found : Option A) : Type 0 where
  pub is_written : IfSome found (λ x. written x ≡ given)
  pub is_only : (x : A) → Fits x → written x ≡ given → found ≡ Some x

-- each of its values fits
abbrev pub Anything : {A : Type 0} → A → Type 0
Anything x = Unit {0}
