-- What stays as it is but at one number.
use Rattle.std.specs.Prelude.{ℕ, nat_eq, if◌then◌else◌}

-- x, changed by f where d is the number c
abbrev pub at : {A : Type 0} → ℕ → ℕ → (A → A) → A → A
at d c f x = if nat_eq d c then f x else x
