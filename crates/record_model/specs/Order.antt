-- The order in which the bodies of several rules run at an event (iRules, `when`: "priority": "the
-- lower the value, the earlier"); those of one priority as they stand.
use Rattle.std.specs.Prelude.{ℕ, List, [], ◌∷◌, Bool, nat_le, nat_lt, if◌then◌else◌}

-- before the first of no lower priority
abbrev pub put : {A : Type 0} → (A → ℕ) → A → List A → List A
put key x [] = x ∷ []
put key x (y ∷ ys) = if nat_le (key x) (key y) then x ∷ y ∷ ys else y ∷ put key x ys

abbrev pub by_priority : {A : Type 0} → (A → ℕ) → List A → List A
by_priority key [] = []
by_priority key (x ∷ xs) = put key x (by_priority key xs)

abbrev pub runs_before : {A : Type 0} → (A → ℕ) → A → A → Bool
runs_before key x y = nat_lt (key x) (key y)
