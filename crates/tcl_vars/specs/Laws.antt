-- What setting a variable and taking one away do to what is read: Tcl 8.4, set(n), unset(n),
-- proc(n).
use Rattle.std.specs.Prelude.{◌≡◌, ℕ, List, ◌∷◌, Option, Some, None, false, drop, if◌then◌else◌}
use Rattle.tcl_vars.specs.Scopes.{Level, Scopes, in_proc, innermost, is_static, out_of_proc}
use Rattle.tcl_vars.specs.Scopes.{value_at, with_value, without_value}
use Rattle.tcl_vars.specs.Tables.{IsInOrderAt}

-- another name, or another index
abbrev pub IsOther : List ℕ → Option (List ℕ) → List ℕ → Option (List ℕ) → Type 0
IsOther name index other at = (name ≡ other) × (index ≡ at) → ⊥

-- the level in which a name stands
abbrev pub level_of : Scopes → List ℕ → Level
level_of vars name = if is_static name then vars.statics else innermost vars.levels

-- what was set is what is read
abbrev pub SetIsRead : Type 0
SetIsRead = (vars : Scopes) (name : List ℕ) (index : Option (List ℕ)) (text : List ℕ)
    → value_at (with_value name index text vars) name index ≡ Some text

-- each other variable and element stays
abbrev pub SetKeepsOthers : Type 0
SetKeepsOthers = (vars : Scopes) (name : List ℕ) (index : Option (List ℕ)) (text : List ℕ)
    (other : List ℕ) (at : Option (List ℕ)) → IsOther name index other at
    → value_at (with_value name index text vars) other at ≡ value_at vars other at

-- what was taken away isn't there, where the tables are in order, as `get` says that they are
abbrev pub UnsetIsGone : Type 0
UnsetIsGone = (vars : Scopes) (name : List ℕ) (index : Option (List ℕ))
    → IsInOrderAt (level_of vars name) name index
    → value_at (without_value name index vars) name index ≡ None

-- each other variable and element stays
abbrev pub UnsetKeepsOthers : Type 0
UnsetKeepsOthers = (vars : Scopes) (name : List ℕ) (index : Option (List ℕ)) (other : List ℕ)
    (at : Option (List ℕ)) → IsInOrderAt (level_of vars name) name index
    → IsOther name index other at
    → value_at (without_value name index vars) other at ≡ value_at vars other at

-- the levels outside the innermost stay
abbrev pub OuterLevelsStay : Type 0
OuterLevelsStay = (vars : Scopes) (name : List ℕ) (index : Option (List ℕ)) (text : List ℕ)
    → (drop 1 (with_value name index text vars).levels ≡ drop 1 vars.levels)
    × (drop 1 (without_value name index vars).levels ≡ drop 1 vars.levels)

-- a procedure call begins with no variables but the static ones, and its end gives the caller's
-- back, who has a level
abbrev pub CallsHaveTheirOwn : Type 0
CallsHaveTheirOwn = (vars : Scopes) (name : List ℕ) (index : Option (List ℕ)) (level : Level)
    (outer : List Level) → vars.levels ≡ level ∷ outer → is_static name ≡ false
    → (value_at (in_proc vars) name index ≡ None) × (out_of_proc (in_proc vars) ≡ vars)
