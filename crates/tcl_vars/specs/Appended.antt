-- A value with more behind it (Tcl 8.4, append(n)): "If varName doesn't exist, it is given a value
-- equal to the concatenation of all the value arguments."
use Rattle.std.specs.Prelude.{ℕ, List, [], ◌++◌, Option, unwrap_or}
use Rattle.tcl_vars.specs.Scopes.{Level, Scopes, value_in, value_at}

abbrev pub appended_in : Level → List ℕ → Option (List ℕ) → List ℕ → List ℕ
appended_in level name index more = unwrap_or (value_in level name index) [] ++ more

abbrev pub appended : Scopes → List ℕ → Option (List ℕ) → List ℕ → List ℕ
appended vars name index more = unwrap_or (value_at vars name index) [] ++ more
