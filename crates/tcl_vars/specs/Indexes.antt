-- The indexes under which a name has values (Tcl 8.4, array(n), `array names`): the names of its
-- table, which stand in the order of their bytes.
use Rattle.std.specs.Prelude.{ℕ, List, if◌then◌else◌}
use Rattle.std.specs.Map.{keys_of}
use Rattle.tcl_vars.specs.Scopes.{Level, Scopes, elements, innermost, is_static}

abbrev pub indexes_in : Level → List ℕ → List (List ℕ)
indexes_in level name = keys_of (elements name level)

abbrev pub indexes_at : Scopes → List ℕ → List (List ℕ)
indexes_at vars name =
    if is_static name then indexes_in vars.statics name else indexes_in (innermost vars.levels) name
