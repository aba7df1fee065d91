-- Variables that are set (Tcl 8.4, set(n), foreach(n); iRules: `static::` variables are set in
-- RULE_INIT alone).
use Rattle.std.specs.Prelude.{ℕ, List, [], ◌∷◌, Option, nat_lt, if◌then◌else◌}
use Rattle.px_bytes.specs.FaultText.{static_set, too_long}
use Rattle.tcl_vars.specs.Names.{Name, name_of}
use Rattle.tcl_vars.specs.Scopes.{Level, Scopes, vars_bytes, vars_limit, with_value}
use Rattle.tcl_var_commands.specs.Changed.{Changed, fails, gives, in_turn}
use Rattle.tcl_var_commands.specs.Reading.{is_only_read}

-- a value is given, where the variables then have no more bytes than they may
abbrev pub assigned_in_room : Name → List ℕ → Scopes → Changed
assigned_in_room name text vars =
    let after = with_value name.name name.index text vars in
    if nat_lt vars_limit (vars_bytes after) then fails too_long vars else gives text after

abbrev pub assigned : Option Level → Name → List ℕ → Scopes → Changed
assigned statics name text vars =
    if is_only_read statics name.name then fails static_set vars
    else assigned_in_room name text vars

-- the first text of a list, empty where there is none
abbrev pub first_text : List (List ℕ) → List ℕ
first_text [] = []
first_text (text ∷ texts) = text

abbrev pub behind_first : List (List ℕ) → List (List ℕ)
behind_first [] = []
behind_first (text ∷ texts) = texts

-- a name or an index, and the value that it is to have
abbrev pub Pair : Type 0
Pair = List ℕ × List ℕ

-- foreach(n): "if a value list does not contain enough elements for each of its loop variables",
-- "empty values are used for the missing elements"
abbrev pub in_row : List (List ℕ) → List (List ℕ) → List Pair
in_row [] values = []
in_row (name ∷ names) values = (name, first_text values) ∷ in_row names (behind_first values)

abbrev pub pair_assigned : Option Level → Pair → Scopes → Changed
pair_assigned statics pair vars = assigned statics (name_of pair.0) pair.1 vars

abbrev pub row_assigned : Option Level → List (List ℕ) → List (List ℕ) → Scopes → Changed
row_assigned statics names values vars = in_turn (pair_assigned statics) (in_row names values) vars
