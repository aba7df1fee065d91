-- The variables that a script sees: static ones, and a level for the body and for each procedure
-- call that hasn't ended (Tcl 8.4, proc(n): a procedure's variables are its own; array(n): an array
-- has elements; iRules: `static::` variables).
use Rattle.std.specs.Prelude.{ℕ, is_some, ◌+◌, List, [], ◌∷◌, length, Bool, Option, Some}
use Rattle.std.specs.Prelude.{None, codes, nat_eq, if◌then◌else◌, sum_by, unwrap_or}
use Rattle.std.specs.List.{starts_with}
use Rattle.std.specs.Str.{bytes_eq}
use Rattle.std.specs.Ordering.{nat_cmp}
use Rattle.std.specs.Cmp.Lexicographic.{slice_cmp}
use Rattle.std.specs.Map.{lookup, remove_entry, set_value}
use Rattle.std.specs.BTreeMap.{insert_entry}

-- a finite map from names: its entries, each name once, in the order of the names' bytes
abbrev pub Table : Type 0 → Type 0
Table X = List (List ℕ × X)

abbrev pub find_in : {X : Type 0} → List ℕ → Table X → Option X
find_in name table = lookup (bytes_eq name) table

abbrev pub put_in : {X : Type 0} → List ℕ → X → Table X → Table X
put_in name x table = insert_entry (slice_cmp nat_cmp) table name x

abbrev pub take_out : {X : Type 0} → List ℕ → Table X → Table X
take_out name table = remove_entry (bytes_eq name) table

-- the table with x as the value of a name that has one
abbrev pub replace_in : {X : Type 0} → List ℕ → X → Table X → Table X
replace_in name x table = set_value (bytes_eq name) table x

-- The variables of one level. A name may have a plain value and indexed values at once.
pub record Level : Type 0 where
  pub plain : Table (List ℕ)
  pub arrays : Table (Table (List ℕ))

abbrev pub no_level : Level
no_level = record { plain = []; arrays = [] }

abbrev pub elements : List ℕ → Level → Table (List ℕ)
elements name level = unwrap_or (find_in name level.arrays) []

abbrev pub value_in : Level → List ℕ → Option (List ℕ) → Option (List ℕ)
value_in level name None = find_in name level.plain
value_in level name (Some index) = find_in index (elements name level)

abbrev pub with_value_in : List ℕ → Option (List ℕ) → List ℕ → Level → Level
with_value_in name None text level = record level { plain = put_in name text level.plain }
with_value_in name (Some index) text level =
    record level { arrays = put_in name (put_in index text (elements name level)) level.arrays }

-- whether there is something to unset
abbrev pub is_set_in : Level → List ℕ → Option (List ℕ) → Bool
is_set_in level name None = is_some (find_in name level.plain)
is_set_in level name (Some index) = is_some (find_in index (elements name level))

-- the arrays with these elements of a name: an array with no element isn't there
abbrev pub with_elements : {X : Type 0} → List ℕ → Table X → Table (Table X) → Table (Table X)
with_elements name [] arrays = take_out name arrays
with_elements name (e ∷ es) arrays = replace_in name (e ∷ es) arrays

-- what `unset` leaves (unset(n)); in this profile a name with no index stands for its plain value
-- alone
abbrev pub without_value_in : List ℕ → Option (List ℕ) → Level → Level
without_value_in name None level = record level { plain = take_out name level.plain }
without_value_in name (Some index) level =
    record level { arrays = with_elements name (take_out index (elements name level)) level.arrays }

-- the bytes of names, indexes and texts
abbrev pub level_bytes : Level → ℕ
level_bytes level =
    sum_by (λ e. length e.0 + length e.1) level.plain
    + sum_by (λ a. sum_by (λ e. length a.0 + length e.0 + length e.1) a.1) level.arrays

-- all variables: the static ones, and the levels, the innermost first
pub record Scopes : Type 0 where
  pub statics : Level
  pub levels : List Level

abbrev pub no_scopes : Scopes
no_scopes = record { statics = no_level; levels = no_level ∷ [] }

abbrev pub innermost : List Level → Level
innermost [] = no_level
innermost (level ∷ levels) = level

abbrev pub with_innermost : Level → List Level → List Level
with_innermost level [] = level ∷ []
with_innermost level (old ∷ levels) = level ∷ levels

-- a name that begins with `static::` is one variable at every level
abbrev pub is_static : List ℕ → Bool
is_static name = starts_with nat_eq name (codes "static::")

abbrev pub value_at : Scopes → List ℕ → Option (List ℕ) → Option (List ℕ)
value_at vars name index = if is_static name then value_in vars.statics name index
    else value_in (innermost vars.levels) name index

abbrev pub with_value : List ℕ → Option (List ℕ) → List ℕ → Scopes → Scopes
with_value name index text vars =
    if is_static name then record vars { statics = with_value_in name index text vars.statics }
    else record vars {
      levels = with_innermost
          (with_value_in name index text (innermost vars.levels)) vars.levels;
    }

abbrev pub is_set : Scopes → List ℕ → Option (List ℕ) → Bool
is_set vars name index =
    if is_static name then is_set_in vars.statics name index
    else is_set_in (innermost vars.levels) name index

abbrev pub without_value : List ℕ → Option (List ℕ) → Scopes → Scopes
without_value name index vars =
    if is_static name then record vars { statics = without_value_in name index vars.statics }
    else record vars {
      levels = with_innermost
          (without_value_in name index (innermost vars.levels)) vars.levels;
    }

-- a procedure call has variables of its own, which go when it ends (proc(n))
abbrev pub in_proc : Scopes → Scopes
in_proc vars = record vars { levels = no_level ∷ vars.levels }

-- the levels without the innermost; one that has none outside stays
abbrev pub without_innermost : List Level → List Level
without_innermost [] = []
without_innermost (level ∷ []) = level ∷ []
without_innermost (level ∷ (caller ∷ outer)) = caller ∷ outer

abbrev pub out_of_proc : Scopes → Scopes
out_of_proc vars = record vars { levels = without_innermost vars.levels }

abbrev pub vars_bytes : Scopes → ℕ
vars_bytes vars = level_bytes vars.statics + sum_by level_bytes vars.levels

-- the most bytes that all variables may have together
abbrev pub vars_limit : ℕ
vars_limit = 1048576
