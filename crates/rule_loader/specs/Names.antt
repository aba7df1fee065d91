-- The names of procedures.
use Rattle.std.specs.Prelude.{◌≡◌, ℕ, Bool, List}
use Rattle.std.specs.List.{list_any}
use Rattle.std.specs.Str.{bytes_eq}
use Rattle.tcl_trees.specs.Procedures.{Procedure}

abbrev pub has_name : List ℕ → List (List ℕ) → Bool
has_name name names = list_any (bytes_eq name) names

-- whether a procedure has the name
abbrev pub is_procedure : List ℕ → List Procedure → Bool
is_procedure name procedures = list_any (λ p. bytes_eq name p.name) procedures

-- the names are those of the procedures
abbrev pub AreNamesOf : List Procedure → List (List ℕ) → Type 0
AreNamesOf procedures names =
    (name : List ℕ) → has_name name names ≡ is_procedure name procedures
