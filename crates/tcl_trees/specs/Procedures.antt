-- Procedures, and the values that a call gives their parameters: Tcl 8.4, proc(n).
use Rattle.std.specs.Prelude.{ℕ, List, [], ◌∷◌, drop, map, codes, Bool, false, Option, Some, None}
use Rattle.std.specs.Prelude.{option_map, if◌then◌else◌}
use Rattle.std.specs.List.{find, position}
use Rattle.std.specs.Str.{bytes_eq}
use Rattle.tcl_lists.specs.Write.{joined}
use Rattle.tcl_trees.specs.Tree.{Tree}
use Rattle.tcl_trees.specs.TreeView.{node_view}
use Rattle.tcl_trees.specs.declared.procs.Parameter.{Parameter}
use Rattle.tcl_trees.specs.declared.procs.Proc.{Proc}

-- what a procedure is, apart from where it lies in memory
pub record Procedure : Type 0 where
  pub name : List ℕ
  -- each with its name and perhaps its default, both as bytes
  pub parameters : List Parameter
  pub body : Tree

abbrev pub procedure_view : Proc → Procedure
procedure_view p = record {
  name = p.name;
  parameters = p.parameters.items;
  body = node_view p.body;
}

abbrev pub procs_view : List Proc → List Procedure
procs_view ps = map procedure_view ps

-- the first one of that name
abbrev pub procedure_named : List ℕ → List Procedure → Option Procedure
procedure_named name ps = find (λ p. bytes_eq p.name name) ps

-- its place among them
abbrev pub place_named : List ℕ → List Procedure → Option ℕ
place_named name ps = position (λ p. bytes_eq p.name name) ps

-- "If the last formal argument has the name args, then a call may contain more actual arguments
-- than the procedure has formals."
abbrev pub takes_rest : Parameter → (behind : List Parameter) → Bool
takes_rest p [] = bytes_eq p.name (codes "args")
takes_rest p (q ∷ behind) = false

-- the next word, and where there is none the default, if there is one
abbrev pub next_value : Parameter → List (List ℕ) → Option (List ℕ)
next_value p [] = p.default
next_value p (w ∷ words) = Some w

abbrev pub with_value : Option (List ℕ) → Option (List (List ℕ)) → Option (List (List ℕ))
with_value None rest = None
with_value (Some v) rest = option_map (λ values. v ∷ values) rest

-- the value of each parameter in order, where the words behind the procedure's name are these; None
-- where their number is wrong
unfoldable pub values_bound : List Parameter → List (List ℕ) → Option (List (List ℕ))
values_bound [] [] = Some []
values_bound [] (w ∷ words) = None
values_bound (p ∷ ps) words =
    if takes_rest p ps then Some (joined words ∷ [])
    else with_value (next_value p words) (values_bound ps (drop 1 words))
