-- The fields of a text: `getfield` of iRules, which counts them from 1.
use Rattle.std.specs.Prelude.{ℕ, zero, suc, ℤ, pos, negsuc, List, [], ◌∷◌, codes}
use Rattle.std.specs.Prelude.{◌≡◌, get_or, Option, Some, None, Result, Ok, Err, if◌then◌else◌}
use Rattle.std.specs.Borrow.{Bor}
use Rattle.std.specs.List.{onto_first}
use Rattle.px_bytes.specs.FaultText.{wrong_arity}
use Rattle.px_bytes.specs.Gives.{with_value}
use Rattle.px_bytes.specs.WholeWord.{number_of}
use Rattle.px_bytes.specs.declared.fault.TclFault.{TclFault}
use Rattle.tcl_strings.specs.Search.{begins_with, more_of}

-- the fields behind the first `skip` bytes: the bytes up to the next separator, and the fields
-- behind it
abbrev pub fields_from : List ℕ → ℕ → List ℕ → List (List ℕ)
fields_from separator skip [] = [] ∷ []
fields_from separator (suc skip) (c ∷ cs) = fields_from separator skip cs
fields_from separator zero (c ∷ cs) =
    if begins_with separator (c ∷ cs) then [] ∷ fields_from separator (more_of separator) cs
    else onto_first c (fields_from separator 0 cs)

-- the fields of a text; by an empty separator it has one
abbrev pub fields : List ℕ → List ℕ → List (List ℕ)
fields separator text = fields_from separator 0 text

-- the first field, and the rest of the text, which has the others
abbrev pub IsCut : List ℕ → List ℕ → Option (Bor (List ℕ) × Bor (List ℕ)) → Type 0
IsCut separator text None = fields separator text ≡ text ∷ []
IsCut separator text (Some parts) =
    fields separator text ≡ parts.0.now ∷ fields separator parts.1.now

-- the field of a number from 1 on, and nothing where there is none
abbrev pub numbered_field : ℤ → List (List ℕ) → List ℕ
numbered_field (pos zero) all = []
numbered_field (pos (suc before)) all = get_or all before []
numbered_field (negsuc n) all = []

abbrev pub field_value : List ℕ → List ℕ → List ℕ → Result (List ℕ) TclFault
field_value text separator place =
    with_value (number_of place) (λ n. Ok (numbered_field n (fields separator text)))

abbrev pub getfield_value : List (List ℕ) → Result (List ℕ) TclFault
getfield_value [] = Err (wrong_arity (codes "getfield"))
getfield_value (text ∷ []) = Err (wrong_arity (codes "getfield"))
getfield_value (text ∷ separator ∷ []) = Err (wrong_arity (codes "getfield"))
getfield_value (text ∷ separator ∷ place ∷ []) = field_value text separator place
getfield_value (text ∷ separator ∷ place ∷ other ∷ more) = Err (wrong_arity (codes "getfield"))
