-- Keys in a text that are replaced: Tcl 8.4, string(n), `string map`.
use Rattle.std.specs.Prelude.{ℕ, zero, suc, ◌%◌, List, [], ◌∷◌, ◌++◌, codes, length, take}
use Rattle.std.specs.Prelude.{◌==◌, Option, Some, None, Result, Ok, Err, if◌then◌else◌}
use Rattle.px_bytes.specs.FaultText.{syntax_error}
use Rattle.px_bytes.specs.declared.fault.TclFault.{TclFault}
use Rattle.tcl_lists.specs.Read.{list_values}
use Rattle.tcl_lists.specs.declared.fault.ListFault.{ListFault}
use Rattle.px_bytes.specs.Limit.{limited}
use Rattle.tcl_strings.specs.Search.{begins_with, more_of}

-- The first key with which the text begins, and its value: "the key appearing first in the list
-- will be checked first". An empty key stands nowhere.
abbrev pub first_pair : List (List ℕ) → List ℕ → Option (List ℕ × List ℕ)
first_pair [] text = None
first_pair (key ∷ []) text = None
first_pair (key ∷ value ∷ more) text =
    if begins_with key text then Some (key, value) else first_pair more text

-- what is written for the front of the text, and how many bytes behind the first that stands for:
-- a key's value, or the first byte itself
abbrev pub written_for : Option (List ℕ × List ℕ) → List ℕ → List ℕ
written_for (Some pair) text = pair.1
written_for None text = take 1 text

abbrev pub more_for : Option (List ℕ × List ℕ) → ℕ
more_for (Some pair) = more_of pair.0
more_for None = 0

abbrev pub written_at : List (List ℕ) → List ℕ → List ℕ
written_at pairs text = written_for (first_pair pairs text) text

abbrev pub more_at : List (List ℕ) → List ℕ → ℕ
more_at pairs text = more_for (first_pair pairs text)

-- the text behind its first `skip` bytes, "only iterated over once", with keys replaced
abbrev pub mapped : List (List ℕ) → ℕ → List ℕ → List ℕ
mapped pairs skip [] = []
mapped pairs (suc skip) (c ∷ cs) = mapped pairs skip cs
mapped pairs zero (c ∷ cs) =
    written_at pairs (c ∷ cs) ++ mapped pairs (more_at pairs (c ∷ cs)) cs

-- the pairs are a list that has a value for each key
abbrev pub map_by : Result (List (List ℕ)) ListFault → List ℕ → Result (List ℕ) TclFault
map_by (Ok words) text =
    if length words % 2 == 0 then limited (mapped words 0 text)
    else Err (syntax_error (codes "string"))
map_by (Err fault) text = Err (syntax_error (codes "string"))

abbrev pub map_value : List ℕ → List ℕ → Result (List ℕ) TclFault
map_value pairs text = map_by (list_values pairs) text
