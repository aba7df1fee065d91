-- Where a piece stands in a text: Tcl 8.4, string(n), `string first` and `string last`.
use Rattle.std.specs.Prelude.{ℕ, suc, Bool, false, List, [], ◌∷◌, codes, length, nat_eq}
use Rattle.std.specs.Prelude.{Option, Some, None, option_map, Result, Ok, if◌then◌else◌}
use Rattle.std.specs.List.{starts_with}
use Rattle.px_bytes.specs.declared.fault.TclFault.{TclFault}
use Rattle.tcl_strings.specs.Answer.{number_value}

-- whether the text begins with the piece; an empty one stands nowhere
abbrev pub begins_with : List ℕ → List ℕ → Bool
begins_with [] text = false
begins_with (p ∷ ps) text = starts_with nat_eq text (p ∷ ps)

-- how many bytes a piece has behind its first
abbrev pub more_of : List ℕ → ℕ
more_of [] = 0
more_of (p ∷ ps) = length ps

-- "the index of the first character in the first such match"
abbrev pub first_place : List ℕ → List ℕ → Option ℕ
first_place piece [] = None
first_place piece (c ∷ cs) =
    if begins_with piece (c ∷ cs) then Some 0 else option_map suc (first_place piece cs)

-- a later match, or else this one
abbrev pub later_or : Bool → Option ℕ → Option ℕ
later_or here (Some later) = Some (suc later)
later_or here None = if here then Some 0 else None

-- "the index of the first character in the last such match"
abbrev pub last_place : List ℕ → List ℕ → Option ℕ
last_place piece [] = None
last_place piece (c ∷ cs) = later_or (begins_with piece (c ∷ cs)) (last_place piece cs)

-- "If not found, return -1"
abbrev pub place_value : Option ℕ → Result (List ℕ) TclFault
place_value (Some place) = number_value place
place_value None = Ok (codes "-1")

abbrev pub first_value : List ℕ → List ℕ → Result (List ℕ) TclFault
first_value piece text = place_value (first_place piece text)

abbrev pub last_value : List ℕ → List ℕ → Result (List ℕ) TclFault
last_value piece text = place_value (last_place piece text)
