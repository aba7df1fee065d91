-- A list in a text: elements with white space before, between and behind them (Tcl 8.4, lindex(n)).
use Rattle.std.specs.Prelude.{◌≡◌, ⊤, ℕ, zero, suc, ◌+◌, List, [], ◌∷◌, map, Result, Ok, Err}
use Rattle.std.specs.Prelude.{if◌then◌else◌}
use Rattle.px_bytes.specs.White.{is_space}
use Rattle.tcl_lists.specs.Element.{ListElement, Found, element, value_of, place_of}
use Rattle.tcl_lists.specs.declared.fault.ListFault.{ListFault}
use Rattle.tcl_lists.specs.declared.fault.ListFault.TheVariants.{Memory}
use Rattle.tcl_lists.specs.declared.place.ElementPlace.{ElementPlace}

-- an element before others
abbrev pub with_first : ListElement → Result (List ListElement) ListFault → Result (List ListElement) ListFault
with_first first (Ok more) = Ok (first ∷ more)
with_first first (Err fault) = Err fault

-- an element, and those that are read behind it
abbrev pub found_first : Result Found ListFault → (ℕ → Result (List ListElement) ListFault)
    → Result (List ListElement) ListFault
found_first (Ok found) behind = with_first found.element (behind found.more)
found_first (Err fault) behind = Err fault

-- the elements behind the first `skip` bytes of what stands from a place on, or the first fault
abbrev pub elements_from : ℕ → ℕ → List ℕ → Result (List ListElement) ListFault
elements_from skip at [] = Ok []
elements_from (suc skip) at (b ∷ rest) = elements_from skip (at + 1) rest
elements_from zero at (b ∷ rest) =
    if is_space b then elements_from 0 (at + 1) rest
    else found_first (element at b rest) (λ more. elements_from more (at + 1) rest)

-- the elements of a text
abbrev pub elements : List ℕ → Result (List ListElement) ListFault
elements text = elements_from 0 0 text

-- the same of each element, or the fault
abbrev pub each : {T : Type 0} → (ListElement → T) → Result (List ListElement) ListFault
    → Result (List T) ListFault
each view (Ok es) = Ok (map view es)
each view (Err fault) = Err fault

-- the values of a list's elements, and their places, or the fault of the first bad one
abbrev pub list_values : List ℕ → Result (List (List ℕ)) ListFault
list_values text = each value_of (elements text)

abbrev pub list_places : List ℕ → Result (List ElementPlace) ListFault
list_places text = each place_of (elements text)

-- what is due was answered, unless memory was refused
abbrev pub Answers : {T : Type 0} → Result T ListFault → Result T ListFault → Type 0
Answers due (Ok x) = due ≡ Ok x
Answers due (Err Memory) = ⊤
Answers due (Err fault) = due ≡ Err fault
