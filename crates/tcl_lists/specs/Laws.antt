-- Laws of reading and writing.
use Rattle.std.specs.Prelude.{◌≡◌, ℕ, ◌+◌, false, List, [], ◌∷◌, ◌++◌, length, map, Result, Ok, Err}
use Rattle.std.specs.Prelude.{codes, slice_range, if◌then◌else◌}
use Rattle.std.specs.List.{AllPass}
use Rattle.px_bytes.specs.White.{is_space}
use Rattle.tcl_lists.specs.Element.{brace_len}
use Rattle.tcl_lists.specs.Escape.{replaced}
use Rattle.tcl_lists.specs.Read.{list_places, list_values}
use Rattle.tcl_lists.specs.declared.place.ElementPlace.{ElementPlace}
use Rattle.tcl_lists.specs.Write.{joined}
use Rattle.tcl_lists.specs.declared.fault.ListFault.{ListFault}
use Rattle.tcl_lists.specs.declared.fault.ListFault.TheVariants.{OpenBrace, OpenQuote, Extra}
use Rattle.tcl_lists.specs.declared.fault.ListFault.TheVariants.{Memory}

-- an element in braces is its bytes unchanged
abbrev pub BracesKeepBytes : Type 0
BracesKeepBytes = (bytes : List ℕ) → brace_len false 0 (bytes ++ codes "}") ≡ length bytes
    → list_values (123 ∷ bytes ++ codes "}") ≡ Ok (bytes ∷ [])

-- the fault so many bytes further on
abbrev pub fault_further : ℕ → ListFault → ListFault
fault_further count (OpenBrace at) = OpenBrace (at + count)
fault_further count (OpenQuote at) = OpenQuote (at + count)
fault_further count (Extra at) = Extra (at + count)
fault_further count Memory = Memory

abbrev pub further : {T : Type 0} → ℕ → Result T ListFault → Result T ListFault
further count (Ok x) = Ok x
further count (Err fault) = Err (fault_further count fault)

-- white space before a list only moves its faults
abbrev pub WhiteSpaceMoves : Type 0
WhiteSpaceMoves = (white text : List ℕ) → AllPass is_space white
    → list_values (white ++ text) ≡ further (length white) (list_values text)

-- what is written reads back
abbrev pub WrittenReadsBack : Type 0
WrittenReadsBack = (items : List (List ℕ)) → list_values (joined items) ≡ Ok items

-- two written lists with a blank between them read as one list of all elements
abbrev pub WrittenListsJoin : Type 0
WrittenListsJoin = (xs ys : List (List ℕ)) → list_values (joined xs ++ (32 ∷ joined ys)) ≡ Ok (xs ++ ys)

-- the value of the element at a place of the text
abbrev pub value_at : List ℕ → ElementPlace → List ℕ
value_at text place = let raw = slice_range text place.start place.end in
    if place.braced then raw else replaced raw

-- the values at places, or the same fault
abbrev pub values_at : List ℕ → Result (List ElementPlace) ListFault → Result (List (List ℕ)) ListFault
values_at text (Ok places) = Ok (map (value_at text) places)
values_at text (Err fault) = Err fault

-- the places are those of the values, and the faults are the same
abbrev pub PlacesHoldValues : Type 0
PlacesHoldValues = (text : List ℕ) → list_values text ≡ values_at text (list_places text)
