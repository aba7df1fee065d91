-- The braced word of a `switch`, read as a list: patterns and bodies in turn, switch(n).
use Rattle.std.specs.Prelude.{ℕ, ◌-◌, ◌%◌, List, length, map, codes, Bool, ◌||◌, ◌==◌}
use Rattle.std.specs.Prelude.{Option, Some, None, Result, Ok, Err, if◌then◌else◌}
use Rattle.std.specs.Str.{bytes_eq}
use Rattle.tcl_lists.specs.Element.{ListElement, value_of, place_of}
use Rattle.tcl_lists.specs.Read.{elements}
use Rattle.tcl_lists.specs.declared.place.ElementPlace.{ElementPlace}
use Rattle.tcl_lists.specs.declared.fault.ListFault.{ListFault}
use Rattle.tcl_words.specs.Places.{stands}
use Rattle.tcl_words.specs.Tree.{Word}
use Rattle.tcl_trees.specs.Controls.{next_at}
use Rattle.tcl_trees.specs.Flaws.{place_in}
use Rattle.tcl_trees.specs.Making.{Made, Level, Cases, flawed, no_cases, in_turn}
use Rattle.tcl_trees.specs.Texts.{raw_of}
use Rattle.tcl_trees.specs.Tree.{Tree, plain}
use Rattle.tcl_trees.specs.declared.case_item.CaseItem.{CaseItem}
use Rattle.tcl_trees.specs.declared.flaw.Flaw.TheVariants.{Arity, BadBody}
use Rattle.tcl_trees.specs.declared.findings.Findings.{Findings}

-- an element's place is that of its brace or quote
abbrev pub opener_of : List ℕ → ℕ → ℕ
opener_of text start =
    if stands text (start - 1) 123 || stands text (start - 1) 34 then start - 1 else start

-- an element of the text at its place, with its value
abbrev pub item_from : List ℕ → ElementPlace → List ℕ → CaseItem
item_from text place value = record {
  text = value;
  start = place.start;
  opener = opener_of text place.start;
  braced = place.braced;
}

abbrev pub item_of : List ℕ → ListElement → CaseItem
item_of text e = item_from text (place_of e) (value_of e)

abbrev pub items_of : List ℕ → Result (List ListElement) ListFault → Option (List CaseItem)
items_of text (Ok es) = Some (map (item_of text) es)
items_of text (Err f) = None

-- the elements of a list; None where the text is none
abbrev pub items : List ℕ → Option (List CaseItem)
items text = items_of text (elements text)

-- an element that isn't in braces stands for the next body, which must come, or is no body
abbrev pub other_item : (place : ℕ) → Bool → CaseItem → Findings → Made Tree
other_item place last item =
    if bytes_eq item.text (codes "-") then next_at (place_in place item.opener) last
    else flawed (BadBody (place_in place item.opener))

-- one in braces is a body whatever stands in it
abbrev pub case_item : Level → (place : ℕ) → Bool → CaseItem → Findings → Made Tree
case_item level place last item s =
    if item.braced then level.inside (place_in place item.start) item.text s
    else other_item place last item s

-- a pattern stands for itself
abbrev pub pattern_item : CaseItem → Findings → Made Tree
pattern_item item s = (plain item.text, s)

abbrev pub listed : Level → (place : ℕ) → List CaseItem → Findings → Made Cases
listed level place = in_turn pattern_item (case_item level place)

-- the elements of a word without substitution
abbrev pub raw_items : Option (List ℕ) → Option (List CaseItem)
raw_items None = None
raw_items (Some raw) = items raw

abbrev pub word_items : Word → Option (List CaseItem)
word_items w = raw_items (raw_of w)

-- what a list's fault, and an odd number of elements, are: the places of the word and the command
abbrev pub listed_of : Level → (word command place : ℕ) → Option (List CaseItem) → Findings → Made Cases
listed_of level word command place None s = no_cases (BadBody word) s
listed_of level word command place (Some items) s =
    if length items % 2 == 0 then listed level place items s else no_cases (Arity command) s
