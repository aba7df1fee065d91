-- The code's elements as the definitions' elements.
use Rattle.std.specs.Prelude.{◌≡◌, ℕ, ◌+◌, ◌<◌, ◌≤◌, false, List, [], ◌++◌, length, slice_index}
use Rattle.std.specs.Prelude.{Result, Ok, Err, Option, Some, None}
use Rattle.px_bytes.specs.White.{is_space}
use Rattle.tcl_lists.specs.Element.{ListElement, Found}
use Rattle.tcl_lists.specs.Read.{elements_from, with_first}
use Rattle.tcl_lists.specs.declared.element.Element.{Element}
use Rattle.tcl_lists.specs.declared.element.Found.{Found as FoundElement}
use Rattle.tcl_lists.specs.declared.fault.ListFault.{ListFault}
use Rattle.tcl_lists.specs.declared.rest.Next.{Next}
use Rattle.tcl_lists.specs.declared.rest.Rest.{Rest}

abbrev pub seen : Element → ListElement
seen e = record { raw = e.raw.now; start = e.start; braced = e.braced }

abbrev pub seen_found : FoundElement → Found
seen_found f = record { element = seen f.element; more = f.more }

-- an element takes less than the text from its place on, and ends in it
pub record IsWithin (at size : ℕ) (f : FoundElement) : Type 0 where
  pub more : f.more < size
  pub end : f.element.start + length f.element.raw.now ≤ at + size

-- what is due was found in the text of that size from the place on
abbrev pub Gives : Result Found ListFault → ℕ → ℕ → Result FoundElement ListFault → Type 0
Gives due at size (Ok f) = (due ≡ Ok (seen_found f)) × IsWithin at size f
Gives due at size (Err e) = due ≡ Err e

-- an element was read at the front, and the rest is less of the text, up to the same end
pub record Reads (text : List ℕ) (at : ℕ) (next : Next) : Type 0 where
  pub first : elements_from 0 at text
      ≡ with_first (seen next.element) (elements_from 0 next.rest.at next.rest.text.now)
  pub size : next.rest.at + length next.rest.text.now ≡ at + length text
  pub shorter : length next.rest.text.now < length text
  pub end : next.element.start + length next.element.raw.now ≤ at + length text

-- what stands from a place on is the next element and the rest, or nothing, or the fault
abbrev pub IsNext : List ℕ → ℕ → Result (Option Next) ListFault → Type 0
IsNext text at (Ok (Some next)) = Reads text at next
IsNext text at (Ok None) = elements_from 0 at text ≡ Ok []
IsNext text at (Err fault) = elements_from 0 at text ≡ Err fault

-- the white space at the front doesn't stand before the rest
pub record IsWithoutWhite (whole rest : Rest) : Type 0 where
  pub same : elements_from 0 rest.at rest.text.now ≡ elements_from 0 whole.at whole.text.now
  pub size : rest.at + length rest.text.now ≡ whole.at + length whole.text.now
  pub within : length rest.text.now ≤ length whole.text.now
  pub begins : (0 < length rest.text.now) → is_space (slice_index rest.text.now 0) ≡ false

-- items behind others
abbrev pub behind : {T : Type 0} → List T → Result (List T) ListFault → Result (List T) ListFault
behind done (Ok more) = Ok (done ++ more)
behind done (Err fault) = Err fault
