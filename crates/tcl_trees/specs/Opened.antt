-- Which parentheses and question marks of an expression are open before an operand. They stand
-- between operands; a `:` closes the question mark before it.
use Rattle.std.specs.Prelude.{ℕ, zero, suc, ◌+◌, ◌-◌, List, [], ◌∷◌, Bool, ◌||◌, nat_lt}
use Rattle.std.specs.Prelude.{if◌then◌else◌}
use Rattle.tcl_words.specs.Places.{stands}
use Rattle.tcl_words.specs.Tree.{Part, plain, variable, element, bracket}
use Rattle.tcl_words.specs.declared.script.Span.{Span}
use Rattle.tcl_trees.specs.declared.opened.Opened.{Opened}
use Rattle.tcl_trees.specs.declared.opened.Enclosure.{Enclosure}

-- one more, up to the greatest number of 64 bits
unfoldable pub one_more : ℕ → ℕ
one_more count = if nat_lt (count + 1) 18446744073709551615 then count + 1 else 18446744073709551615

-- how many are open behind the byte at the place
unfoldable pub turned : List ℕ → ℕ → ℕ → ℕ
turned text at count =
    if stands text at 40 || stands text at 63 then one_more count
    else (if stands text at 41 || stands text at 58 then count - 1 else count)

-- how many are open behind so many bytes from the place on
abbrev pub counted : List ℕ → (bytes at count : ℕ) → ℕ
counted text zero at count = count
counted text (suc bytes) at count = counted text bytes (at + 1) (turned text at count)

abbrev pub part_span : Part → Span
part_span (plain span text) = span
part_span (variable span name) = span
part_span (element span name index) = span
part_span (bracket span script) = span

abbrev pub first_start : ℕ → List Part → ℕ
first_start otherwise [] = otherwise
first_start otherwise (p ∷ ps) = (part_span p).start

abbrev pub last_end : ℕ → List Part → ℕ
last_end otherwise [] = otherwise
last_end otherwise (p ∷ ps) = last_end (part_span p).end ps

-- at the start of an expression
abbrev pub unopened : Opened
unopened = record { at = 0; count = 0 }

-- a quote stands before an operand's first byte
abbrev pub in_quotes : List ℕ → ℕ → Bool
in_quotes text start = stands text (start - 1) 34

abbrev pub scanned_to : List ℕ → List Part → (start count : ℕ) → Enclosure
scanned_to text parts start count = record {
  quoted = in_quotes text start;
  openers = if in_quotes text start then one_more count else count;
  behind = record { at = last_end start parts; count = count };
}

-- what stands around the parts of the next operand, and what is open behind it
unfoldable pub scanned : List ℕ → List Part → Opened → Enclosure
scanned text parts o =
    let start = first_start o.at parts in
    scanned_to text parts start (counted text (start - o.at) o.at o.count)
