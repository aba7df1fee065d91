-- Elements by their places: Tcl 8.4, lindex(n), lrange(n).
use Rattle.std.specs.Prelude.{ℕ, ◌+◌, ℤ, pos, negsuc, List, [], ◌∷◌, length, get_or, codes, slice_range}
use Rattle.std.specs.Prelude.{Result, Err}
use Rattle.px_bytes.specs.FaultText.{wrong_arity}
use Rattle.px_bytes.specs.Gives.{with_value}
use Rattle.px_bytes.specs.Position.{position_of}
use Rattle.px_bytes.specs.declared.fault.TclFault.{TclFault}
use Rattle.tcl_lists.specs.Write.{joined}
use Rattle.tcl_list_commands.specs.Reading.{elements_of}
use Rattle.px_bytes.specs.Limit.{limited}

-- lindex(n): where a place is negative or not below the number of elements, "an empty string is
-- returned"
abbrev pub element_at : List (List ℕ) → ℤ → List ℕ
element_at elements (pos at) = get_or elements at []
element_at elements (negsuc at) = []

-- the element of a list at a place; the list is tried before the place
abbrev pub picked : List ℕ → List ℕ → Result (List ℕ) TclFault
picked list place =
    with_value (elements_of (codes "lindex") list) (λ elements.
    with_value (position_of (length elements) place) (λ at.
    limited (element_at elements at)))

-- lindex(n), with one place
abbrev pub lindex_value : List (List ℕ) → Result (List ℕ) TclFault
lindex_value [] = Err (wrong_arity (codes "lindex"))
lindex_value (list ∷ []) = Err (wrong_arity (codes "lindex"))
lindex_value (list ∷ (place ∷ [])) = picked list place
lindex_value (list ∷ (place ∷ (word ∷ words))) = Err (wrong_arity (codes "lindex"))

-- how many elements stand before a place, in a list that is long enough; none where it is negative
abbrev pub from_place : ℤ → ℕ
from_place (pos at) = at
from_place (negsuc at) = 0

-- how many stand before it or at it
abbrev pub behind_place : ℤ → ℕ
behind_place (pos at) = at + 1
behind_place (negsuc at) = 0

-- lrange(n): the elements "first through last, inclusive"; a first one below 0 counts as 0, a last
-- one behind the end as the end, and there are none where the first is behind the last
abbrev pub part : List (List ℕ) → ℤ → ℤ → List (List ℕ)
part elements first last = slice_range elements (from_place first) (behind_place last)

-- the elements of a list from one place up to and with another; the list is tried first, and then
-- the places in order
abbrev pub picked_part : List ℕ → List ℕ → List ℕ → Result (List ℕ) TclFault
picked_part list first last =
    with_value (elements_of (codes "lrange") list) (λ elements.
    with_value (position_of (length elements) first) (λ from.
    with_value (position_of (length elements) last) (λ to.
    limited (joined (part elements from to)))))

-- lrange(n)
abbrev pub lrange_value : List (List ℕ) → Result (List ℕ) TclFault
lrange_value [] = Err (wrong_arity (codes "lrange"))
lrange_value (list ∷ []) = Err (wrong_arity (codes "lrange"))
lrange_value (list ∷ (first ∷ [])) = Err (wrong_arity (codes "lrange"))
lrange_value (list ∷ (first ∷ (last ∷ []))) = picked_part list first last
lrange_value (list ∷ (first ∷ (last ∷ (word ∷ words)))) = Err (wrong_arity (codes "lrange"))
