-- What holds of lists in order: Tcl 8.4, lsort(n).
use Rattle.std.specs.Prelude.{ℕ, Bool, List}
use Rattle.std.specs.List.Sorted.{IsPermutation, IsSortedBy, IsStableBy}
use Rattle.std.specs.Ordering.{is_lt}
use Rattle.tcl_list_commands.specs.Sorted.{sorted}
use Rattle.tcl_list_commands.specs.Sorting.{compared}
use Rattle.tcl_list_commands.specs.declared.order.Order.{Order}

-- the first element is to stand before the second
abbrev pub is_before : Order → List ℕ → List ℕ → Bool
is_before order x y = is_lt (compared order x y)

-- no element is to stand before the one in front of it
abbrev pub SortIsOrdered : Type 0
SortIsOrdered = (order : Order) (elements : List (List ℕ))
    → IsSortedBy (is_before order) (sorted (compared order) elements)

-- the elements are those that were there
abbrev pub SortHasTheSame : Type 0
SortHasTheSame = (order : Order) (elements : List (List ℕ))
    → IsPermutation elements (sorted (compared order) elements)

-- elements that are equal in this order keep theirs
abbrev pub SortKeepsEquals : Type 0
SortKeepsEquals = (order : Order) (elements : List (List ℕ))
    → IsStableBy (is_before order) elements (sorted (compared order) elements)
