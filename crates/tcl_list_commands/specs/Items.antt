-- Elements with their numbers.
use Rattle.std.specs.Prelude.{ℕ, Bool, true, false, ◌&&◌, List, [], ◌∷◌, map, pos, Result, Ok}
use Rattle.std.specs.Prelude.{if◌then◌else◌}
use Rattle.std.specs.Cmp.Lexicographic.{slice_cmp}
use Rattle.std.specs.Ordering.{int_cmp, is_eq, nat_cmp, ordering_reverse}
use Rattle.std.specs.declared.cmp.Ordering.{Ordering}
use Rattle.px_bytes.specs.Gives.{with_value}
use Rattle.px_bytes.specs.WholeWord.{number_of}
use Rattle.px_bytes.specs.declared.fault.TclFault.{TclFault}
use Rattle.tcl_lists.specs.Write.{joined}
use Rattle.tcl_list_commands.specs.Sorted.{last_of_equal, sorted}
use Rattle.px_bytes.specs.Limit.{limited}
use Rattle.tcl_list_commands.specs.declared.order.Item.{Item}
use Rattle.tcl_list_commands.specs.declared.order.Order.{Order}

abbrev pub item_rising : Bool → Item → Item → Ordering
item_rising true x y = int_cmp x.number y.number
item_rising false x y = slice_cmp nat_cmp x.text y.text

-- how two items compare
abbrev pub item_compared : Order → Item → Item → Ordering
item_compared order x y =
    if order.decreasing then ordering_reverse (item_rising order.integer x y)
    else item_rising order.integer x y

-- an element as an item, with its number where numbers are compared; the fault where it is none
abbrev pub item_of : Bool → List ℕ → Result Item TclFault
item_of true element =
    with_value (number_of element) (λ n. Ok (record { number = n; text = element }))
item_of false element = Ok (record { number = pos 0; text = element })

-- all elements, or the fault of the first that has one
abbrev pub items_of : Bool → List (List ℕ) → Result (List Item) TclFault
items_of integer [] = Ok []
items_of integer (x ∷ xs) =
    with_value (item_of integer x) (λ item.
    with_value (items_of integer xs) (λ items. Ok (item ∷ items)))

-- the texts of sorted items, of equal ones the last one's alone where that is asked
abbrev pub kept_items : Order → List Item → List Item
kept_items order items =
    if order.unique then last_of_equal (item_compared order) items else items

abbrev pub texts_of : List Item → List (List ℕ)
texts_of items = map (λ item. item.text) items

-- the elements in order, by their numbers
abbrev pub ordered_items : Order → List (List ℕ) → Result (List ℕ) TclFault
ordered_items order elements =
    with_value (items_of order.integer elements)
    (λ items. limited (joined (texts_of (kept_items order (sorted (item_compared order) items)))))

-- whether a further item stands in place of this one
abbrev pub is_replaced : Order → Item → List Item → Bool
is_replaced order x [] = false
is_replaced order x (y ∷ ys) = order.unique && is_eq (item_compared order x y)
