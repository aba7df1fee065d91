-- Lists put in order: Tcl 8.4, lsort(n).
use Rattle.std.specs.Prelude.{ℕ, Bool, true, false, List, [], ◌∷◌, length, take, get_or, codes, ℤ, pos}
use Rattle.std.specs.Prelude.{Option, Some, None, unwrap_or, Result, Ok, Err, if◌then◌else◌}
use Rattle.std.specs.Cmp.Lexicographic.{slice_cmp}
use Rattle.std.specs.Ordering.{int_cmp, nat_cmp, ordering_reverse}
use Rattle.std.specs.declared.cmp.Ordering.{Ordering}
use Rattle.px_bytes.specs.FaultText.{syntax_error, wrong_arity}
use Rattle.px_bytes.specs.Gives.{with_value}
use Rattle.px_bytes.specs.Whole.{whole}
use Rattle.px_bytes.specs.WholeWord.{number_of}
use Rattle.px_bytes.specs.declared.fault.TclFault.{TclFault}
use Rattle.tcl_lists.specs.Write.{joined}
use Rattle.tcl_list_commands.specs.Options.{order_by, plain}
use Rattle.tcl_list_commands.specs.Reading.{elements_of}
use Rattle.tcl_list_commands.specs.Sorted.{last_of_equal, sorted}
use Rattle.px_bytes.specs.Limit.{limited}
use Rattle.tcl_list_commands.specs.declared.order.Order.{Order}

-- the number that an element is; 0 where it is none, which isn't asked
abbrev pub number : List ℕ → ℤ
number element = unwrap_or (whole element) (pos 0)

-- lsort(n): -integer, "use integer comparison"; -ascii, "string comparison", which is by bytes here
abbrev pub rising : Bool → List ℕ → List ℕ → Ordering
rising true x y = int_cmp (number x) (number y)
rising false x y = slice_cmp nat_cmp x y

-- lsort(n): -decreasing, "in decreasing order"
abbrev pub compared : Order → List ℕ → List ℕ → Ordering
compared order x y =
    if order.decreasing then ordering_reverse (rising order.integer x y)
    else rising order.integer x y

-- lsort(n): -unique, "only the last set of duplicate elements found in the list will be retained"
abbrev pub in_order : Order → List (List ℕ) → List (List ℕ)
in_order order elements = let all = sorted (compared order) elements in
    if order.unique then last_of_equal (compared order) all else all

-- elements that are whole numbers; else the fault of the first that isn't one
abbrev pub whole_elements : List (List ℕ) → Result (List (List ℕ)) TclFault
whole_elements [] = Ok []
whole_elements (x ∷ xs) =
    with_value (number_of x) (λ n. with_value (whole_elements xs) (λ more. Ok (x ∷ more)))

abbrev pub comparable : Bool → List (List ℕ) → Result (List (List ℕ)) TclFault
comparable true elements = whole_elements elements
comparable false elements = Ok elements

abbrev pub ordered : Order → List (List ℕ) → Result (List ℕ) TclFault
ordered order elements =
    with_value (comparable order.integer elements) (λ known. limited (joined (in_order order known)))

-- the elements of a list in order; an option that is none is a syntax error, before the list is
-- tried
abbrev pub sorted_list : Option Order → List ℕ → Result (List ℕ) TclFault
sorted_list None list = Err (syntax_error (codes "lsort"))
sorted_list (Some order) list =
    with_value (elements_of (codes "lsort") list) (ordered order)

-- lsort(n): all words but the last one are options
abbrev pub lsort_value : List (List ℕ) → Result (List ℕ) TclFault
lsort_value [] = Err (wrong_arity (codes "lsort"))
lsort_value (word ∷ words) =
    sorted_list (order_by (Some plain) (take (length words) (word ∷ words)))
    (get_or (word ∷ words) (length words) [])
