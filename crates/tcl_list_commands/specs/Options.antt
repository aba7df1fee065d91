-- The options of Tcl 8.4, lsort(n).
use Rattle.std.specs.Prelude.{ℕ, true, false, List, [], ◌∷◌, codes, Option, Some, None}
use Rattle.std.specs.Prelude.{if◌then◌else◌}
use Rattle.std.specs.Str.{bytes_eq}
use Rattle.tcl_list_commands.specs.declared.order.Order.{Order}

-- lsort(n): -ascii and -increasing are the default
abbrev pub plain : Order
plain = record { integer = false; decreasing = false; unique = false }

abbrev pub with_option : Order → List ℕ → Option Order
with_option order option =
    if bytes_eq option (codes "-ascii")
    then Some (record { integer = false; decreasing = order.decreasing; unique = order.unique })
    else (if bytes_eq option (codes "-integer")
    then Some (record { integer = true; decreasing = order.decreasing; unique = order.unique })
    else (if bytes_eq option (codes "-increasing")
    then Some (record { integer = order.integer; decreasing = false; unique = order.unique })
    else (if bytes_eq option (codes "-decreasing")
    then Some (record { integer = order.integer; decreasing = true; unique = order.unique })
    else (if bytes_eq option (codes "-unique")
    then Some (record { integer = order.integer; decreasing = order.decreasing; unique = true })
    else None))))

-- how options ask a list to be sorted; a later one wins over an earlier one
abbrev pub order_by : Option Order → List (List ℕ) → Option Order
order_by None options = None
order_by (Some order) [] = Some order
order_by (Some order) (option ∷ options) = order_by (with_option order option) options
