-- The order of elements is a total one, and what a list put in order is.
use Rattle.std.proofs.Common.{ℕ, Bool, true, false, cond, subst, List}
use Rattle.std.specs.Cmp.{IsStrictWeakOrder, IsTotalOrder}
use Rattle.std.specs.Ordering.{ordering_reverse}
use Rattle.std.specs.declared.cmp.Ordering.{Ordering}
use Rattle.std.proofs.lemmas.Cmp.{int_cmp_total, nat_list_cmp_total, on_total, back_total}
use Rattle.std.proofs.lemmas.List.Sorted.{ranks_by}
use Rattle.tcl_list_commands.specs.Sorting.{compared, number, rising}
use Rattle.tcl_list_commands.specs.SortLaws.{is_before, SortHasTheSame, SortIsOrdered}
use Rattle.tcl_list_commands.specs.SortLaws.{SortKeepsEquals}
use Rattle.tcl_list_commands.specs.declared.order.Order.{Order}
use Rattle.tcl_list_commands.proofs.StableSort.{sorted_is_ordered, sorted_is_stable, sorted_same}

rising_total : (integer : Bool) → IsTotalOrder (rising integer)
rising_total true = on_total number int_cmp_total
rising_total false = nat_list_cmp_total

total_by : (turned : Bool) (R : List ℕ → List ℕ → Ordering) → IsTotalOrder R
    → IsTotalOrder (λ x y. cond turned (ordering_reverse (R x y)) (R x y))
total_by true R o = subst IsTotalOrder (λ i x y. o.antisymm y x i) (back_total o)
total_by false R o = o

weak_order : (order : Order) → IsStrictWeakOrder (is_before order)
weak_order order =
    ranks_by (total_by order.decreasing (rising order.integer) (rising_total order.integer)) (λ x. x)

pub sort_is_ordered : SortIsOrdered
sort_is_ordered order elements = sorted_is_ordered (compared order) (weak_order order) elements

pub sort_has_the_same : SortHasTheSame
sort_has_the_same order elements = sorted_same (compared order) elements

pub sort_keeps_equals : SortKeepsEquals
sort_keeps_equals order elements = sorted_is_stable (compared order) (weak_order order) elements
