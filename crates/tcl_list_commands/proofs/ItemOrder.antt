-- Items are compared by a total order.
use Rattle.std.proofs.Common.{Bool, true, false, cond, subst}
use Rattle.std.specs.Cmp.{IsStrictWeakOrder, IsTotalOrder}
use Rattle.std.specs.Ordering.{is_lt, ordering_reverse}
use Rattle.std.specs.declared.cmp.Ordering.{Ordering}
use Rattle.std.proofs.lemmas.Cmp.{int_cmp_total, nat_list_cmp_total, on_total, back_total}
use Rattle.std.proofs.lemmas.List.Sorted.{ranks_by}
use Rattle.tcl_list_commands.specs.Items.{item_compared, item_rising}
use Rattle.tcl_list_commands.specs.declared.order.Item.{Item}
use Rattle.tcl_list_commands.specs.declared.order.Order.{Order}

rising_total : (integer : Bool) → IsTotalOrder (item_rising integer)
rising_total true = on_total (λ i. i.number) int_cmp_total
rising_total false = on_total (λ i. i.text) nat_list_cmp_total

total_by : (turned : Bool) (R : Item → Item → Ordering) → IsTotalOrder R → IsTotalOrder (λ x y. cond turned (ordering_reverse (R x y)) (R x y))
total_by true R o = subst IsTotalOrder (λ i x y. o.antisymm y x i) (back_total o)
total_by false R o = o

abbrev pub below : Order → Item → Item → Bool
below order x y = is_lt (item_compared order x y)

pub weak_order : (order : Order) → IsStrictWeakOrder (below order)
weak_order order = ranks_by (total_by order.decreasing (item_rising order.integer) (rising_total order.integer)) (λ x. x)
