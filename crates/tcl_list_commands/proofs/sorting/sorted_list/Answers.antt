use Rattle.std.proofs.Common.{sym, subst, ap, ◌∙◌}
use Rattle.std.specs.Prelude.{codes}
use Rattle.px_bytes.proofs.Handed.{value_then}
use Rattle.px_bytes.specs.Gives.{Gives}
use Rattle.tcl_list_commands.proofs.ItemTexts.{same_order}
use Rattle.tcl_list_commands.specs.Reading.{elements_of}
use Rattle.tcl_list_commands.specs.Sorting.{ordered, sorted_list}
use Rattle.tcl_list_commands.proofs.sorting.sorted_list.Goals as goal

pub returns : goal.returns
returns c =
    let order = c.in-Some.order in
    let r = c.ordered_items.result in
    subst (λ o. Gives r (sorted_list o c.args.list.now)) (sym c.in-Some.is)
    (value_then (elements_of (codes "lsort") c.args.list.now) (ordered order) _ r c.in_ok-elements.ensures (subst (Gives r) (same_order order c.as_slice.result.now ∙ ap (ordered order) c.as_slice.ensures) c.ordered_items.ensures))
