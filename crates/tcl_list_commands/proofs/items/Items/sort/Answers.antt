use Rattle.std.proofs.Common.{ap, ◌∙◌, rules}
use Rattle.std.proofs.lemmas.Fn.{always_returns_same}
use Rattle.tcl_list_commands.specs.Items.{item_compared}
use Rattle.tcl_list_commands.specs.Sorted.{sorted}
use Rattle.tcl_list_commands.proofs.ItemOrder.{below, weak_order}
use Rattle.tcl_list_commands.proofs.StableSort.{stable_sorted}
use Rattle.tcl_list_commands.proofs.items.Items.sort.Goals as goal

pub returns : goal.returns
returns c =
    stable_sorted (item_compared c.args.order) (weak_order c.args.order) _ _
    (c.in_ok-sort_by.ensures.sorted (below c.args.order) (weak_order c.args.order) (always_returns_same _ _ _ (λ a r q k. search rules)))
    (c.sort_by.ensures.stable (below c.args.order) (weak_order c.args.order) (always_returns_same _ _ _ (λ a r q k. search rules)))
    ∙ ap (sorted (item_compared c.args.order)) c.self.view_is
