use Rattle.std.proofs.Common.{sym, ap, ◌∙◌}
use Rattle.std.specs.Prelude.{option_map}
use Rattle.tcl_compile.proofs.ListItems.{items_turn}
use Rattle.tcl_compile.proofs.case_list.items.Goals as goal

pub loop-at-preserved : goal.loop-at-preserved
loop-at-preserved c =
    items_turn c.args.text.now c.loop-at.at c.in-Some-Some.place.now c.in-Some-Some.value.now c.in-Ok.places c.in-Ok-split.values c.loop-at.items.items c.push.new.self.items c.in_ok-item.item
    c.in-Ok.ensures c.in-Ok-split.ensures.value (sym c.get.ensures ∙ ap (option_map (λ x. x.now)) c.in-Some-Some.is-0) (sym c.get-in-loop-at.ensures ∙ ap (option_map (λ x. x.now)) c.in-Some-Some.is-1)
    c.in_ok-item.ensures c.loop-at.invariant c.in_ok-push.ensures.items
