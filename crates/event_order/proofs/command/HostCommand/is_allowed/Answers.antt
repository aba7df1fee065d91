use Rattle.std.proofs.Common.{Contains, subst, List, ◌≡◌}
use Rattle.std.specs.Bool.{Decides}
use Rattle.std.proofs.lemmas.List.Elements.{contains_decides, Decides-contains}
use Rattle.event_order.specs.declared.event.EventName.{EventName}
use Rattle.event_order.specs.contracts.event.EventName.{the_type}
use denote.Enum.Bare.{sameb, same_true, true_same}
use Rattle.event_order.proofs.command.HostCommand.is_allowed.Goals as goal

same_event : (a b : EventName) → Decides (sameb the_type a b) (a ≡ b)
same_event a b = (same_true the_type tt a b, true_same the_type a b)

pub returns : goal.returns
returns c =
    let here : Decides c.contains.result (Contains c.events.result.now c.args.event) =
    Decides-contains _ _ _ (contains_decides (sameb the_type) same_event _ _ _ c.contains.ensures.cases) in
    let P : List EventName → Type 0 = λ events. Decides c.contains.result (Contains events c.args.event) in
    subst P c.events.ensures here
