use Rattle.std.proofs.Common.{◌≡◌, ◌↔◌, Some, subst, sym}
use Rattle.event_order.specs.Event.{event_text}
use Rattle.event_order.proofs.ByName.{event_by_text}
use Rattle.event_order.proofs.event.read_event.Goals as goal

pub returns : goal.returns
returns c =
    λ e. subst (λ r. (r ≡ Some e) ↔ (c.args.text.now ≡ event_text e)) (sym c.first_of_text.ensures) (event_by_text c.args.text.now e)
