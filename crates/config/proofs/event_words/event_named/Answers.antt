use Rattle.std.proofs.Common.{◌≡◌}
use Rattle.event_order.proofs.ByName.{event_by_text}
use Rattle.event_order.specs.Event.{event_text}
use Rattle.rule_loader.specs.Events.{event_named}
use Rattle.rule_loader.proofs.Names.{both_named}
use Rattle.config.proofs.event_words.event_named.Goals as goal

pub returns : goal.returns
returns c =
    both_named c.read_event.result (event_named c.args.name.now) (λ e. c.args.name.now ≡ event_text e) c.read_event.ensures (event_by_text c.args.name.now)
