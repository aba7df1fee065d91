use Rattle.event_order.proofs.HaveEvents.{have_events}
use Rattle.event_order.proofs.laws.host_commands_have_events.Goals as goal

pub returns : goal.returns
returns c = have_events
