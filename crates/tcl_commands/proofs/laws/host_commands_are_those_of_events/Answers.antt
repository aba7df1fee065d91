use Rattle.event_order.proofs.HaveEvents.{have_events}
use Rattle.tcl_commands.proofs.laws.host_commands_are_those_of_events.Goals as goal

pub returns : goal.returns
returns c = have_events
