use Rattle.frame_machine.proofs.RunLaws.{ticks_bounded}
use Rattle.frame_machine.proofs.laws.ticks_are_bounded.Goals as goal

pub returns : goal.returns
returns g c = ticks_bounded
