use Rattle.frame_machine.proofs.RunLaws.{equals_evaluator}
use Rattle.frame_machine.proofs.laws.machine_equals_evaluator.Goals as goal

pub returns : goal.returns
returns g c = equals_evaluator
