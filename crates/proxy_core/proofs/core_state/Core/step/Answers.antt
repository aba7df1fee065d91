use Rattle.proxy_core.proofs.Stepping.{steps_of, refused_of}
use Rattle.proxy_core.proofs.core_state.Core.step.Goals as goal

pub returns-clause-steps : goal.returns-clause-steps
returns-clause-steps g c = steps_of c.args.self.now c.take.new.self c.args.event c.kind-kind.result c.kind-kind.ensures _ _ _ c.take.result c.take.ensures.accepted c.take.ensures.changes c.take.ensures.few_notes

pub returns-clause-scheduled : goal.returns-clause-scheduled
returns-clause-scheduled g c = refused_of c.args.self.now c.args.event c.kind-kind.result c.kind-kind.ensures c.take.result c.take.ensures.refused
