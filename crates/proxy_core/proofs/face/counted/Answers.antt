use Rattle.std.proofs.Common.{◌≤◌, ◌-◌, arith}
use Rattle.proxy_core.proofs.Stepping.{moved_by}
use Rattle.proxy_core.proofs.face.counted.Goals as goal

pub returns-in-Ok-clause-moved : goal.returns-in-Ok-clause-moved
returns-in-Ok-clause-moved g c = λ yes.
    (let few : c.step.new.steps - c.new-steps.result ≤ 2000 = omega (arith, c.step.ensures.bounded) in
    moved_by c.args.core.now c.step.new.self c.args.event c.args.notes.now.items c.step.new.notes.items (c.step.new.steps - c.new-steps.result) c.in-Ok.ensures.steps few)
