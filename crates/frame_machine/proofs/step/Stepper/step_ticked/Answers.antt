use Rattle.std.proofs.Common.{◌≡◌, ◌-◌, arith}
use Rattle.frame_machine.proofs.TicksTold.{told_ticks}
use Rattle.frame_machine.proofs.step.Stepper.step_ticked.Goals as goal

pub returns-in-Ok-clause-went : goal.returns-in-Ok-clause-went
returns-in-Ok-clause-went g c =
    let few = c.step_counted.ensures.few in
    let n = told_ticks _ _ _ c.new-ticks.ensures few c.count.ensures in
    let s = c.tell_ticks.ensures.steps in
    let z = c.new-ticks.ensures in
    let e : c.tell_ticks.new.steps - c.args.steps.now ≡ c.step_counted.new.steps - c.new-ticks.result = omega (arith, n, s, z) in
    rw (c.tell_ticks.ensures.at, e) (rw c.in-Ok.is at c.step_counted.ensures.went)

pub returns-in-Ok-clause-some : goal.returns-in-Ok-clause-some
returns-in-Ok-clause-some g c =
    let few = c.step_counted.ensures.few in
    let some = rw c.in-Ok.is at c.step_counted.ensures.ticks in
    let n = told_ticks _ _ _ c.new-ticks.ensures few c.count.ensures in
    let t = c.tell_ticks.ensures.ticked in
    omega (arith, n, t, some)

pub returns-in-Ok-clause-few : goal.returns-in-Ok-clause-few
returns-in-Ok-clause-few g c =
    let few = c.step_counted.ensures.few in
    let n = told_ticks _ _ _ c.new-ticks.ensures few c.count.ensures in
    let t = c.tell_ticks.ensures.ticked in
    let z = c.new-ticks.ensures in
    omega (arith, n, t, few, z)

pub returns-clause-few : goal.returns-clause-few
returns-clause-few g c =
    let few = c.step_counted.ensures.few in
    let n = told_ticks _ _ _ c.new-ticks.ensures few c.count-in-Err.ensures in
    let t = c.tell_ticks-in-Err.ensures.ticked in
    let z = c.new-ticks.ensures in
    omega (arith, n, t, few, z)

pub returns-in-Ok-clause-grown : goal.returns-in-Ok-clause-grown
returns-in-Ok-clause-grown g c = rw c.tell_ticks.ensures.at (rw c.in-Ok.is at c.step_counted.ensures.grown)
