use Rattle.std.proofs.Common.{arith}
use Rattle.std.proofs.lemmas.Grind.{common_steps}
use Rattle.px_outside.proofs.ToldMore.{told_next}
use Rattle.px_outside.proofs.sink.write_all.Goals as goal

pub loop-done-preserved : goal.loop-done-preserved
loop-done-preserved g c =
    (grind (arith, common_steps, c.in_ok-done.ensures.within), told_next _ _ _ c.args.bytes.now c.loop-done.done c.in_ok-done.field-0 c.loop-done.invariant.1 c.in_ok-done.ensures.writes_taken, grind (arith, c.in_ok-done.ensures.faults_never_fall, c.loop-done.invariant.2))
