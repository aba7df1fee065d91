use Rattle.std.proofs.Common.{◌≡◌, ◌≤◌, arith}
use Rattle.serve_loop.proofs.Pairs.{pairs_none, pairs_next, ran_over, ran_all, ran_never}
use Rattle.serve_loop.proofs.Breaking.{broke_after}
use Rattle.serve_loop.proofs.Exits.{at_fault}
use Rattle.serve_loop.proofs.Walking.{pairs_goes}
use Rattle.serve_loop.proofs.serving.Serving.run_pairs.Goals as goal

pub loop-often-init : goal.loop-often-init
loop-often-init g c =
    (pairs_none c.args.writers.now c.args.self.now c.args.net.now, omega arith)

pub loop-often-preserved : goal.loop-often-preserved
loop-often-preserved g c = (
  pairs_next c.loop-often.often c.args.writers.now c.loop-often.writers c.run_once.new.writers c.loop-often.invariant.0
      (rw c.in-Again.is at c.in_ok-run_once.ensures.part),
  omega (arith, c.loop-often.invariant.1, c.run_once.ensures.faults_never_fall),
)

pub returns-in-Stays-clause-part : goal.returns-in-Stays-clause-part
returns-in-Stays-clause-part g c =
    ran_never 2048 c.args.writers.now c.loop-often.writers c.run_once.new.writers c.loop-often.often c.loop-often.invariant.0
    (rw c.in-Stays.is at c.in_ok-run_once.ensures.part)

pub returns-in-Over-clause-part : goal.returns-in-Over-clause-part
returns-in-Over-clause-part g c =
    let within : c.loop-often.often ≤ 2048 = omega arith in
    ran_over c.loop-often.often 2048 c.args.writers.now c.loop-often.writers c.run_once.new.writers within c.loop-often.invariant.0
    (rw c.in-Over.is at c.in_ok-run_once.ensures.part)

pub returns-clause-part : goal.returns-clause-part
returns-clause-part g c =
    let within : c.loop-often.often ≤ 2048 = omega arith in
    let all : c.loop-often.often ≡ 2048 = omega arith in
    ran_all c.loop-often.often 2048 c.args.writers.now c.loop-often.writers within all c.loop-often.invariant.0

pub returns-in_err-run_once-clause-broke : goal.returns-in_err-run_once-clause-broke
returns-in_err-run_once-clause-broke g c =
    at_fault _ c.from_residual.result c.in_err-run_once.field-0.0 c.from_residual.ensures.1
    (broke_after (pairs_goes g.C.EventCore.face c.args.self.now.conns c.loop-often.often c.args.writers.now c.loop-often.writers)
    c.loop-often.invariant.0 c.in_err-run_once.ensures.broke)
