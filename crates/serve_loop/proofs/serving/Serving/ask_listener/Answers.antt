use Rattle.std.proofs.Common.{◌≡◌, ℕ, ◌≤◌, arith}
use Rattle.px_outside.specs.declared.answers.ReadyAt.TheVariants as ready
use Rattle.serve_loop.specs.Asking.{AskedOnce}
use Rattle.serve_loop.proofs.Trying.{often_none, often_next, tried_stays, tried_over, tried_all}
use Rattle.serve_loop.proofs.Breaking.{broke_after}
use Rattle.serve_loop.proofs.Exits.{at_fault}
use Rattle.serve_loop.proofs.Walking.{often_goes, asked_goes}
use Rattle.serve_loop.proofs.serving.Serving.ask_listener.Goals as goal

pub loop-often-init : goal.loop-often-init
loop-often-init g c =
    (often_none (AskedOnce g.C.EventCore.face c.args.self.now.conns (ready.Listener c.args.slot)) c.args.self.now c.args.net.now, omega arith)

pub loop-often-preserved : goal.loop-often-preserved
loop-often-preserved g c = (
  often_next (λ (conns : ℕ). AskedOnce g.C.EventCore.face conns (ready.Listener c.args.slot)) c.loop-often.often c.loop-often.invariant.0
      (rw c.in-Again.is at c.in_ok-accept.ensures.part),
  omega (arith, c.loop-often.invariant.1, c.accept.ensures.faults_never_fall),
)

pub returns-in-Stays-clause-part : goal.returns-in-Stays-clause-part
returns-in-Stays-clause-part g c =
    let within : c.loop-often.often ≤ 16 = omega arith in
    tried_stays (λ (conns : ℕ). AskedOnce g.C.EventCore.face conns (ready.Listener c.args.slot)) c.loop-often.often 16 within c.loop-often.invariant.0
    (rw c.in-Stays.is at c.in_ok-accept.ensures.part)

pub returns-in-Over-clause-part : goal.returns-in-Over-clause-part
returns-in-Over-clause-part g c =
    let within : c.loop-often.often ≤ 16 = omega arith in
    tried_over (λ (conns : ℕ). AskedOnce g.C.EventCore.face conns (ready.Listener c.args.slot)) c.loop-often.often 16 within c.loop-often.invariant.0
    (rw c.in-Over.is at c.in_ok-accept.ensures.part)

pub returns-clause-part : goal.returns-clause-part
returns-clause-part g c =
    let within : c.loop-often.often ≤ 16 = omega arith in
    let all : c.loop-often.often ≡ 16 = omega arith in
    tried_all (λ (conns : ℕ). AskedOnce g.C.EventCore.face conns (ready.Listener c.args.slot)) c.loop-often.often 16 within all c.loop-often.invariant.0

pub returns-in_err-accept-clause-broke : goal.returns-in_err-accept-clause-broke
returns-in_err-accept-clause-broke g c =
    at_fault _ c.from_residual.result c.in_err-accept.field-0.0 c.from_residual.ensures.1
    (broke_after (often_goes g.C.EventCore.face c.args.self.now.conns (AskedOnce g.C.EventCore.face c.args.self.now.conns (ready.Listener c.args.slot))
    (asked_goes g.C.EventCore.face c.args.self.now.conns (ready.Listener c.args.slot)) c.loop-often.often) c.loop-often.invariant.0
    c.in_err-accept.ensures.broke)
