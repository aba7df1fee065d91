use Rattle.std.proofs.Common.{◌≡◌, ℕ, ◌≤◌, ◌+◌, length, arith}
use Rattle.serve_loop.specs.Writing.{WroteOnce}
use Rattle.serve_loop.proofs.Compose.{part_at}
use Rattle.serve_loop.proofs.Trying.{often_none, often_next, tried_stays, tried_over, tried_all}
use Rattle.serve_loop.proofs.Breaking.{broke_after}
use Rattle.serve_loop.proofs.Exits.{at_fault}
use Rattle.serve_loop.proofs.Walking.{often_goes, wrote_goes}
use Rattle.serve_loop.proofs.serving.Serving.write.Goals as goal

pub loop-often-init : goal.loop-often-init
loop-often-init g c =
    (often_none (WroteOnce g.C.EventCore.face c.args.self.now.conns c.args.conn c.args.side) c.args.self.now c.args.net.now, omega arith)

pub loop-often-preserved : goal.loop-often-preserved
loop-often-preserved g c = (
  often_next (λ (conns : ℕ). WroteOnce g.C.EventCore.face conns c.args.conn c.args.side) c.loop-often.often c.loop-often.invariant.0
      (rw c.in-Again.is at c.in_ok-write_once.ensures.part),
  omega (arith, c.loop-often.invariant.1, c.write_once.ensures.faults_never_fall),
)

pub returns-in-Stays-clause-part : goal.returns-in-Stays-clause-part
returns-in-Stays-clause-part g c =
    let times = length c.front-pending.result.now + 1 in
    let within : c.loop-often.often ≤ times = omega arith in
    part_at (λ steps r. record { pending = c.front-pending.result.now; queued = c.front-pending.ensures.queue; tried = r })
    (tried_stays (λ (conns : ℕ). WroteOnce g.C.EventCore.face conns c.args.conn c.args.side) c.loop-often.often times within c.loop-often.invariant.0
    (rw c.in-Stays.is at c.in_ok-write_once.ensures.part))

pub returns-in-Over-clause-part : goal.returns-in-Over-clause-part
returns-in-Over-clause-part g c =
    let times = length c.front-pending.result.now + 1 in
    let within : c.loop-often.often ≤ times = omega arith in
    part_at (λ steps r. record { pending = c.front-pending.result.now; queued = c.front-pending.ensures.queue; tried = r })
    (tried_over (λ (conns : ℕ). WroteOnce g.C.EventCore.face conns c.args.conn c.args.side) c.loop-often.often times within c.loop-often.invariant.0
    (rw c.in-Over.is at c.in_ok-write_once.ensures.part))

pub returns-clause-part : goal.returns-clause-part
returns-clause-part g c =
    let times = length c.front-pending.result.now + 1 in
    let within : c.loop-often.often ≤ times = omega arith in
    let all : c.loop-often.often ≡ times = omega arith in
    part_at (λ steps r. record { pending = c.front-pending.result.now; queued = c.front-pending.ensures.queue; tried = r })
    (tried_all (λ (conns : ℕ). WroteOnce g.C.EventCore.face conns c.args.conn c.args.side) c.loop-often.often times within all c.loop-often.invariant.0)

pub returns-in_err-write_once-clause-broke : goal.returns-in_err-write_once-clause-broke
returns-in_err-write_once-clause-broke g c =
    at_fault _ c.from_residual.result c.in_err-write_once.field-0.0 c.from_residual.ensures.1
    (broke_after (often_goes g.C.EventCore.face c.args.self.now.conns (WroteOnce g.C.EventCore.face c.args.self.now.conns c.args.conn c.args.side)
    (wrote_goes g.C.EventCore.face c.args.self.now.conns c.args.conn c.args.side) c.loop-often.often) c.loop-often.invariant.0
    c.in_err-write_once.ensures.broke)
