use Rattle.std.proofs.Common.{◌≡◌, ◌≤◌, ℕ, inl, refl, subst, arith}
use Rattle.serve_loop.specs.Server.{ListensAll}
use Rattle.serve_loop.proofs.Exits.{at_fault}
use Rattle.serve_loop.proofs.Turning.{listens_next}
use Rattle.serve_loop.proofs.begin.listen_all.Goals as goal

pub loop-slot-init : goal.loop-slot-init
loop-slot-init g c =
    (record { calls = _; listens = refl; chain = refl }, omega arith)

pub loop-slot-preserved : goal.loop-slot-preserved
loop-slot-preserved g c = (
  listens_next g.C.EventCore.face g.N.Net.did c.args.core.now c.loop-slot.slot c.args.net.now c.loop-slot.net c.listen_at.new.net
      c.loop-slot.invariant.0 c.in_ok-listen_at.ensures.listens,
  omega (arith, c.loop-slot.invariant.1, c.listen_at.ensures.faults_never_fall),
)

pub returns-clause-listens : goal.returns-clause-listens
returns-clause-listens g c =
    let all : c.loop-slot.slot ≡ c.slots-slot-end.result = omega arith in (
      c.slots-slot-end.result,
      c.slots-slot-end.ensures,
      subst (λ (n : ℕ). ListensAll g.C.EventCore.face g.N.Net.did c.args.core.now n c.args.net.now c.loop-slot.net) all c.loop-slot.invariant.0,
    )

pub returns-in_err-listen_at-clause-broke : goal.returns-in_err-listen_at-clause-broke
returns-in_err-listen_at-clause-broke g c =
    let within : c.loop-slot.slot ≤ c.slots-slot-end.result = omega arith in
    at_fault _ c.from_residual.result c.in_err-listen_at.field-0.0 c.from_residual.ensures.1 (record {
      count = c.slots-slot-end.result;
      slots = c.slots-slot-end.ensures;
      made = c.loop-slot.slot;
      within = within;
      calls = c.loop-slot.invariant.0.calls;
      listens = c.loop-slot.invariant.0.listens;
      mid = c.loop-slot.net;
      chain = c.loop-slot.invariant.0.chain;
      ends = inl c.in_err-listen_at.ensures.broke;
    })
