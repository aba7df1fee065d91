use Rattle.std.proofs.Common.{arith, ℕ}
use Rattle.serve_loop.specs.Turn.{WorkAt}
use Rattle.serve_loop.proofs.Breaking.{broke_after}
use Rattle.serve_loop.proofs.Chains.{none_left}
use Rattle.serve_loop.proofs.Exits.{at_fault}
use Rattle.serve_loop.proofs.Trying.{each_all, each_none, each_one_of}
use Rattle.serve_loop.proofs.Walking.{all_goes}
use Rattle.serve_loop.proofs.serving.Serving.each.Goals as goal

pub loop-at-init : goal.loop-at-init
loop-at-init g c = (
  rw c.clear.ensures (each_none (WorkAt g.C.EventCore.face c.args.work c.args.self.now.conns) c.args.order.now c.args.self.now c.args.net.now),
  omega arith,
)

pub loop-at-preserved : goal.loop-at-preserved
loop-at-preserved g c = (
  each_one_of (λ (conns : ℕ). WorkAt g.C.EventCore.face c.args.work conns) c.args.order.now c.loop-at.at c.loop-at.stay c.each_at.new.stay
      c.loop-at.invariant.0 c.in_ok-each_at.ensures.one,
  omega (arith, c.loop-at.invariant.1, c.each_at.ensures.faults_never_fall),
)

pub returns-clause-part : goal.returns-clause-part
returns-clause-part g c =
    let past_end = rw c.len-at-end.ensures at c.loop-at-test.false in
    each_all (WorkAt g.C.EventCore.face c.args.work c.args.self.now.conns) c.args.order.now c.loop-at.at c.loop-at.stay
    (none_left c.args.order.now c.loop-at.at past_end) c.loop-at.invariant.0

pub returns-in_err-each_at-clause-broke : goal.returns-in_err-each_at-clause-broke
returns-in_err-each_at-clause-broke g c =
    at_fault _ c.from_residual.result c.in_err-each_at.field-0.0 c.from_residual.ensures.1
    (broke_after (λ a l b it. all_goes g.C.EventCore.face c.args.work c.args.self.now.conns it.0 c.loop-at.stay a l b it.2) c.loop-at.invariant.0
    c.in_err-each_at.ensures.broke)
