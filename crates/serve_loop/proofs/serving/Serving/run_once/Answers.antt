use Rattle.std.proofs.Common.{true, refl}
use Rattle.serve_loop.specs.declared.polled.Polled.TheVariants as is
use Rattle.serve_loop.specs.Running.{PairOnce}
use Rattle.serve_loop.proofs.Compose.{part_at, part_nothing}
use Rattle.serve_loop.specs.declared.fault.ServeFault.TheVariants.{Memory as OutOfMemory}
use Rattle.serve_loop.specs.Broken.{AreAsks}
use Rattle.serve_loop.proofs.Breaking.{broke_nothing}
use Rattle.serve_loop.proofs.Exits.{at_fault}
use Rattle.serve_loop.proofs.serving.Serving.run_once.Goals as goal

pub returns-clause-part : goal.returns-clause-part
returns-clause-part g c =
    let it = c.in_ok-note_ready.ensures in
    let unsettled = rw c.if-settled.false at c.settled.ensures in
    part_at (λ steps r. record { unsettled = unsettled; ready = it.0; is_ready = it.1; noted_is = it.2; events = r }) c.in_ok-pair.ensures.part

pub returns-then-settled-clause-part : goal.returns-then-settled-clause-part
returns-then-settled-clause-part g c =
    let settled = rw c.if-settled.true at c.settled.ensures in
    part_nothing (PairOnce g.C.EventCore.face c.args.writers.now c.args.writers.now is.Over) c.args.self.now c.args.net.now
    (refl, record { none = refl; same = refl; because = settled })

pub returns-in_err-note_ready-clause-broke : goal.returns-in_err-note_ready-clause-broke
returns-in_err-note_ready-clause-broke g c =
    at_fault _ c.from_residual.result OutOfMemory c.from_residual.ensures.1 (broke_nothing AreAsks true c.args.self.now c.args.net.now tt)

pub returns-in_err-pair-clause-broke : goal.returns-in_err-pair-clause-broke
returns-in_err-pair-clause-broke g c =
    at_fault _ c.from_residual-in_err-pair.result c.in_err-pair.field-0.0 c.from_residual-in_err-pair.ensures.1 c.in_err-pair.ensures.broke
