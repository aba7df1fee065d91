use Rattle.std.proofs.Common.{Err, refl, subst}
use Rattle.px_outside.specs.Net.{Wait}
use Rattle.serve_loop.proofs.Calling.{part_waits}
use Rattle.serve_loop.specs.Broken.{AtMostOne, IsWait}
use Rattle.serve_loop.specs.Faults.{fault_of}
use Rattle.serve_loop.proofs.Breaking.{broke_quiet}
use Rattle.serve_loop.proofs.Exits.{at_fault}
use Rattle.serve_loop.proofs.Fresh.{once_none}
use Rattle.serve_loop.proofs.serving.Serving.wait.Goals as goal

pub returns-clause-part : goal.returns-clause-part
returns-clause-part g c =
    part_waits c.args.until c.wait.new.out c.args.self.now c.args.net.now c.wait.new.self
    (subst (λ r. g.N.Net.did c.args.net.now (Wait c.args.until c.wait.new.out r) c.wait.new.self) c.in_ok-wait.was c.wait.ensures.did)
    c.wait.ensures.lasts.given

pub returns-in_err-wait-clause-broke : goal.returns-in_err-wait-clause-broke
returns-in_err-wait-clause-broke g c =
    let failed = c.in_err-wait.field-0.0 in
    at_fault _ c.from_residual.result (fault_of failed) c.from_residual.ensures.1
    (broke_quiet (AtMostOne (IsWait c.args.until)) _ c.args.self.now c.args.net.now c.wait.new.self (Wait c.args.until c.wait.new.out (Err failed))
    c.in_err-wait.ensures.did (once_none c.wait.ensures.lasts.given) refl refl refl)
