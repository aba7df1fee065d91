use Rattle.std.proofs.Common.{refl}
use Rattle.serve_loop.specs.Faults.{fault_of}
use Rattle.serve_loop.proofs.Exits.{at_fault}
use Rattle.serve_loop.proofs.begin.listen_at.Goals as goal

pub returns-in_err-listen-in-Some-clause-broke : goal.returns-in_err-listen-in-Some-clause-broke
returns-in_err-listen-in-Some-clause-broke g c =
    let failed = c.in_err-listen-in-Some.field-0.0 in
    at_fault _ c.from_residual.result (fault_of failed) c.from_residual.ensures.1
    (record { at = c.in-Some.at; listens = c.in-Some.ensures; failed = failed; is_why = refl; call = c.in_err-listen-in-Some.ensures.did })
