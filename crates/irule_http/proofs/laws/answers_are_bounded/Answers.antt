use Rattle.std.proofs.Common.{arith}
use Rattle.irule_http.specs.State.{begun}
use Rattle.irule_http.proofs.Moves.{bounded}
use Rattle.irule_http.proofs.laws.answers_are_bounded.Goals as goal

pub returns : goal.returns
returns c = λ event h calls.
    let b = bounded event (begun h) calls (omega arith) in (omega (arith, b.client), b.server)
