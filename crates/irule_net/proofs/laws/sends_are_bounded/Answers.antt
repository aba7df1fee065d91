use Rattle.std.proofs.Common.{arith}
use Rattle.irule_net.specs.State.{begun}
use Rattle.irule_net.proofs.Moves.{bounded}
use Rattle.irule_net.proofs.laws.sends_are_bounded.Goals as goal

pub returns : goal.returns
returns c = λ groups event s calls. omega (arith, bounded groups event (begun s) calls (omega arith))
