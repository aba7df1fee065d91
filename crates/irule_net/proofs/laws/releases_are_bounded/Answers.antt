use Rattle.std.proofs.Common.{arith}
use Rattle.irule_net.specs.State.{begun}
use Rattle.irule_net.proofs.Holding.{let_go_bounded}
use Rattle.irule_net.proofs.laws.releases_are_bounded.Goals as goal

pub returns : goal.returns
returns c = λ groups event s calls fits. omega (arith, let_go_bounded groups event (begun s) calls fits)
