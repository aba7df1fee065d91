use Rattle.irule_net.proofs.Holding.{holding}
use Rattle.irule_net.proofs.laws.held_bytes_fit.Goals as goal

pub returns : goal.returns
returns c = λ groups event s words. (holding groups event s words).fits
