use Rattle.irule_net.proofs.Moves.{moves}
use Rattle.irule_net.proofs.laws.commands_keep_given.Goals as goal

pub returns : goal.returns
returns c = λ groups event s words. (moves groups event s words).given
