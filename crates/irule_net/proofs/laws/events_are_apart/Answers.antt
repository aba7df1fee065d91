use Rattle.std.proofs.Common.{refl}
use Rattle.irule_net.proofs.laws.events_are_apart.Goals as goal

pub returns : goal.returns
returns c = λ groups event s w words. refl
