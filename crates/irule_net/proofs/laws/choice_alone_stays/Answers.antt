use Rattle.irule_net.proofs.Choices.{choice_stays}
use Rattle.irule_net.proofs.laws.choice_alone_stays.Goals as goal

pub returns : goal.returns
returns c = λ groups event s name words few. choice_stays groups event s name words few
