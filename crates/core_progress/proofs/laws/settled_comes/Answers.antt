use Rattle.core_progress.proofs.Working.{comes}
use Rattle.core_progress.proofs.laws.settled_comes.Goals as goal

pub returns : goal.returns
returns c = comes
