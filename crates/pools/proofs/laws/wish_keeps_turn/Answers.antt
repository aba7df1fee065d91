use Rattle.pools.proofs.Rounds.{keeps_turn}
use Rattle.pools.proofs.laws.wish_keeps_turn.Goals as goal

pub returns : goal.returns
returns c = keeps_turn
