use Rattle.pools.proofs.Rounds.{fair}
use Rattle.pools.proofs.laws.each_round_is_fair.Goals as goal

pub returns : goal.returns
returns c = fair
