use Rattle.pools.proofs.Marks.{none_up}
use Rattle.pools.proofs.laws.none_where_none_is_up.Goals as goal

pub returns : goal.returns
returns c = none_up
