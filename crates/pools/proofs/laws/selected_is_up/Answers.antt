use Rattle.pools.proofs.Marks.{selected_up}
use Rattle.pools.proofs.laws.selected_is_up.Goals as goal

pub returns : goal.returns
returns c = selected_up
