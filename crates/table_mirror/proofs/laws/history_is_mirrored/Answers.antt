use Rattle.table_mirror.proofs.Orders.{history_is_mirrored}
use Rattle.table_mirror.proofs.laws.history_is_mirrored.Goals as goal

pub returns : goal.returns
returns c = history_is_mirrored
