use Rattle.table_mirror.proofs.Orders.{begins_in_order}
use Rattle.table_mirror.proofs.laws.begins_in_order.Goals as goal

pub returns : goal.returns
returns c = begins_in_order
