use Rattle.table_mirror.proofs.Orders.{stays_in_order}
use Rattle.table_mirror.proofs.laws.stays_in_order.Goals as goal

pub returns : goal.returns
returns c = stays_in_order
