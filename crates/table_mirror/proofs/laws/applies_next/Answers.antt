use Rattle.table_mirror.proofs.Orders.{applies_next}
use Rattle.table_mirror.proofs.laws.applies_next.Goals as goal

pub returns : goal.returns
returns c = applies_next
