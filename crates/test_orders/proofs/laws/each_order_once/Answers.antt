use Rattle.test_orders.proofs.EachOrder as orders
use Rattle.test_orders.proofs.laws.each_order_once.Goals as goal

pub returns : goal.returns
returns c = orders.each_order_once
