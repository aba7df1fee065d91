use Rattle.tcl_expr.proofs.Bindings.{rows_bind_in_order, prefixes_bind, rows_group_from_the_left}
use Rattle.tcl_expr.proofs.laws.rows_bind.Goals as goal

pub returns-clause-in_order : goal.returns-clause-in_order
returns-clause-in_order c = rows_bind_in_order

pub returns-clause-prefixes : goal.returns-clause-prefixes
returns-clause-prefixes c = prefixes_bind

pub returns-clause-from_the_left : goal.returns-clause-from_the_left
returns-clause-from_the_left c = rows_group_from_the_left
