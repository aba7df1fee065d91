use Rattle.std.proofs.Common.{Ok, ap, sym}
use Rattle.tcl_expr.proofs.WholeOperators.{one, none}
use Rattle.tcl_expr.proofs.whole_operator.test.Goals as goal

pub returns-then-holds : goal.returns-then-holds
returns-then-holds c = rw c.if-holds.true (ap Ok (sym one))

pub returns-else-holds : goal.returns-else-holds
returns-else-holds c = rw c.if-holds.false (ap Ok (sym none))
