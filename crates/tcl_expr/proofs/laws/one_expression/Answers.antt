use Rattle.tcl_expr.proofs.ReadingIsGrammar.{one_expression}
use Rattle.tcl_expr.proofs.laws.one_expression.Goals as goal

pub returns : goal.returns
returns c = one_expression
