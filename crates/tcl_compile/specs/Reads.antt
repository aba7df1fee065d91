-- What was read, as the definitions see it.
use Rattle.std.specs.Prelude.{Result, Ok, Err}
use Rattle.tcl_expr.specs.Expression.{Expression}
use Rattle.tcl_expr.specs.ExpressionView.{expr_view}
use Rattle.tcl_expr.specs.declared.expr.Expr.{Expr}
use Rattle.tcl_expr.specs.declared.expr_fault.Misread.{Misread}

abbrev pub seen_expression : Result Expr Misread → Result Expression Misread
seen_expression (Ok e) = Ok (expr_view e)
seen_expression (Err f) = Err f
