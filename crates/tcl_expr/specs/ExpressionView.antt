-- The expression that a value of the code stands for.
use Rattle.std.specs.Prelude.{List, [], ◌∷◌, map}
use Rattle.tcl_words.specs.View.{parts_view}
use Rattle.tcl_expr.specs.Expression.{Expression, literal, joined, prefixed, row, choice}
use Rattle.tcl_expr.specs.Expression.{More, no_more, more, Cases, no_cases, case}
use Rattle.tcl_expr.specs.declared.expr.Expr as code
use Rattle.tcl_expr.specs.declared.expr.Expr.{fold-Expr}
use Rattle.tcl_expr.specs.declared.expr.Expr.TheOpen.{Expr-F}
use Rattle.tcl_expr.specs.declared.expr.Joint.{Joint}

abbrev pub more_of : List (Joint × Expression) → More
more_of [] = no_more
more_of (r ∷ rs) = more r.0 r.1 (more_of rs)

abbrev pub cases_of : List (Expression × Expression) → Cases
cases_of [] = no_cases
cases_of (c ∷ cs) = case c.0 c.1 (cases_of cs)

-- one level, with all that is inside already seen
abbrev pub expr_step : Expr-F Expression → Expression
expr_step (Expr-F.Literal text) = literal text
expr_step (Expr-F.Parts ps) = joined (parts_view ps.items)
expr_step (Expr-F.Prefixed ops e) = prefixed ops.items e.value
expr_step (Expr-F.Row first rest) = row first.value (more_of rest.items)
expr_step (Expr-F.Choice cs last) = choice (cases_of cs.items) last.value

abbrev pub expr_view : code.Expr → Expression
expr_view = fold-Expr Expression expr_step

abbrev pub more_view : List (Joint × code.Expr) → More
more_view rs = more_of (map (λ r. (r.0, expr_view r.1)) rs)

abbrev pub cases_view : List (code.Expr × code.Expr) → Cases
cases_view cs = cases_of (map (λ c. (expr_view c.0, expr_view c.1)) cs)
