use Rattle.std.proofs.Common.{◌≡◌, length, false, ap, ◌∙◌, rules}
use Rattle.std.specs.Prelude.{◌==◌}
use Rattle.tcl_expr.specs.Expression.{choice}
use Rattle.tcl_expr.specs.ExpressionView.{expr_view, cases_view}
use Rattle.tcl_expr.proofs.ExpressionViews.{view-Choice, some_choice}
use Rattle.tcl_expr.proofs.expr_rows.chosen.Goals as goal

pub returns-clause-value : goal.returns-clause-value
returns-clause-value c =
    let cases = c.args.cases.items in
    let some : (length cases == 0) ≡ false = search rules in
    view-Choice c.args.cases c.in_ok-new.field-0
    ∙ ap (λ e. choice (cases_view cases) (expr_view e)) c.in_ok-new.ensures.ok
    ∙ some_choice (expr_view c.args.last) cases some
