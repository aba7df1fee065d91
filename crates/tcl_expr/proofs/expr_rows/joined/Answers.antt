use Rattle.std.proofs.Common.{◌≡◌, length, false, ap, ◌∙◌, rules}
use Rattle.std.specs.Prelude.{◌==◌}
use Rattle.tcl_expr.specs.Expression.{row}
use Rattle.tcl_expr.specs.ExpressionView.{expr_view, more_view}
use Rattle.tcl_expr.proofs.ExpressionViews.{view-Row, some_row}
use Rattle.tcl_expr.proofs.expr_rows.joined.Goals as goal

pub returns-clause-value : goal.returns-clause-value
returns-clause-value c =
    let rest = c.args.rest.items in
    let some : (length rest == 0) ≡ false = search rules in
    view-Row c.in_ok-new.field-0 c.args.rest
    ∙ ap (λ e. row (expr_view e) (more_view rest)) c.in_ok-new.ensures.ok
    ∙ some_row (expr_view c.args.first) rest some
