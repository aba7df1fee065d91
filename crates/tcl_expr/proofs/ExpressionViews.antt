-- The expressions of values, one level at a time.
use Rattle.std.proofs.Common.{◌≡◌, List, [], ◌∷◌, length, false, refl, rules, Vec, Box}
use Rattle.std.specs.Prelude.{◌==◌}
use Rattle.std.specs.declared.alloc.Global.{Global}
use Rattle.tcl_expr.specs.Expression.{Expression, row, choice}
use Rattle.tcl_expr.specs.ExpressionReading.{row_of, choice_of}
use Rattle.tcl_expr.specs.ExpressionView.{expr_view, more_view, cases_view}
use Rattle.tcl_expr.specs.declared.expr.Expr as code
use Rattle.tcl_expr.specs.declared.expr.Expr.{Row, Choice, the_lemmas}
use Rattle.tcl_expr.specs.declared.expr.Joint.{Joint}

pub view-Row : (first : Box code.Expr Global) (rest : Vec (Joint × code.Expr) Global)
    → expr_view (Row first rest) ≡ row (expr_view first.value) (more_view rest.items)
view-Row first rest = search (rules, the_lemmas)

pub view-Choice : (cases : Vec (code.Expr × code.Expr) Global) (last : Box code.Expr Global)
    → expr_view (Choice cases last) ≡ choice (cases_view cases.items) (expr_view last.value)
view-Choice cases last = search (rules, the_lemmas)

pub some_row : (e : Expression) (rest : List (Joint × code.Expr)) → (length rest == 0) ≡ false
    → row e (more_view rest) ≡ row_of e (more_view rest)
some_row e [] h = cc
some_row e (r ∷ rs) h = refl

pub some_choice : (e : Expression) (cases : List (code.Expr × code.Expr)) → (length cases == 0) ≡ false
    → choice (cases_view cases) e ≡ choice_of (cases_view cases) e
some_choice e [] h = cc
some_choice e (c ∷ cs) h = refl
