-- How operators bind, by expressions and what they are: Tcl 8.4, expr(n), "precedence".
use Rattle.std.specs.Prelude.{◌≡◌, ℕ, List, [], ◌∷◌, codes, Ok}
use Rattle.tcl_expr.specs.Expression.{Expression, literal, prefixed, row, choice, no_more, more}
use Rattle.tcl_expr.specs.Expression.{no_cases, case}
use Rattle.tcl_expr.specs.ExpressionReading.{expression}
use Rattle.tcl_expr.specs.declared.expr.Joint.{Joint}
use Rattle.tcl_expr.specs.declared.expr.Joint.TheVariants.{Both, And, Or}
use Rattle.tcl_expr.specs.declared.operator.Op1.TheVariants.{Neg, Not}
use Rattle.tcl_expr.specs.declared.operator.Op2.TheVariants.{Mul, Add, Sub, NumEq}

abbrev pub lit : List ℕ → Expression
lit = literal

-- two operands and what stands between them
abbrev pub two : Expression → Joint → Expression → Expression
two a joint b = row a (more joint b no_more)

pub record Precedence : Type 0 where
  -- a product binds tighter than a sum
  pub product_first : expression (codes "1+2*3")
      ≡ Ok (two (lit (codes "1")) (Both Add) (two (lit (codes "2")) (Both Mul) (lit (codes "3"))))
  -- and parentheses bind tighter still
  pub parentheses_first : expression (codes "(1+2)*3")
      ≡ Ok (two (two (lit (codes "1")) (Both Add) (lit (codes "2"))) (Both Mul) (lit (codes "3")))
  -- operators of one row stand side by side, and group from the left
  pub side_by_side : expression (codes "1-2-3") ≡ Ok (row (lit (codes "1"))
      (more (Both Sub) (lit (codes "2")) (more (Both Sub) (lit (codes "3")) no_more)))
  -- a sign binds tighter than a product
  pub sign_first : expression (codes "-1*2")
      ≡ Ok (two (prefixed (Neg ∷ []) (lit (codes "1"))) (Both Mul) (lit (codes "2")))
  -- `!` binds tighter than a comparison, and `not` looser
  pub bang_first : expression (codes "!1==2")
      ≡ Ok (two (prefixed (Not ∷ []) (lit (codes "1"))) (Both NumEq) (lit (codes "2")))
  pub not_last : expression (codes "not 1==2")
      ≡ Ok (prefixed (Not ∷ []) (two (lit (codes "1")) (Both NumEq) (lit (codes "2"))))
  -- `&&` binds looser than a comparison, and tighter than `||`
  pub comparison_first : expression (codes "1&&2==3")
      ≡ Ok (two (lit (codes "1")) And (two (lit (codes "2")) (Both NumEq) (lit (codes "3"))))
  pub and_first : expression (codes "1||2&&3")
      ≡ Ok (two (lit (codes "1")) Or (two (lit (codes "2")) And (lit (codes "3"))))
  -- conditions group from the right
  pub chain : expression (codes "1?2:3?4:5") ≡ Ok (choice
      (case (lit (codes "1")) (lit (codes "2")) (case (lit (codes "3")) (lit (codes "4")) no_cases))
      (lit (codes "5")))
