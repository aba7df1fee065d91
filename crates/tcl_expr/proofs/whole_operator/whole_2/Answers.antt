use Rattle.std.proofs.Common.{◌*ℤ◌, w64}
use Rattle.std.proofs.lemmas.Int.{to_z-of_z}
use Rattle.tcl_expr.proofs.WholeOperators.{of_numbers, printed_some}
use Rattle.tcl_expr.specs.Operators.{printed}
use Rattle.tcl_expr.proofs.whole_operator.whole_2.Goals as goal

pub returns-in-Mul : goal.returns-in-Mul
returns-in-Mul c = λ x y e g.
    let product = rw (to_z-of_z w64 c.args.a c.ranges.a, to_z-of_z w64 c.args.b c.ranges.b) at c.checked_mul.ensures in
    rw (c.in-Mul.is, of_numbers x y c.args.a c.args.b (λ a b. printed (a *ℤ b)) e g) (printed_some c.checked_mul.result _ product)
