use Rattle.std.proofs.Common.{◌-ℤ◌, ap₂, rules, to_z, of_z}
use Rattle.std.specs.Int.{w128}
use mir.Val.{SFits}
use Rattle.tcl_expr.proofs.Exact.{exactly, widened}
use Rattle.tcl_expr.proofs.Values.{numbers_then, numbers_fault}
use Rattle.tcl_expr.proofs.arithmetic.difference.Goals as goal

pub returns-in_err-a : goal.returns-in_err-a
returns-in_err-a c = numbers_fault c.args.x.now c.args.y.now _ c.from_residual.result c.in_err-a.field-0.0 c.from_residual.ensures c.in_err-a.ensures

pub returns : goal.returns
returns c =
    let a = widened c.in_ok-a.a c.from.result (search rules) c.from.ensures c.from.type_inv in
    let b = widened c.in_ok-a.b c.from-2.result (search rules) c.from-2.ensures c.from-2.type_inv in
    let fits : SFits w128 (to_z w128 (of_z w128 c.from.result) -ℤ to_z w128 (of_z w128 c.from-2.result)) = search rules in
    numbers_then c.args.x.now c.args.y.now _ c.printed.result c.in_ok-a.a c.in_ok-a.b c.in_ok-a.ensures
    (exactly c.printed.result _ _ fits (ap₂ (λ m n. m -ℤ n) a b) c.printed.ensures)
