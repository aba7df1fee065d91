use Rattle.tcl_expr.proofs.Exact.{exactly}
use Rattle.tcl_expr.proofs.Values.{numbers_then, numbers_fault}
use Rattle.tcl_expr.proofs.arithmetic.bit_and.Goals as goal

pub returns-in_err-a : goal.returns-in_err-a
returns-in_err-a c = numbers_fault c.args.x.now c.args.y.now _ c.from_residual.result c.in_err-a.field-0.0 c.from_residual.ensures c.in_err-a.ensures

pub returns : goal.returns
returns c =
    numbers_then c.args.x.now c.args.y.now _ c.printed.result c.in_ok-a.a c.in_ok-a.b c.in_ok-a.ensures
    (exactly c.printed.result c.from.result _ (record { sfits = c.from.type_inv }) c.from.ensures c.printed.ensures)
