use Rattle.std.proofs.Common.{ap, ap₂, sym, subst, rules, ◌∙◌}
use Rattle.std.specs.Prelude.{Err}
use Rattle.std.specs.Int.{w64}
use Rattle.std.proofs.lemmas.Int.{to_z-of_z}
use Rattle.px_bytes.specs.declared.fault.Raise.TheVariants.{Fault}
use Rattle.px_bytes.specs.Gives.{Gives}
use Rattle.tcl_expr.specs.Operators.{remainder}
use Rattle.tcl_expr.proofs.Exact.{exactly, divisor_zero, divisor_other}
use Rattle.tcl_expr.proofs.Values.{numbers_then, numbers_fault}
use Rattle.tcl_expr.proofs.division.remainder.Goals as goal

pub returns-in_err-a : goal.returns-in_err-a
returns-in_err-a c = numbers_fault c.args.x.now c.args.y.now _ c.from_residual.result c.in_err-a.field-0.0 c.from_residual.ensures c.in_err-a.ensures

pub returns-then-b-eq0 : goal.returns-then-b-eq0
returns-then-b-eq0 c =
    numbers_then c.args.x.now c.args.y.now _ (Err (Fault c.in_ok-divide_by_zero.field-0)) c.in_ok-a.a c.in_ok-a.b c.in_ok-a.ensures
    (divisor_zero c.in_ok-a.b _ (search rules) c.if-b-eq0.true ∙ ap Err (sym c.in_ok-divide_by_zero.ensures))

pub returns : goal.returns
returns c =
    let same = c.what_is_left.ensures ∙ ap₂ remainder (to_z-of_z w64 c.in_ok-a.a (search rules)) (to_z-of_z w64 c.in_ok-a.b (search rules)) in
    let given = exactly c.printed.result c.what_is_left.result _ (record { sfits = c.what_is_left.type_inv }) same c.printed.ensures in
    numbers_then c.args.x.now c.args.y.now _ c.printed.result c.in_ok-a.a c.in_ok-a.b c.in_ok-a.ensures
    (subst (Gives c.printed.result) (sym (divisor_other c.in_ok-a.b _ c.if-b-eq0.false)) given)
