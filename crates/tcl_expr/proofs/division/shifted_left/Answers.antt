use Rattle.std.proofs.Common.{◌≡◌, ℕ, pos, ◌*ℤ◌, ◌^◌, ap, ap₂, sym, subst, rules, ◌∙◌}
use Rattle.std.specs.Prelude.{Ok, Err}
use Rattle.std.specs.Int.{w64, w128}
use Rattle.std.proofs.lemmas.Int.{to_z-of_z}
use mir.Val.{SFits}
use Rattle.px_bytes.specs.Gives.{Gives}
use Rattle.tcl_expr.specs.Operators.{count_of, printed}
use Rattle.tcl_expr.proofs.Exact.{exactly, widened, count_below, power, shift_fits}
use Rattle.px_bytes.proofs.Handed.{value_then, fault_then}
use Rattle.tcl_expr.proofs.Values.{numbers_then, numbers_fault}
use Rattle.tcl_expr.proofs.division.shifted_left.Goals as goal

pub returns-in_err-a : goal.returns-in_err-a
returns-in_err-a c = numbers_fault c.args.x.now c.args.y.now _ c.from_residual.result c.in_err-a.field-0.0 c.from_residual.ensures c.in_err-a.ensures

pub returns-in_err-count : goal.returns-in_err-count
returns-in_err-count c =
    let given = subst (λ b. Gives {A = ℕ} (Err c.in_err-count.field-0.0) (count_of b)) (to_z-of_z w64 c.in_ok-a.b (search rules)) c.in_err-count.ensures in
    numbers_then c.args.x.now c.args.y.now _ c.from_residual-in_err-count.result c.in_ok-a.a c.in_ok-a.b c.in_ok-a.ensures
    (fault_then (count_of c.in_ok-a.b) _ c.in_err-count.field-0.0 c.from_residual-in_err-count.result c.from_residual-in_err-count.ensures given)

pub overflow_mul-from : goal.overflow_mul-from
overflow_mul-from c =
    let count : count_of c.in_ok-a.b ≡ Ok c.in_ok-count.count = ap count_of (sym (to_z-of_z w64 c.in_ok-a.b (search rules))) ∙ c.in_ok-count.ensures in
    let small = count_below c.in_ok-a.b c.in_ok-count.count count in
    let a = widened c.in_ok-a.a c.from.result (search rules) c.from.ensures c.from.type_inv in
    let b = to_z-of_z w128 c.from-2.result (record { sfits = c.from-2.type_inv }) ∙ power c.from-2.result c.in_ok-count.count small c.from-2.ensures in
    subst (SFits w128) (sym (ap₂ (λ m n. m *ℤ n) a b)) (shift_fits c.in_ok-a.a c.in_ok-count.count (search rules) small)

pub returns : goal.returns
returns c =
    let count : count_of c.in_ok-a.b ≡ Ok c.in_ok-count.count = ap count_of (sym (to_z-of_z w64 c.in_ok-a.b (search rules))) ∙ c.in_ok-count.ensures in
    let small = count_below c.in_ok-a.b c.in_ok-count.count count in
    let a = widened c.in_ok-a.a c.from.result (search rules) c.from.ensures c.from.type_inv in
    let b = to_z-of_z w128 c.from-2.result (record { sfits = c.from-2.type_inv }) ∙ power c.from-2.result c.in_ok-count.count small c.from-2.ensures in
    let same = ap₂ (λ m n. m *ℤ n) a b in
    let fits = subst (SFits w128) (sym same) (shift_fits c.in_ok-a.a c.in_ok-count.count (search rules) small) in
    numbers_then c.args.x.now c.args.y.now _ c.printed.result c.in_ok-a.a c.in_ok-a.b c.in_ok-a.ensures
    (value_then (count_of c.in_ok-a.b) (λ n. printed (c.in_ok-a.a *ℤ pos (2 ^ n))) c.in_ok-count.count c.printed.result count (exactly c.printed.result _ _ fits same c.printed.ensures))
