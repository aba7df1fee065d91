use Rattle.std.proofs.Common.{◌≡◌, ℕ, pos, ◌^◌, ap, sym, subst, rules, ◌∙◌}
use Rattle.std.specs.Prelude.{Ok, Err}
use Rattle.std.specs.Int.{w64}
use Rattle.std.proofs.lemmas.Int.{to_z-of_z}
use Rattle.px_bytes.specs.Gives.{Gives}
use Rattle.tcl_expr.specs.Operators.{count_of, printed, quotient}
use Rattle.tcl_expr.proofs.Exact.{exactly, shifted_down}
use Rattle.px_bytes.proofs.Handed.{value_then, fault_then}
use Rattle.tcl_expr.proofs.Values.{numbers_then, numbers_fault}
use Rattle.tcl_expr.proofs.division.shifted_right.Goals as goal

pub returns-in_err-a : goal.returns-in_err-a
returns-in_err-a c = numbers_fault c.args.x.now c.args.y.now _ c.from_residual.result c.in_err-a.field-0.0 c.from_residual.ensures c.in_err-a.ensures

pub returns-in_err-count : goal.returns-in_err-count
returns-in_err-count c =
    let given = subst (λ b. Gives {A = ℕ} (Err c.in_err-count.field-0.0) (count_of b)) (to_z-of_z w64 c.in_ok-a.b (search rules)) c.in_err-count.ensures in
    numbers_then c.args.x.now c.args.y.now _ c.from_residual-in_err-count.result c.in_ok-a.a c.in_ok-a.b c.in_ok-a.ensures
    (fault_then (count_of c.in_ok-a.b) _ c.in_err-count.field-0.0 c.from_residual-in_err-count.result c.from_residual-in_err-count.ensures given)

pub returns : goal.returns
returns c =
    let count : count_of c.in_ok-a.b ≡ Ok c.in_ok-count.count = ap count_of (sym (to_z-of_z w64 c.in_ok-a.b (search rules))) ∙ c.in_ok-count.ensures in
    let same = shifted_down c.in_ok-a.a c.from.result (2 ^ c.in_ok-count.count) (search rules) c.from.ensures in
    numbers_then c.args.x.now c.args.y.now _ c.printed.result c.in_ok-a.a c.in_ok-a.b c.in_ok-a.ensures
    (value_then (count_of c.in_ok-a.b) (λ n. printed (quotient c.in_ok-a.a (pos (2 ^ n)))) c.in_ok-count.count c.printed.result count
    (exactly c.printed.result c.from.result _ (record { sfits = c.from.type_inv }) same c.printed.ensures))
