use Rattle.std.proofs.Common.{◌≡◌, pos, neg_ℤ, true, arith, ◌∙◌}
use lib.Signed.{lt_z}
use Rattle.std.proofs.lemmas.Int.{ints}
use Rattle.tcl_expr.specs.Operators.{remainder}
use Rattle.tcl_expr.proofs.Exact.{turned}
use Rattle.tcl_expr.proofs.division.what_is_left.Goals as goal

pub returns-then-b-lt0 : goal.returns-then-b-lt0
returns-then-b-lt0 c =
    let below : lt_z c.args.b (pos 0) ≡ true = grind (arith, ints) in
    let left : neg_ℤ c.rem_euclid.result ≡ remainder c.args.a c.args.b =
    turned c.args.a c.args.b c.rem_euclid.result _ _ below (omega (arith, ints)) (omega (arith, ints)) c.rem_euclid.ensures.value in
    omega (arith, ints) ∙ left
