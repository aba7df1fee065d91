use Rattle.std.proofs.Common.{◌≡◌, ◌<◌, length, take, rules, arith}
use Rattle.std.proofs.lemmas.Bool.Decides.{nat_tests}
use Rattle.tcl_expr.proofs.Fronts.{front_test}
use Rattle.tcl_expr.proofs.truth.is_front.Goals as goal

pub returns-then-not-is_empty : goal.returns-then-not-is_empty
returns-then-not-is_empty c =
    let cut : c.in-Some.front.now ≡ take (length c.args.text.now) c.args.word.now = search rules in
    let some : 0 < length c.args.text.now = grind (arith, nat_tests) in
    front_test c.args.word.now c.args.text.now c.in-Some.front.now c.same_name.result c.same_name.ensures cut some
