use Rattle.std.proofs.Common.{◌≡◌, ◌≤◌, length, get_or, arith}
use Rattle.std.proofs.lemmas.Bool.Decides.{nat_tests}
use Rattle.px_bytes.proofs.ShortNumbers.{short_is_whole}
use Rattle.px_bytes.proofs.whole.read_short.Goals as goal

pub returns : goal.returns
returns c =
    let some : 1 ≤ length c.args.text.now = omega arith in
    let alone : get_or c.args.text.now 0 0 ≡ 48 → length c.args.text.now ≡ 1 = λ zero. grind (arith, nat_tests) in
    short_is_whole c.with_sign.result _ c.args.text.now some alone c.in_ok-read_short_digits.ensures c.with_sign.ensures
