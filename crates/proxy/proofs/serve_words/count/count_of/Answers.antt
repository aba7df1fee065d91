use Rattle.std.proofs.Common.{rules, arith, ◌≡◌, ◌<◌, ◌^◌, Some, sym, ◌∙◌}
use Rattle.std.specs.Fmt.{decimal}
use Rattle.std.proofs.lemmas.Fmt.{decimal_injective}
use Rattle.proxy.specs.ServeWords.{IsCount}
use Rattle.proxy.proofs.serve_words.count.count_of.Goals as goal

pub returns-in_default-read_decimal-clause-none : goal.returns-in_default-read_decimal-clause-none
returns-in_default-read_decimal-clause-none c n is =
    let some : IsCount (Some c.in-Some.text.now) c.args.most n = search (rules, is) in
    let text : c.in-Some.text.now ≡ decimal c.in-Some-read_decimal.count = search rules in
    let first : n < 2 ^ 64 = omega (arith, some.2, c.ranges.most.fits) in
    let second : c.in-Some-read_decimal.count < 2 ^ 64 = omega (arith, c.if-count-gt0.false) in
    let same : n ≡ c.in-Some-read_decimal.count = decimal_injective n c.in-Some-read_decimal.count first second (sym some.0 ∙ text) in
    absurd (omega (arith, same, some.1, c.if-count-gt0.false))
