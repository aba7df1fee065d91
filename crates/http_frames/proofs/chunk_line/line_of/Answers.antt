use Rattle.std.proofs.Common.{sym, subst, take, arith}
use Rattle.std.specs.Str.Parse.{AllDigits}
use Rattle.std.proofs.lemmas.List.{length-take-le}
use Rattle.http_frames.proofs.HexDigits.{few_small, front_digits}
use Rattle.http_frames.proofs.chunk_line.line_of.Goals as goal

pub number_of-requires-clause-digits : goal.number_of-requires-clause-digits
number_of-requires-clause-digits c =
    subst (λ n. AllDigits 16 (take n c.args.bytes.now)) (sym c.digits_length-digits.ensures.value) (front_digits c.args.bytes.now)

pub number_of-requires-clause-small : goal.number_of-requires-clause-small
number_of-requires-clause-small c =
    few_small _ (number_of-requires-clause-digits c) (omega (arith, length-take-le c.digits_length-digits.result c.args.bytes.now c.digits_length-digits.ensures.within, c.if-digits-gt-MOST_DIGITS.false))
