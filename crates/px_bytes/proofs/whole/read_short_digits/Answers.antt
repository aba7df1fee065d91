use Rattle.std.proofs.Common.{arith}
use Rattle.std.proofs.lemmas.Bool.Decides.{nat_tests}
use Rattle.px_bytes.proofs.ShortNumbers.{few_digits_fit}
use Rattle.px_bytes.proofs.whole.read_short_digits.Goals as goal

pub overflow_mul-value : goal.overflow_mul-value
overflow_mul-value c = omega (arith, few_digits_fit c.loop-byte.value c.loop-byte.byte-index (omega arith) c.loop-byte.invariant.below)

pub overflow_add-value : goal.overflow_add-value
overflow_add-value c =
    let fits = few_digits_fit c.loop-byte.value c.loop-byte.byte-index (omega arith) c.loop-byte.invariant.below in
    grind (arith, nat_tests, fits)
