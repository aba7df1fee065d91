use Rattle.std.proofs.Common.{◌≡◌, ◌≤◌, length, get_or, sym, ap, ◌∙◌, arith}
use Rattle.std.proofs.lemmas.Bool.Decides.{nat_tests}
use Rattle.std.specs.Char.{digit_value}
use Rattle.px_bytes.proofs.Wholes.{too_large_at_place, product_too_large, sum_too_large}
use Rattle.px_bytes.proofs.Wholes.{digits_at_end}
use Rattle.px_bytes.proofs.whole.read_digits.Goals as goal

pub returns-in_err-checked_mul : goal.returns-in_err-checked_mul
returns-in_err-checked_mul c =
    c.from_residual-in_err-checked_mul.ensures ∙ sym (too_large_at_place c.args.radix c.loop-byte.value c.loop-byte.byte-index c.args.text.now (omega arith) (omega arith)
    (product_too_large c.loop-byte.value c.from-in-loop-byte.result c.args.radix _ c.from-in-loop-byte.ensures c.in_err-checked_mul.ensures) c.loop-byte.invariant.same)

pub returns-in_err-value : goal.returns-in_err-value
returns-in_err-value c =
    let digit : c.from-in-loop-byte-2.result ≡ digit_value (get_or c.args.text.now c.loop-byte.byte-index 0) =
    c.from-in-loop-byte-2.ensures ∙ c.in_ok-digit.ensures.value.1 ∙ ap digit_value c.from.ensures in
    c.from_residual-in_err-value.ensures ∙ sym (too_large_at_place c.args.radix c.loop-byte.value c.loop-byte.byte-index c.args.text.now (omega arith) (omega arith)
    (sum_too_large c.loop-byte.value c.from-in-loop-byte.result c.args.radix c.in_ok-checked_mul.field-0 c.from-in-loop-byte-2.result _ c.from-in-loop-byte.ensures digit c.in_ok-checked_mul.ensures.1 c.in_err-value.ensures)
    c.loop-byte.invariant.same)

pub returns : goal.returns
returns c =
    let some : 1 ≤ length c.args.text.now = grind (arith, nat_tests) in
    digits_at_end c.args.radix c.loop-byte.value c.loop-byte.byte-index c.args.text.now some (omega arith) c.loop-byte.invariant.fits c.loop-byte.invariant.same
