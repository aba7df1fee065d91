-- Which texts are decimals.
use Rattle.std.proofs.Common.{◌≡◌, ◌≢◌, ℕ, zero, suc, ◌^◌, ◌<◌, inl, inr, List, length, get_or}
use Rattle.std.proofs.Common.{Result, Ok, Err, IfSome, IfNone, sym, ap, ◌∙◌, arith}
use Rattle.std.specs.Fmt.{decimal}
use Rattle.std.specs.Result.{result_ok}
use Rattle.std.specs.Str.{IsUtf8}
use Rattle.std.specs.Str.Parse.{AllDigits, digits_value, ParsesUnsigned}
use Rattle.std.proofs.lemmas.Fmt.{decimal_digit, first_decimal, decimal_nonempty, digits_decimal}
use Rattle.std.proofs.lemmas.Fmt.{decimal-digits_value, IsAscii-decimal, parse-decimal}
use Rattle.std.proofs.lemmas.Str.{IsUtf8-from_ascii}
use Rattle.std.proofs.lemmas.Str.Parse.{IsNumeralModel, numerals_by_value, tells_digits, digit_at}
use Rattle.std.proofs.lemmas.Str.Parse.{parse_plain}
use Rattle.px_bytes.specs.Decimal.{BeginsPlainly}

pub own : IsNumeralModel (AllDigits 10) (digits_value 10)
own = numerals_by_value (AllDigits 10) tells_digits

pub begins_plainly : (n : ℕ) → n < 2 ^ 64 → BeginsPlainly (decimal n)
begins_plainly zero fits = inl (decimal_digit 0 (omega arith))
begins_plainly (suc n) fits =
    let first = first_decimal (suc n) (omega arith) fits in
    let digit = digit_at (decimal (suc n)) 0 (digits_decimal own (suc n) fits) (decimal_nonempty (suc n) fits) in
    inr (omega arith, digit.1)

pub decimal_begins_plainly : (text : List ℕ) (n : ℕ) → n < 2 ^ 64 → text ≡ decimal n → BeginsPlainly text
decimal_begins_plainly text n fits e = rw e (begins_plainly n fits)

pub decimal_is_utf8 : (text : List ℕ) (n : ℕ) → n < 2 ^ 64 → text ≡ decimal n → IsUtf8 text
decimal_is_utf8 text n fits e = rw e (IsUtf8-from_ascii (decimal n) (IsAscii-decimal n fits))

no_plus : (text : List ℕ) → BeginsPlainly text → get_or text 0 0 ≢ 43
no_plus text (inl zero_alone) plus = let first = ap (λ t. get_or t 0 0) zero_alone in omega arith
no_plus text (inr digit) plus = omega arith

pub lone_zero : (text : List ℕ) → BeginsPlainly text → get_or text 0 0 ≡ 48 → length text ≡ 1
lone_zero text (inl zero_alone) first = ap length zero_alone
lone_zero text (inr digit) first = absurd (omega arith)

pub parsed_is_decimal : (E : Type 0) (text : List ℕ) (r : Result ℕ E) → BeginsPlainly text → ParsesUnsigned {E = E} 64 10 text r → IfSome (result_ok r) (λ n. text ≡ decimal n)
parsed_is_decimal E text (Ok n) plain parsed =
    let p = parse_plain own {E = E} 64 text (Ok n) parsed (no_plus text plain) in
    sym (decimal-digits_value own text p.0.0 p.0.1 (lone_zero text plain) p.0.2) ∙ ap decimal (sym p.1)
parsed_is_decimal E text (Err e) plain parsed = tt

pub unparsed_is_none : (E : Type 0) (text : List ℕ) (r : Result ℕ E) → ParsesUnsigned {E = E} 64 10 text r → IfNone (result_ok r) ((n : ℕ) → n < 2 ^ 64 → ¬ (text ≡ decimal n))
unparsed_is_none E text (Ok n) parsed = tt
unparsed_is_none E text (Err e) parsed = λ n fits is. cc (parse-decimal {E = E} 64 n text (Err e) fits fits is parsed)
