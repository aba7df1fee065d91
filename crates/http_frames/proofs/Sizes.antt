-- Lengths of at most 18 digits.
use Rattle.std.proofs.Common.{◌≡◌, ℕ, ◌<◌, ◌≤◌, ◌^◌, true, ◌&&◌, List, [], ◌∷◌, length, nat_le, nat_lt, arith}
use Rattle.std.specs.Char.{digit_value, is_ascii_digit}
use Rattle.std.specs.List.{list_all}
use Rattle.std.specs.Str.Parse.{AllDigits, digits_value}
use Rattle.std.proofs.Math.Nat.{pow-le-pow_right}
use Rattle.std.proofs.lemmas.Bool.{and_parts, leb-true}
use Rattle.std.proofs.lemmas.Bool.Decides.{nat_tests}
use Rattle.std.proofs.lemmas.Int.Digits.{digits_value-lt}
use Rattle.http_frames.specs.Bodies.{is_size}

digit : (byte : ℕ) → is_ascii_digit byte ≡ true → digit_value byte < 10
digit byte is = grind (arith, nat_tests)

all_digits : (value : List ℕ) → list_all is_ascii_digit value ≡ true → AllDigits 10 value
all_digits [] all = tt
all_digits (c ∷ cs) all =
    let both = and_parts (is_ascii_digit c) (list_all is_ascii_digit cs) all in (digit c both.0, all_digits cs both.1)

pub record Small (value : List ℕ) : Type 0 where
  pub digits : AllDigits 10 value
  pub small : digits_value 10 value < 2 ^ 63

pub is_small : (value : List ℕ) → is_size value ≡ true → Small value
is_small value is =
    let some = and_parts (nat_lt 0 (length value)) (nat_le (length value) 18 && list_all is_ascii_digit value) is in
    let few = and_parts (nat_le (length value) 18) (list_all is_ascii_digit value) some.1 in
    let digits = all_digits value few.1 in
    let most : 10 ^ length value ≤ 10 ^ 18 = pow-le-pow_right (omega arith) (leb-true (length value) 18 few.0) in
    record { digits = digits; small = omega (arith, most, digits_value-lt 10 value digits) }
