-- Hexadecimal digits.
use Rattle.std.proofs.Common.{◌≡◌, ℕ, suc, ◌+◌, ◌<◌, ◌≤◌, ◌^◌, true, false, not, cond, List, [], ◌∷◌, length, take, refl, arith}
use Rattle.std.specs.Char.{digit_value}
use Rattle.std.specs.Str.Parse.{AllDigits, digits_value}
use Rattle.std.proofs.Math.Nat.{pow-le-pow_right}
use Rattle.std.proofs.lemmas.Bool.Decides.{nat_tests}
use Rattle.std.proofs.lemmas.Int.Digits.{digits_value-lt}
use Rattle.http_frames.specs.ChunkLines.{digits_length, is_no_digit}

hex_digit : (byte : ℕ) → is_no_digit byte ≡ false → digit_value byte < 16
hex_digit byte is = grind (arith, nat_tests)

pub front_digits : (text : List ℕ) → AllDigits 16 (take (digits_length text) text)
front_digits [] = tt
front_digits (byte ∷ text) =
    elim (is_no_digit byte) as (λ t. is_no_digit byte ≡ t → AllDigits 16 (take (cond (not t) (1 + digits_length text) 0) (byte ∷ text))) [
      | true ↦ λ h. tt
      | false ↦ λ h. let shape : 1 + digits_length text ≡ suc (digits_length text) = omega arith in rw shape (hex_digit byte h, front_digits text)
    ] refl

-- fifteen of them write a number below 2^63
pub few_small : (digits : List ℕ) → AllDigits 16 digits → length digits ≤ 15 → digits_value 16 digits < 2 ^ 63
few_small digits all few =
    let most : 16 ^ length digits ≤ 16 ^ 15 = pow-le-pow_right (omega arith) few in
    omega (arith, most, digits_value-lt 16 digits all)
