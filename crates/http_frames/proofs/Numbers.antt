-- The number that digits write, one digit after another.
use Rattle.std.proofs.Common.{◌≡◌, ℕ, zero, suc, ◌+◌, ◌*◌, ◌<◌, ◌≤◌, List, [], ◌∷◌, length, get_or, take, Option, Some, None, sym, subst, ap, ap₂, ◌∙◌, arith}
use Rattle.std.specs.Option.{SomeIff, unwrap_or}
use Rattle.std.specs.Char.{digit_value}
use Rattle.std.specs.Str.Parse.{AllDigits, digits_value}
use Rattle.std.proofs.lemmas.Int.Digits.{digits_value_more}
use Rattle.std.proofs.lemmas.Str.Parse.{digits_value-take-le}

pub given_digit : (r : Option ℕ) (P : Type 0) (x : ℕ) → SomeIff r P x → P → unwrap_or r 0 ≡ x
given_digit (Some y) P x is p = is.1
given_digit None P x is p = absurd (is p)

pub digit_there : (radix : ℕ) (ds : List ℕ) (i : ℕ) → AllDigits radix ds → i < length ds → digit_value (get_or ds i 0) < radix
digit_there radix [] i all there = absurd (omega (arith, there))
digit_there radix (c ∷ cs) zero all there = all.0
digit_there radix (c ∷ cs) (suc i) all there = digit_there radix cs i all.1 (omega (arith, there))

-- the number with one digit more
pub record More (radix : ℕ) (ds : List ℕ) (i number digit : ℕ) : Type 0 where
  pub same : number * radix + digit ≡ digits_value radix (take (i + 1) ds)
  pub most : number * radix + digit ≤ digits_value radix ds

pub one_more : (radix : ℕ) (ds : List ℕ) (i number digit : ℕ) → 1 ≤ radix → i < length ds
    → number ≡ digits_value radix (take i ds) → digit ≡ digit_value (get_or ds i 0) → More radix ds i number digit
one_more radix ds i number digit some there so is =
    let same : number * radix + digit ≡ digits_value radix (take (i + 1) ds) =
    ap₂ (λ n d. n * radix + d) so is ∙ sym (digits_value_more radix ds i there) in
    record { same = same; most = omega (arith, same, digits_value-take-le radix ds (i + 1) some) }

-- the same, with the digit as it was read of its character
pub digit_more : (radix : ℕ) (ds : List ℕ) (i number char : ℕ) (found : Option ℕ) (digit : ℕ) → 2 ≤ radix → AllDigits radix ds → i < length ds
    → number ≡ digits_value radix (take i ds) → char ≡ get_or ds i 0 → SomeIff found (digit_value char < radix) (digit_value char)
    → digit ≡ unwrap_or found 0 → More radix ds i number digit
digit_more radix ds i number char found digit least all there so is read given =
    let small = subst (λ b. digit_value b < radix) (sym is) (digit_there radix ds i all there) in
    one_more radix ds i number digit (omega (arith, least)) there so
    (given ∙ given_digit found _ (digit_value char) read small ∙ ap digit_value is)
