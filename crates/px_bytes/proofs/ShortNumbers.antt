-- Texts of a few decimal digits.
use Rattle.std.proofs.Common.{◌≡◌, ℕ, ◌+◌, ◌*◌, ◌^◌, ◌<◌, ◌≤◌, Bool, true, false, cond, List}
use Rattle.std.proofs.Common.{[], ◌∷◌, length, get_or, Some, None, sym, refl, ◌∙◌}
use Rattle.std.proofs.Common.{Option, IfSome, ℤ, arith}
use Rattle.std.specs.Char.{digit_value, is_digit}
use Rattle.std.specs.Str.Parse.{AllDigits, digits_value_after}
use Rattle.std.proofs.Math.Nat.{pow-le-pow_right}
use Rattle.std.proofs.lemmas.Bool.{ltb-true}
use Rattle.px_bytes.specs.Whole.{digits_behind, positive, signed, whole}
use Rattle.px_bytes.proofs.Wholes.{whole_decimal}

-- the number of a few digits and one more
pub few_digits_fit : (value at : ℕ) → at < 18 → value < 10 ^ at → value * 10 + 9 < 2 ^ 64
few_digits_fit value at few below =
    let most : 10 ^ at ≤ 10 ^ 17 = pow-le-pow_right {n = 10} (omega arith) {i = at} {j = 17} (omega arith) in
    omega arith

-- what digits behind those of n are, where they write m
record Digits (n m : ℕ) (ds : List ℕ) : Type 0 where
  all : AllDigits 10 ds
  value : digits_value_after 10 n ds ≡ m

all_digits_at : (n m c : ℕ) (cs : List ℕ) (t : Bool) → is_digit c 10 ≡ t → (digits_behind 10 (n * 10 + digit_value c) cs ≡ Some m → Digits (n * 10 + digit_value c) m cs)
    → cond t (digits_behind 10 (n * 10 + digit_value c) cs) None ≡ Some m → Digits n m (c ∷ cs)
all_digits_at n m c cs true test more e = let rest = more e in record { all = (ltb-true (digit_value c) 10 test, rest.all); value = rest.value }
all_digits_at n m c cs false test more e = absurd (cc e)

all_digits : (n m : ℕ) (ds : List ℕ) → digits_behind 10 n ds ≡ Some m → Digits n m ds
all_digits n m [] e = record { all = tt; value = cc e }
all_digits n m (c ∷ cs) e = all_digits_at n m c cs (is_digit c 10) refl (all_digits (n * 10 + digit_value c) m cs) e

-- digits alone, which no needless 0 begins
digits_are_whole : (n : ℕ) (ds : List ℕ) → 1 ≤ length ds → (get_or ds 0 0 ≡ 48 → length ds ≡ 1) → digits_behind 10 0 ds ≡ Some n → whole ds ≡ positive n
digits_are_whole n ds some alone e =
    let read = all_digits 0 n ds e in
    whole_decimal n ds (record { some = some; all = read.all; value = read.value; alone = alone })

found_is_whole : (r w : Option ℤ) → r ≡ w → IfSome r (λ value. w ≡ Some value)
found_is_whole (Some value) w e = sym e
found_is_whole None w e = tt

-- the number that was read of them, with the sign that it doesn't have
pub short_is_whole : (r : Option ℤ) (n : ℕ) (ds : List ℕ) → 1 ≤ length ds → (get_or ds 0 0 ≡ 48 → length ds ≡ 1) → digits_behind 10 0 ds ≡ Some n → r ≡ signed false (Some n)
    → IfSome r (λ value. whole ds ≡ Some value)
short_is_whole r n ds some alone read found = found_is_whole r (whole ds) (found ∙ sym (digits_are_whole n ds some alone read))
