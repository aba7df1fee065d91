-- Which texts are whole numbers.
use Rattle.std.proofs.Common.{◌≡◌, ℕ, suc, ◌+◌, ◌-◌, ◌*◌, ◌^◌, ◌<◌, ◌≤◌, Bool, true, false, ◌==◌}
use Rattle.std.proofs.Common.{cond, ltb, List, [], ◌∷◌, length, get_or, take, drop, Option, Some}
use Rattle.std.proofs.Common.{Result, Ok, Err, IfOk, None, ℤ, pos, negsuc, neg_ℤ, sym, ap, ap₂, refl, ◌∙◌, arith}
use Rattle.std.specs.Char.{digit_value, is_digit}
use Rattle.std.specs.Fmt.{decimal, signed_decimal}
use Rattle.std.specs.List.{prefix_len, suffix_len}
use Rattle.std.specs.Str.Parse.{AllDigits, digits_value, digits_value_after, starts_with_minus}
use Rattle.std.specs.Str.Parse.{without_leading_plus, without_leading_sign}
use lib.Signed.{mag}
use Rattle.std.proofs.Math.Nat.{mul-le-mul_left}
use Rattle.std.proofs.lemmas.Bool.{ne_eqb, lt-ltb, le-leb}
use Rattle.std.proofs.lemmas.Bool.Decides.{nat_tests}
use Rattle.std.proofs.lemmas.Fmt.{decimal_is_IsNumeral, decimal_nonempty}
use Rattle.std.proofs.lemmas.List.{at_drop_more, at_drop_all, get_or_past, take_all}
use Rattle.std.proofs.lemmas.List.Sums.{prefix_len_is, suffix_len_is}
use Rattle.std.proofs.lemmas.Str.Parse.{digit_at}
use Rattle.px_bytes.specs.White.{is_space, trimmed_start, trimmed_end, trimmed}
use Rattle.px_bytes.specs.Whole.{digits_behind, digits, is_hexadecimal, is_octal, magnitude}
use Rattle.px_bytes.specs.Whole.{fits_64, positive, signed, signed_number, whole}
use Rattle.px_bytes.proofs.Decimals.{begins_plainly, lone_zero}

too_large_now : (n : ℕ) → 2 ^ 64 ≤ n → fits_64 (Some n) ≡ None
too_large_now n big = grind (arith, nat_tests)

too_large_at : (radix n c : ℕ) (cs : List ℕ) (t : Bool) → 1 ≤ radix → 2 ^ 64 ≤ n → (2 ^ 64 ≤ n * radix + digit_value c → fits_64 (digits_behind radix (n * radix + digit_value c) cs) ≡ None)
    → fits_64 (cond t (digits_behind radix (n * radix + digit_value c) cs) None) ≡ None
too_large_at radix n c cs true low big more = more (omega (arith, mul-le-mul_left n low))
too_large_at radix n c cs false low big more = refl

-- digits behind a number that doesn't fit
pub too_large : (radix n : ℕ) (cs : List ℕ) → 1 ≤ radix → 2 ^ 64 ≤ n → fits_64 (digits_behind radix n cs) ≡ None
too_large radix n [] low big = too_large_now n big
too_large radix n (c ∷ cs) low big = too_large_at radix n c cs (is_digit c radix) low big (too_large radix (n * radix + digit_value c) cs low)

pub digits_from_first : (radix : ℕ) (cs : List ℕ) → 1 ≤ length cs → digits radix cs ≡ digits_behind radix 0 cs
digits_from_first radix [] some = absurd (omega arith)
digits_from_first radix (c ∷ cs) some = refl

pub fits_now : (n : ℕ) → n < 2 ^ 64 → fits_64 (Some n) ≡ Some n
fits_now n small = grind (arith, nat_tests)

signed_fits_at : (minus : Bool) (n : ℕ) (t : Bool) → ltb n (2 ^ 64) ≡ t → signed minus (cond t (Some n) None) ≡ signed minus (Some n)
signed_fits_at minus n true e = refl
signed_fits_at true n false e = grind (arith, nat_tests)
signed_fits_at false n false e = grind (arith, nat_tests)

-- a number that doesn't fit in 64 bits doesn't with a sign
pub signed_fits : (minus : Bool) (m : Option ℕ) → signed minus (fits_64 m) ≡ signed minus m
signed_fits minus None = refl
signed_fits minus (Some n) = signed_fits_at minus n (ltb n (2 ^ 64)) refl

too_large_here : (radix n c : ℕ) (cs : List ℕ) (t : Bool) → 1 ≤ radix → 2 ^ 64 ≤ n → fits_64 (cond t (digits_behind radix n cs) None) ≡ None
too_large_here radix n c cs true low big = too_large radix n cs low big
too_large_here radix n c cs false low big = refl

-- the digits up to a place write too large a number
pub too_large_at_place : (radix value at : ℕ) (text : List ℕ) → 1 ≤ radix → at < length text → 2 ^ 64 ≤ value * radix + digit_value (get_or text at 0)
    → digits_behind radix value (drop at text) ≡ digits_behind radix 0 text → fits_64 (digits radix text) ≡ None
too_large_at_place radix value at text low inside big same =
    ap fits_64 (digits_from_first radix text (omega arith) ∙ sym same ∙ at_drop_more (digits_behind radix value) text at 0 inside)
    ∙ too_large_here radix (value * radix + digit_value (get_or text at 0)) (get_or text at 0) (drop (at + 1) text) (is_digit (get_or text at 0) radix) low big

pub product_too_large : (a r s d : ℕ) → r ≡ s → ¬ (a * r < 2 ^ 64) → 2 ^ 64 ≤ a * s + d
product_too_large a r s d e big = rw (sym e) (omega arith)

pub sum_too_large : (a r s m d n : ℕ) → r ≡ s → d ≡ n → m ≡ a * r → ¬ (m + d < 2 ^ 64) → 2 ^ 64 ≤ a * s + n
sum_too_large a r s m d n e f g big = rw (sym e, sym f, sym g) (omega arith)

pub digits_at_end : (radix value at : ℕ) (text : List ℕ) → 1 ≤ length text → length text ≤ at → value < 2 ^ 64
    → digits_behind radix value (drop at text) ≡ digits_behind radix 0 text → Some value ≡ fits_64 (digits radix text)
digits_at_end radix value at text some over fits same =
    sym (ap fits_64 (digits_from_first radix text some ∙ sym same ∙ at_drop_all (digits_behind radix value) text at over) ∙ fits_now value fits)

-- the parts of a text read as one number
pub whole_is : (text around number : List ℕ) (minus : Bool) (size : Option ℕ) → around ≡ trimmed text → minus ≡ starts_with_minus around → number ≡ without_leading_sign around
    → size ≡ fits_64 (magnitude number) → signed minus size ≡ whole text
whole_is text around number minus size e f g h =
    ap (signed minus) h ∙ signed_fits minus (magnitude number) ∙ ap₂ (λ m t. signed m (magnitude t)) f g ∙ ap signed_number e

-- WHAT IS PRINTED READS BACK

digits_behind_all : (n : ℕ) (ds : List ℕ) → AllDigits 10 ds → digits_behind 10 n ds ≡ Some (digits_value_after 10 n ds)
digits_behind_all n [] all = refl
digits_behind_all n (c ∷ cs) all =
    ap (λ t. cond t (digits_behind 10 (n * 10 + digit_value c) cs) None) (lt-ltb (digit_value c) 10 all.0) ∙ digits_behind_all (n * 10 + digit_value c) cs all.1

-- what a decimal is made of
pub record Decimal (n : ℕ) (ds : List ℕ) : Type 0 where
  pub some : 1 ≤ length ds
  pub all : AllDigits 10 ds
  pub value : digits_value 10 ds ≡ n
  pub alone : get_or ds 0 0 ≡ 48 → length ds ≡ 1

decimal_is : (n : ℕ) → n < 2 ^ 64 → Decimal n (decimal n)
decimal_is n fits = record {
  some = decimal_nonempty n fits;
  all = (decimal_is_IsNumeral n fits).0.1;
  value = (decimal_is_IsNumeral n fits).1;
  alone = λ zero. lone_zero (decimal n) (begins_plainly n fits) zero;
}

digit_in : (n : ℕ) (ds : List ℕ) (i : ℕ) → Decimal n ds → i < length ds → (48 ≤ get_or ds i 0) × (get_or ds i 0 ≤ 57)
digit_in n ds i d h = let range = digit_at ds i d.all h in (omega arith, omega arith)

magnitude_by : (n : ℕ) (ds : List ℕ) (hex octal : Bool) → is_hexadecimal ds ≡ hex → is_octal ds ≡ octal → Decimal n ds
    → cond hex (digits 16 (drop 2 ds)) (cond octal (digits 8 (drop 1 ds)) (digits 10 ds)) ≡ Some n
magnitude_by n ds true octal e f d = let never : ⊥ = grind (arith, nat_tests, get_or_past ds 1 0, d.alone) in absurd never
magnitude_by n ds false true e f d = let never : ⊥ = grind (arith, nat_tests, d.alone) in absurd never
magnitude_by n ds false false e f d = digits_from_first 10 ds d.some ∙ digits_behind_all 0 ds d.all ∙ ap Some d.value

magnitude_decimal : (n : ℕ) → n < 2 ^ 64 → magnitude (decimal n) ≡ Some n
magnitude_decimal n fits = magnitude_by n (decimal n) _ _ refl refl (decimal_is n fits)

not_space : (byte : ℕ) → (48 ≤ byte) × (byte ≤ 57) → is_space byte ≡ false
not_space byte digit = grind (arith, nat_tests)

trimmed_plain : (xs : List ℕ) → 1 ≤ length xs → is_space (get_or xs 0 0) ≡ false → is_space (get_or xs (length xs - 1) 0) ≡ false → trimmed xs ≡ xs
trimmed_plain xs some first last =
    let front : prefix_len is_space xs ≡ 0 = prefix_len_is is_space xs 0 0 (omega arith) (λ k h. absurd (omega arith)) (λ h. first) in
    let back : suffix_len is_space xs ≡ 0 = suffix_len_is is_space xs (length xs) 0 (omega arith) (λ k h g. absurd (omega arith)) (λ h. last) ∙ omega arith in
    let same : trimmed_start xs ≡ xs = ap (λ n. drop n xs) front in
    ap trimmed_end same ∙ ap (λ n. take (length xs - n) xs) back ∙ take_all (length xs - 0) xs (omega arith)

-- a decimal is the number that it writes, where that fits
pub whole_decimal : (n : ℕ) (ds : List ℕ) → Decimal n ds → whole ds ≡ positive n
whole_decimal n ds d =
    let first = digit_in n ds 0 d (omega (arith, d.some)) in
    let last = digit_in n ds (length ds - 1) d (omega (arith, d.some)) in
    let around : trimmed ds ≡ ds = trimmed_plain ds d.some (not_space _ first) (not_space _ last) in
    let minus : starts_with_minus ds ≡ false = ne_eqb _ 45 (λ e. omega arith) in
    let plus : (get_or ds 0 0 == 43) ≡ false = ne_eqb _ 43 (λ e. omega arith) in
    let number : without_leading_sign ds ≡ ds = ap (λ t. cond t (drop 1 ds) (without_leading_plus ds)) minus ∙ ap (λ t. drop (cond t 1 0) ds) plus in
    ap signed_number around ∙ ap₂ (λ t xs. signed t (magnitude xs)) minus number ∙ ap (signed false) (magnitude_by n ds _ _ refl refl d)

whole_minus : (n : ℕ) (ds : List ℕ) → n ≤ 2 ^ 63 → Decimal n ds → magnitude ds ≡ Some n → whole (45 ∷ ds) ≡ Some (neg_ℤ (pos n))
whole_minus n ds fits d m =
    let last = digit_in n ds (length ds - 1) d (omega (arith, d.some)) in
    let end : get_or (45 ∷ ds) (length (45 ∷ ds) - 1) 0 ≡ get_or ds (length ds - 1) 0 = let k : length (45 ∷ ds) - 1 ≡ suc (length ds - 1) = omega (arith, d.some) in ap (λ i. get_or (45 ∷ ds) i 0) k in
    let around : trimmed (45 ∷ ds) ≡ 45 ∷ ds = trimmed_plain (45 ∷ ds) (omega arith) refl (ap is_space end ∙ not_space _ last) in
    ap signed_number around ∙ ap (signed true) m ∙ ap (λ t. cond t (Some (neg_ℤ (pos n))) None) (le-leb n (2 ^ 63) fits)

printed_reads_back : (z : ℤ) → mag z < 2 ^ 63 → whole (signed_decimal z) ≡ Some z
printed_reads_back (pos n) fits =
    whole_decimal n (decimal n) (decimal_is n (omega arith)) ∙ ap (λ t. cond t (Some (pos n)) None) (lt-ltb n (2 ^ 63) fits)
printed_reads_back (negsuc n) fits =
    whole_minus (suc n) (decimal (suc n)) (omega arith) (decimal_is (suc n) (omega arith)) (magnitude_decimal (suc n) (omega arith))

-- a text that may have been printed
pub each_reads_back : {E : Type 0} (r : Result (List ℕ) E) (bytes : List ℕ) (z : ℤ) → IfOk r (λ text. text ≡ bytes) → bytes ≡ signed_decimal z → mag z < 2 ^ 63
    → IfOk r (λ text. whole text ≡ Some z)
each_reads_back (Ok text) bytes z same is fits = ap whole (same ∙ is) ∙ printed_reads_back z fits
each_reads_back (Err e) bytes z same is fits = tt
