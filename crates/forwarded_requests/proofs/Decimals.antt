-- A length as it is written.
use Rattle.std.proofs.Common.{◌≡◌, refl, ap, ap₂, ◌∙◌, ℕ, ◌^◌, ◌<◌, Bool, true, not, ◌&&◌, List, [], ◌∷◌, length, reverse, arith}
use Rattle.std.specs.Char.{digit_value, is_ascii_digit}
use Rattle.std.specs.Fmt.{decimal}
use Rattle.std.specs.List.{list_all}
use Rattle.std.specs.Str.Parse.{AllDigits, digits_value}
use Rattle.std.proofs.lemmas.Bool.{and_parts, le-leb, lt-ltb}
use Rattle.std.proofs.lemmas.Bool.Decides.{nat_tests}
use Rattle.std.proofs.lemmas.Fmt.{decimal_is_IsNumeral, length-decimal-le}
use Rattle.std.proofs.lemmas.List.{reverse-append}
use Rattle.std.proofs.lemmas.List.Folds.{list_all-append}
use Rattle.httparse.specs.Grammar.{is_ows}
use Rattle.http_frames.specs.Bodies.{is_size}
use Rattle.http_heads.specs.Fields.{begins_visible, is_trimmed}

-- digits have no white space among them
digit_is : (d : ℕ) → digit_value d < 10 → is_ascii_digit d ≡ true
digit_is d low = grind (arith, nat_tests)

digit_visible : (d : ℕ) → is_ascii_digit d ≡ true → not (is_ows d) ≡ true
digit_visible d is = grind (arith, nat_tests)

digits_are : (ds : List ℕ) → AllDigits 10 ds → list_all is_ascii_digit ds ≡ true
digits_are [] all = refl
digits_are (d ∷ ds) all = ap₂ (λ s t. s && t) (digit_is d all.0) (digits_are ds all.1)

-- bytes that pass such a test have none around them
module _ (test : ℕ → Bool) (visible : (b : ℕ) → test b ≡ true → not (is_ows b) ≡ true) where
  begins : (bs : List ℕ) → list_all test bs ≡ true → begins_visible bs ≡ true
  begins [] all = refl
  begins (b ∷ bs) all = visible b (and_parts (test b) (list_all test bs) all).0

  back : (bs : List ℕ) → list_all test bs ≡ true → list_all test (reverse bs) ≡ true
  back [] all = refl
  back (b ∷ bs) all =
      let both = and_parts (test b) (list_all test bs) all in
      ap (list_all test) (reverse-append (b ∷ []) bs) ∙ list_all-append test (reverse bs) (b ∷ [])
      ∙ ap₂ (λ s t. s && t) (back bs both.1) (ap₂ (λ s t. s && t) both.0 refl)

  pub all_trimmed : (bs : List ℕ) → list_all test bs ≡ true → is_trimmed bs ≡ true
  all_trimmed bs all = ap₂ (λ s t. s && t) (begins bs all) (begins (reverse bs) (back bs all))

-- ---- a length below 10^18

pub record IsLength (n : ℕ) : Type 0 where
  pub trimmed : is_trimmed (decimal n) ≡ true
  pub size : is_size (decimal n) ≡ true
  pub value : digits_value 10 (decimal n) ≡ n

pub is_length : (n : ℕ) → n < 10 ^ 18 → IsLength n
is_length n small =
    let fits : n < 2 ^ 64 = omega (arith, small) in
    let numeral = decimal_is_IsNumeral n fits in
    let digits = digits_are (decimal n) numeral.0.1 in
    let short = length-decimal-le 18 n (omega arith) small fits in
    record {
      trimmed = all_trimmed is_ascii_digit digit_visible (decimal n) digits;
      size = ap₂ (λ s t. s && t) (lt-ltb 0 (length (decimal n)) numeral.0.0)
          (ap₂ (λ s t. s && t) (le-leb (length (decimal n)) 18 (omega (arith, short))) digits);
      value = numeral.1;
    }
