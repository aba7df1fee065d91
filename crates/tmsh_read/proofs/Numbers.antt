-- Numbers are those whose decimals the words are.
use Rattle.std.proofs.Common.{◌≡◌, ℕ, ◌<◌, ◌≤◌, ◌^◌, Bool, true, false, ltb, List, Option, Some, None, inl, inr, refl, sym, ap, ◌∙◌, arith}
use Rattle.std.proofs.lemmas.Bool.{and_parts, cases_Bool, lt-ltb, ltb-true}
use Rattle.std.proofs.lemmas.Fmt.{decimal_digit, decimal_is_IsNumeral}
use Rattle.std.proofs.lemmas.Slice.Eq.{bytes_eq-Decides}
use Rattle.std.specs.Fmt.{decimal}
use Rattle.std.specs.Prelude.{IfNone, IfSome, codes, ◌&&◌, if◌then◌else◌}
use Rattle.std.specs.Str.{bytes_eq}
use Rattle.std.specs.Str.Parse.{digits_value}
use Rattle.tmsh_read.specs.Items.{number, number_with}

number_found : (w : List ℕ) (n : ℕ) → w ≡ decimal n → n ≤ 999999999999999999 → Some n ≡ number w
number_found w n is small =
    let value : digits_value 10 w ≡ n = ap (digits_value 10) is ∙ (decimal_is_IsNumeral n (omega arith)).1 in
    let less : ltb n 1000000000000000000 ≡ true = lt-ltb n 1000000000000000000 (omega arith) in
    let same : bytes_eq w (decimal n) ≡ true = (bytes_eq-Decides w (decimal n)).1 is in
    let at : number_with w n ≡ Some n = rw (less, same) refl in
    sym at ∙ ap (number_with w) (sym value)

-- a number of one digit
pub one_is : number (codes "1") ≡ Some 1
one_is = sym (number_found (codes "1") 1 (sym (decimal_digit 1 (omega arith))) (omega arith))

number_none : (w : List ℕ) (n : ℕ) → ((m : ℕ) → m ≤ 999999999999999999 → ¬ (w ≡ decimal m)) → None ≡ number_with w n
number_none w n none = elim (cases_Bool (ltb n 1000000000000000000 && bytes_eq w (decimal n))) [
  | inl both ↦
      (let parts = and_parts (ltb n 1000000000000000000) (bytes_eq w (decimal n)) both in
      let less : n < 1000000000000000000 = ltb-true n 1000000000000000000 parts.0 in
      absurd (none n (omega arith) ((bytes_eq-Decides w (decimal n)).0 parts.1)))
  | inr other ↦ rw other refl
]

pub number_is : (w : List ℕ) (r : Option ℕ) → IfSome r (λ n. (w ≡ decimal n) × (n ≤ 999999999999999999))
    → IfNone r ((n : ℕ) → n ≤ 999999999999999999 → ¬ (w ≡ decimal n)) → r ≡ number w
number_is w (Some n) some none = number_found w n some.0 some.1
number_is w None some none = number_none w (digits_value 10 w) none
