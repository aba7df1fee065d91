-- Which number a text is.
use Rattle.std.proofs.Common.{◌≡◌, ℕ, ◌^◌, ◌<◌, ◌≤◌, Bool, true, false, ◌&&◌, cond, List, Option, Some, None}
use Rattle.std.proofs.Common.{IfSome, IfNone, sym, refl, ap, ap₂, ◌∙◌, arith}
use Rattle.std.specs.Prelude.{nat_le}
use Rattle.std.specs.Fmt.{decimal}
use Rattle.std.specs.Str.{bytes_eq}
use Rattle.std.specs.Str.Parse.{digits_value}
use Rattle.std.proofs.lemmas.Bool.{cond-true, le-leb, leb-true}
use Rattle.std.proofs.lemmas.Fmt.{digits_value-decimal}
use Rattle.std.proofs.lemmas.Slice.Eq.{bytes_eq-Decides}
use Rattle.px_bytes.proofs.Decimals.{own}
use Rattle.test_text.specs.Line.{number_of}

both_hold : (a b : Bool) → (a && b) ≡ true → (a ≡ true) × (b ≡ true)
both_hold false b h = cc
both_hold true false h = cc
both_hold true true h = (refl, refl)

pub number_is : (most : ℕ) (text : List ℕ) (r : Option ℕ) → most < 2 ^ 64
    → IfSome r (λ n. (text ≡ decimal n) × (n ≤ most)) → IfNone r ((n : ℕ) → n ≤ most → ¬ (text ≡ decimal n))
    → r ≡ number_of most text
number_is most text (Some n) small found none =
    let v : digits_value 10 text ≡ n = ap (digits_value 10) found.0 ∙ digits_value-decimal own n (omega (arith, found.1, small)) in
    let is : bytes_eq text (decimal n) ≡ true = (bytes_eq-Decides text (decimal n)).1 found.0 in
    let passes : (nat_le (digits_value 10 text) most && bytes_eq text (decimal (digits_value 10 text))) ≡ true =
    ap (λ m. nat_le m most && bytes_eq text (decimal m)) v ∙ ap₂ (λ s t. s && t) (le-leb n most found.1) is in
    sym (cond-true _ (Some (digits_value 10 text)) None passes ∙ ap Some v)
number_is most text None small found none =
    let v = digits_value 10 text in
    elim (nat_le v most && bytes_eq text (decimal v)) as (λ b. (nat_le v most && bytes_eq text (decimal v)) ≡ b → None ≡ cond b (Some v) None) [
      | true ↦ λ h.
          let t = both_hold (nat_le v most) (bytes_eq text (decimal v)) h in
          absurd (none v (leb-true _ _ t.0) ((bytes_eq-Decides text (decimal v)).0 t.1))
      | false ↦ λ h. refl
    ] refl
