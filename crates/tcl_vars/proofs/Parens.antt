-- The first `(` of a text that ends with `)`.
use Rattle.std.proofs.Common.{◌≡◌, ℕ, ◌+◌, ◌-◌, ◌<◌, ◌≤◌, Bool, true, false, List, [], ◌∷◌, length}
use Rattle.std.proofs.Common.{get_or, Option, Some, nat_eq, position, take, drop, sym, refl, ap}
use Rattle.std.proofs.Common.{◌∙◌, arith, sub-one}
use Rattle.std.specs.List.{slice_get}
use Rattle.std.specs.Option.{option_map_or}
use Rattle.std.proofs.lemmas.Bool.Decides.{nat_tests}
use Rattle.std.proofs.lemmas.List.{drop-take}
use Rattle.std.proofs.lemmas.List.Quantifiers.{position-Some}
use Rattle.std.proofs.lemmas.Option.{slice_get-get_or}
use Rattle.tcl_vars.specs.Names.{ends_with_paren, name_of}

abbrev pub closes : Option ℕ → Bool
closes last = option_map_or (λ b. nat_eq b 41) last false

pub ends_with_paren-is : (text : List ℕ) → ends_with_paren text ≡ closes (slice_get text (length text - 1))
ends_with_paren-is [] = refl
ends_with_paren-is (b ∷ []) = refl
ends_with_paren-is (b ∷ c ∷ bs) = rw sub-one (rw sub-one at (ends_with_paren-is (c ∷ bs)))

module _ (text : List ℕ) (at : ℕ) (opens : Some at ≡ position (λ b. nat_eq b 40) text) (ends : true ≡ ends_with_paren text) where
  pub opens_before_end : at + 1 ≤ length text - 1
  opens_before_end =
      let first = position-Some (λ b. nat_eq b 40) text at 0 (sym opens) in
      let inside : at < length text = first.0 in
      let last = slice_get-get_or text (length text - 1) 0 (omega arith) in
      let closing : nat_eq (get_or text (length text - 1) 0) 41 ≡ true = sym (ends ∙ ends_with_paren-is text ∙ ap closes last) in
      let opening : nat_eq (get_or text at 0) 40 ≡ true = first.1 in
      grind (arith, nat_tests)

  pub index-is : Some (take (length text - 1 - (at + 1)) (drop (at + 1) text)) ≡ (name_of text).index
  index-is =
      let fits = opens_before_end in
      let whole : at + 1 + (length text - 1 - (at + 1)) ≡ length text - 1 = omega arith in
      rw (← ends, ← opens) (ap Some (sym (drop-take (at + 1) (length text - 1 - (at + 1)) text) ∙ ap (λ n. drop (at + 1) (take n text)) whole))
