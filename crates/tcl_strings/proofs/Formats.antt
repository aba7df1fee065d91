-- The pieces of a format, one after another.
use Rattle.std.proofs.Common.{◌≡◌, ℕ, zero, suc, ◌-◌, ◌≤◌, min, Bool, true, cond, ◌==◌, List, []}
use Rattle.std.proofs.Common.{◌∷◌, length, take, drop, get_or, sym, ap, refl, ◌∙◌, arith}
use Rattle.std.proofs.lemmas.Bool.Decides.{nat_tests}
use Rattle.std.proofs.lemmas.List.{take_all, drop_min}
use Rattle.tcl_strings.specs.declared.conversion.Item.{Item}
use Rattle.tcl_strings.specs.Conversion.{item_len, item_of}
use Rattle.tcl_strings.specs.Field.{byte, with_item, fields_from, fields}

skipped : (skip : ℕ) (format : List ℕ) (values : List (List ℕ)) → fields_from skip format values ≡ fields (drop skip format) values
skipped zero format values = refl
skipped (suc skip) [] values = refl
skipped (suc skip) (b ∷ format) values = skipped skip format values

percent_by : (b : ℕ) (format : List ℕ) (values : List (List ℕ)) (t : Bool) → (b == 37) ≡ t
    → fields (b ∷ format) values ≡ cond t (with_item (item_of format) values (fields_from (item_len format) format)) (byte b ∷ fields format values)
percent_by b format values t e = ap (λ x. cond x (with_item (item_of format) values (fields_from (item_len format) format)) (byte b ∷ fields format values)) e

is_percent : (b : ℕ) → b ≡ 37 → (b == 37) ≡ true
is_percent b e = grind (arith, nat_tests)

percent_here : (b : ℕ) (format : List ℕ) (values : List (List ℕ)) → b ≡ 37 → fields (b ∷ format) values ≡ with_item (item_of format) values (fields (drop (item_len format) format))
percent_here b format values e =
    percent_by b format values true (is_percent b e) ∙ ap (with_item (item_of format) values) (λ i v. skipped (item_len format) format v i)

-- what stands behind the first byte of a text
abbrev behind : List ℕ → List ℕ
behind text = take (length text - 1) (drop 1 text)

behind_first : (b : ℕ) (format : List ℕ) → behind (b ∷ format) ≡ format
behind_first b format = take_all (length (b ∷ format) - 1) format (omega arith)

module _ (values : List (List ℕ)) (rest : List ℕ) (item : Item) (n m : ℕ) where
  at_item : (format : List ℕ) → item ≡ item_of format → m ≡ item_len format → n ≡ min m (length format) → rest ≡ drop n format
      → with_item (item_of format) values (fields (drop (item_len format) format)) ≡ with_item item values (fields rest)
  at_item format is len least left =
      let cut : drop (item_len format) format ≡ rest = sym (drop_min (item_len format) format) ∙ ap (λ k. drop (min k (length format)) format) (sym len) ∙ ap (λ k. drop k format) (sym least) ∙ sym left in
      ap (λ r. with_item (item_of format) values (fields r)) cut ∙ ap (λ x. with_item x values (fields rest)) (sym is)

  -- what a `%` asks for
  pub percent_next : (text : List ℕ) → 1 ≤ length text → get_or text 0 0 ≡ 37 → item ≡ item_of (behind text) → m ≡ item_len (behind text) → n ≡ min m (length (behind text)) → rest ≡ drop n (behind text)
      → fields text values ≡ with_item item values (fields rest)
  percent_next [] some e is len least left = absurd (omega arith)
  percent_next (b ∷ format) some e is len least left =
      let same = behind_first b format in
      percent_here b format values e
      ∙ at_item format (is ∙ ap item_of same) (len ∙ ap item_len same) (least ∙ ap (λ t. min m (length t)) same) (left ∙ ap (drop n) same)
