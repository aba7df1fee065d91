-- How far digits, extensions and lines reach in a text, and in a longer one.
use Rattle.std.proofs.Common.{◌≡◌, ℕ, ◌+◌, ◌<◌, ◌≤◌, Bool, true, false, not, ◌==◌, cond, List, [], ◌∷◌, ◌++◌, length, take, drop, refl, sym, ap, ap₂, subst, ◌∙◌, arith}
use Rattle.std.specs.List.{position_or_len}
use Rattle.std.specs.Str.Parse.{digits_value}
use Rattle.std.proofs.lemmas.List.{drop-append-le, length-drop, take-append-le}
use Rattle.http_frames.specs.ChunkLines.{digits_length, extension_length, is_line_end, line_size, text_length}

-- in a text of this size, and in a longer one
pub data Reach (size short long : ℕ) : Type 0 where
  Inside : short < size → long ≡ short → Reach size short long
  ToEnd : short ≡ size → size ≤ long → Reach size short long

shifted : (n size short long : ℕ) → Reach size short long → Reach (n + size) (n + short) (n + long)
shifted n size short long (Inside less same) = Inside (omega (arith, less)) (ap (λ k. n + k) same)
shifted n size short long (ToEnd all more) = ToEnd (ap (λ k. n + k) all) (omega (arith, more))

pub first_place : (p : ℕ → Bool) (xs ys : List ℕ) → Reach (length xs) (position_or_len p xs) (position_or_len p (xs ++ ys))
first_place p [] ys = ToEnd refl (omega arith)
first_place p (x ∷ xs) ys =
    let size : 1 + length xs ≡ length (x ∷ xs) = omega arith in
    subst (λ n. Reach n (position_or_len p (x ∷ xs)) (position_or_len p (x ∷ (xs ++ ys)))) size
    (elim (p x) as (λ t. Reach (1 + length xs) (cond (not t) (1 + position_or_len p xs) 0) (cond (not t) (1 + position_or_len p (xs ++ ys)) 0)) [
      | true ↦ Inside (omega arith) refl
      | false ↦ shifted 1 (length xs) (position_or_len p xs) (position_or_len p (xs ++ ys)) (first_place p xs ys)
    ])

extension_reach : (byte : ℕ) (text more : List ℕ) → Reach (length (byte ∷ text)) (extension_length (byte ∷ text)) (extension_length (byte ∷ (text ++ more)))
extension_reach byte text more =
    let size : 1 + length text ≡ length (byte ∷ text) = omega arith in
    subst (λ n. Reach n (extension_length (byte ∷ text)) (extension_length (byte ∷ (text ++ more)))) size
    (elim (byte == 59) as (λ t. Reach (1 + length text) (cond t (1 + position_or_len is_line_end text) 0) (cond t (1 + position_or_len is_line_end (text ++ more)) 0)) [
      | true ↦ shifted 1 (length text) (position_or_len is_line_end text) (position_or_len is_line_end (text ++ more)) (first_place is_line_end text more)
      | false ↦ Inside (omega arith) refl
    ])

some_extension : (rest more : List ℕ) → 0 < length rest → Reach (length rest) (extension_length rest) (extension_length (rest ++ more))
some_extension [] more some = absurd (omega (arith, some))
some_extension (byte ∷ rest) more some = extension_reach byte rest more

-- the digits end inside the text
module _ (text more : List ℕ) (less : digits_length text < length text) (same : digits_length (text ++ more) ≡ digits_length text) where
  behind : drop (digits_length (text ++ more)) (text ++ more) ≡ drop (digits_length text) text ++ more
  behind = ap (λ n. drop n (text ++ more)) same ∙ drop-append-le (digits_length text) text more (omega (arith, less))

  pub text_reach : Reach (length text) (text_length text) (text_length (text ++ more))
  text_reach =
      let d = digits_length text in
      let rest = drop d text in
      let size : d + length rest ≡ length text = omega (arith, less, length-drop d text) in
      let long : d + extension_length (rest ++ more) ≡ text_length (text ++ more) = ap₂ (λ n r. n + extension_length r) (sym same) (sym behind) in
      subst (λ n. Reach n (text_length text) (text_length (text ++ more))) size
      (subst (λ n. Reach (d + length rest) (text_length text) n) long
      (shifted d (length rest) (extension_length rest) (extension_length (rest ++ more)) (some_extension rest more (omega (arith, less, length-drop d text)))))

  pub same_size : line_size (text ++ more) ≡ line_size text
  same_size = ap (digits_value 16) (ap (λ n. take n (text ++ more)) same ∙ take-append-le (digits_length text) text more (omega (arith, less)))
