-- A stretch of a text that stands in another text too, and how far steps lead on.
use Rattle.std.proofs.Common.{◌≡◌, ◌⊎◌, inl, inr, refl, ℕ, zero, suc, ◌+◌, ◌<◌, ◌≤◌}
use Rattle.std.proofs.Common.{List, length, Bool, true, false, cond, nat_lt, arith}
use Rattle.std.proofs.lemmas.Bool.Decides.{nat_tests}
use Rattle.std.specs.Prelude.{◌&&◌, ◌==◌, nat_le, slice_index, slice_range}
use Rattle.tcl_words.specs.Escapes.{is_digit, digits}
use Rattle.tcl_words.specs.Places.{stands, letter_stands, after_name}
use Rattle.tcl_words.specs.Places.{after_blank, separates, after_comment_byte}
use Rattle.tcl_words.specs.Skips.{skip, turns, comment_end, after_gap_part}
use Rattle.tcl_words.specs.Tree.{from_to}
use Rattle.tcl_words.proofs.Onward.{after_blank_on, skip_onward}
use Rattle.tcl_expr.specs.Moved.{moved_span}

-- what stands from one place up to another stands d further on in the new text, and is moved so
pub record Carried (b n d lo hi : ℕ) (text new : List ℕ) : Type 0 where
  pub within : hi ≤ length text
  pub within_new : d + hi ≤ length new
  pub index : (k : ℕ) → lo ≤ k → k < hi → slice_index new (d + k) ≡ slice_index text k
  pub cut : (i j : ℕ) → lo ≤ i → i ≤ j → j ≤ hi → slice_range new (d + i) (d + j) ≡ slice_range text i j
  pub spans : (i j : ℕ) → lo ≤ i → i < hi → moved_span b n (from_to i j) ≡ from_to (d + i) (d + j)

-- a byte at which nothing begins that reads on
pub record Closing (hi : ℕ) (text : List ℕ) (close : ℕ) : Type 0 where
  pub inside : close < hi
  pub slash : stands text close 92 ≡ false
  pub dollar : stands text close 36 ≡ false
  pub colon : stands text close 58 ≡ false
  pub hex : stands text close 120 ≡ false
  pub code : stands text close 117 ≡ false

pub another : (text : List ℕ) (k x y : ℕ) → stands text k x ≡ true → (x == y) ≡ false → stands text k y ≡ false
unfolding stands
another text k x y h e = grind (arith, nat_tests)

pub closing : (hi : ℕ) (text : List ℕ) (close x : ℕ) → close < hi → stands text close x ≡ true → (x == 92) ≡ false → (x == 36) ≡ false → (x == 58) ≡ false → (x == 120) ≡ false → (x == 117) ≡ false → Closing hi text close
closing hi text close x inside h p q r s t = record { inside = inside; slash = another text close x 92 h p; dollar = another text close x 36 h q; colon = another text close x 58 h r; hex = another text close x 120 h s; code = another text close x 117 h t }

pub is_below : (a b : ℕ) → a < b → nat_lt a b ≡ true
is_below a b h = grind (arith, nat_tests)

pub is_over : (a b : ℕ) → a < b → nat_le b a ≡ false
is_over a b h = grind (arith, nat_tests)

pub split : (k close : ℕ) → k ≤ close → (k < close) ⊎ (k ≡ close)
split k close h = by_test (nat_lt k close) refl where
  by_test : (t : Bool) → nat_lt k close ≡ t → (k < close) ⊎ (k ≡ close)
  by_test true e = inl (grind (arith, nat_tests))
  by_test false e = let over : close ≤ k = grind (arith, nat_tests) in inr (omega (arith, over, h))

pub step_on : (t : Bool) (k : ℕ) → k < cond t (k + 2) (k + 1)
step_on true k = omega arith
step_on false k = omega arith

pub other_on : (t : Bool) (k : ℕ) → k < cond t (k + 1) (k + 2)
other_on true k = omega arith
other_on false k = omega arith

pub comment_step : (text : List ℕ) (k : ℕ) → k < after_comment_byte text k
unfolding after_comment_byte
comment_step text k = step_on ((slice_index text k == 92) && nat_lt (k + 1) (length text)) k

pub name_step : (text : List ℕ) (k : ℕ) → k < after_name text k
unfolding after_name
name_step text k = other_on (letter_stands text k) k

pub comment_on : (text : List ℕ) (at : ℕ) → at ≤ comment_end text at
unfolding comment_end
comment_on text at = skip_onward _ _ (λ k. let o = comment_step text k in omega (arith, o)) (turns text) at

pub gap_step : (text : List ℕ) (k : ℕ) → k < after_gap_part text k
unfolding after_gap_part
gap_step text k = by_case (separates text k) (after_blank_on text k) (comment_on text (k + 1)) where
  by_case : (t : Bool) → k < after_blank text k → k + 1 ≤ comment_end text (k + 1) → k < cond t (after_blank text k) (comment_end text (k + 1))
  by_case true h l = h
  by_case false h l = omega (arith, l)

pub skip_none : (t : ℕ → Bool) (r : ℕ → ℕ) (k : ℕ) → skip t r zero k ≡ k
unfolding skip
skip_none t r k = refl

pub digits_on : (base : ℕ) (text : List ℕ) (m at number : ℕ) → at ≤ (digits base text m at number).1
unfolding digits
digits_on base text zero at number = omega arith
digits_on base text (suc m) at number = by_digit (is_digit base text at) _ (digits_on base text m (at + 1) _) where
  by_digit : (t : Bool) (more : ℕ × ℕ) → at + 1 ≤ more.1 → at ≤ (cond t more (number, at)).1
  by_digit true more h = omega (arith, h)
  by_digit false more h = omega arith
