-- Places that lie further on.
use Rattle.std.proofs.Common.{◌≡◌, ℕ, zero, suc, ◌+◌, ◌%◌, ◌<◌, ◌≤◌, List, length, Bool, true}
use Rattle.std.proofs.Common.{false, cond, refl, arith}
use Rattle.std.specs.Prelude.{◌&&◌, ◌==◌, nat_lt, slice_index}
use Rattle.tcl_words.specs.Escapes.{is_digit, digits, letter, after_backslash, escape, unit}
use Rattle.tcl_words.specs.Places.{stands, is_blank, skips_newline, after_blank, letter_stands}
use Rattle.tcl_words.specs.Places.{after_name, separates, after_comment_byte, in_gap}
use Rattle.tcl_words.specs.Skips.{turns, skip, spaces_end, name_end, brace_end, blanks_end}
use Rattle.tcl_words.specs.Skips.{comment_end, after_gap_part, gap_end}
use Rattle.tcl_words.specs.Values.{brace_unit_end}
use Rattle.tcl_words.proofs.Runs.{blank_within, gap_within}

either : (b : Bool) (at next end : ℕ) → at ≤ next → next ≤ end → at ≤ cond b end at
either true at next end h k = omega (arith, h, k)
either false at next end h k = omega arith

-- skipping goes on
pub skip_onward : (test : ℕ → Bool) (step : ℕ → ℕ) → ((k : ℕ) → k ≤ step k) → (n at : ℕ)
    → at ≤ skip test step n at
unfolding skip
skip_onward test step on zero at = omega arith
skip_onward test step on (suc n) at =
    either (test at) at (step at) _ (on at) (skip_onward test step on n (step at))

stops_at : (test : ℕ → Bool) (b : Bool) (at end : ℕ) → test at ≡ b
    → (b ≡ true → test end ≡ false) → test (cond b end at) ≡ false
stops_at test true at end e h = h refl
stops_at test false at end e h = e

not_true : (b : Bool) → (b ≡ true → ⊥) → b ≡ false
not_true true h = absurd (h refl)
not_true false h = refl

-- with enough turns, skipping ends where the test fails
pub skip_stops : (test : ℕ → Bool) (step : ℕ → ℕ) (bound : ℕ) → ((k : ℕ) → k < step k)
    → ((k : ℕ) → test k ≡ true → k < bound) → (n at : ℕ) → bound < n + at
    → test (skip test step n at) ≡ false
unfolding skip
skip_stops test step bound on within zero at h =
    not_true (test at) (λ e. let k = within at e in omega (arith, k, h))
skip_stops test step bound on within (suc n) at h =
    stops_at test (test at) at (skip test step n (step at)) refl
    (λ e. let k = on at in skip_stops test step bound on within n (step at) (omega (arith, k, h)))

step_on : (b : Bool) (at : ℕ) → at < cond b (at + 2) (at + 1)
step_on true at = omega arith
step_on false at = omega arith

pub after_blank_on : (text : List ℕ) (at : ℕ) → at < after_blank text at
unfolding after_blank
after_blank_on text at = step_on (skips_newline text at) at

after_comment_on : (text : List ℕ) (at : ℕ) → at ≤ after_comment_byte text at
unfolding after_comment_byte
after_comment_on text at =
    let on = step_on ((slice_index text at == 92) && nat_lt (at + 1) (length text)) at in
    omega (arith, on)

after_name_on : (text : List ℕ) (at : ℕ) → at ≤ after_name text at
unfolding after_name
after_name_on text at = other_step (letter_stands text at) at where
  other_step : (b : Bool) (at : ℕ) → at ≤ cond b (at + 1) (at + 2)
  other_step true at = omega arith
  other_step false at = omega arith

pub blanks_on : (text : List ℕ) (at : ℕ) → at ≤ blanks_end text at
unfolding blanks_end
blanks_on text at =
    skip_onward (is_blank text) (after_blank text)
    (λ k. let on = after_blank_on text k in omega (arith, on)) (turns text) at

pub blanks_stop : (text : List ℕ) (at : ℕ) → is_blank text (blanks_end text at) ≡ false
unfolding blanks_end
blanks_stop text at =
    skip_stops (is_blank text) (after_blank text) (length text) (after_blank_on text)
    (blank_within text) (turns text) at (omega arith)

comment_on : (text : List ℕ) (at : ℕ) → at ≤ comment_end text at
unfolding comment_end
comment_on text at = skip_onward _ _ (after_comment_on text) (turns text) at

after_gap_on : (text : List ℕ) (at : ℕ) → at < after_gap_part text at
unfolding after_gap_part
after_gap_on text at =
    by_case (separates text at) (after_blank_on text at) (comment_on text (at + 1)) where
      by_case : (b : Bool) → at < after_blank text at → at + 1 ≤ comment_end text (at + 1)
          → at < cond b (after_blank text at) (comment_end text (at + 1))
      by_case true h k = h
      by_case false h k = omega (arith, k)

pub gap_on : (text : List ℕ) (at : ℕ) → at ≤ gap_end text at
unfolding gap_end
gap_on text at =
    skip_onward (in_gap text) (after_gap_part text)
    (λ k. let on = after_gap_on text k in omega (arith, on)) (turns text) at

pub gap_stop : (text : List ℕ) (at : ℕ) → in_gap text (gap_end text at) ≡ false
unfolding gap_end
gap_stop text at =
    skip_stops (in_gap text) (after_gap_part text) (length text) (after_gap_on text)
    (gap_within text) (turns text) at (omega arith)

spaces_on : (text : List ℕ) (at : ℕ) → at ≤ spaces_end text at
unfolding spaces_end
spaces_on text at = skip_onward _ _ (λ k. omega arith) (turns text) at

pub name_on : (text : List ℕ) (at : ℕ) → at ≤ name_end text at
unfolding name_end
name_on text at = skip_onward _ _ (after_name_on text) (turns text) at

pub brace_on : (text : List ℕ) (at : ℕ) → at ≤ brace_end text at
unfolding brace_end
brace_on text at = skip_onward _ _ (λ k. omega arith) (turns text) at

digits_on : (base : ℕ) (text : List ℕ) (n at number : ℕ) → at ≤ (digits base text n at number).1
unfolding digits
digits_on base text zero at number = omega arith
digits_on base text (suc n) at number =
    by_digit (is_digit base text at) _ (digits_on base text n (at + 1) _) where
      by_digit : (b : Bool) (more : ℕ × ℕ) → at + 1 ≤ more.1 → at ≤ (cond b more (number, at)).1
      by_digit true more h = omega (arith, h)
      by_digit false more h = omega arith

-- of two answers, either lies further on
choice_on : (b : Bool) (at : ℕ) (x y : ℕ × ℕ) → at ≤ x.1 → at ≤ y.1 → at ≤ (cond b x y).1
choice_on true at x y h k = h
choice_on false at x y h k = k

after_backslash_on : (text : List ℕ) (at : ℕ) → at ≤ (after_backslash text at).1
unfolding after_backslash
after_backslash_on text at =
    let two = digits 16 text (length text) (at + 1) 0 in
    let four = digits 16 text 4 (at + 1) 0 in
    let plain = cond (nat_lt at (length text)) (letter (slice_index text at), at + 1) (92, at) in
    let others = cond (stands text at 117 && is_digit 16 text (at + 1)) four plain in
    let on_two = digits_on 16 text (length text) (at + 1) 0 in
    let on_four = digits_on 16 text 4 (at + 1) 0 in
    let on_plain = choice_on (nat_lt at (length text)) at (letter (slice_index text at), at + 1)
    (92, at) (omega arith) (omega arith) in
    choice_on (is_digit 8 text at) at (digits 8 text 3 at 0)
    (cond (stands text at 120 && is_digit 16 text (at + 1)) (two.0 % 256, two.1) others)
    (digits_on 8 text 3 at 0)
    (choice_on (stands text at 120 && is_digit 16 text (at + 1)) at (two.0 % 256, two.1) others
    (omega (arith, on_two))
    (choice_on (stands text at 117 && is_digit 16 text (at + 1)) at four plain
    (omega (arith, on_four)) on_plain))

escape_on : (text : List ℕ) (at : ℕ) → at + 1 ≤ (escape text at).1
unfolding escape
escape_on text at =
    let spaces = spaces_on text (at + 2) in
    choice_on (stands text (at + 1) 10) (at + 1) (32, spaces_end text (at + 2))
    (after_backslash text (at + 1)) (omega (arith, spaces)) (after_backslash_on text (at + 1))

pub unit_on : (text : List ℕ) (at : ℕ) → at < (unit text at).1
unfolding unit
unit_on text at =
    let on = choice_on (stands text at 92) (at + 1) (escape text at) (slice_index text at, at + 1)
    (escape_on text at) (omega arith) in
    omega (arith, on)

either_on : (b : Bool) (at x y : ℕ) → at ≤ x → at ≤ y → at ≤ cond b x y
either_on true at x y h k = h
either_on false at x y h k = k

pub brace_unit_on : (text : List ℕ) (at : ℕ) → at < brace_unit_end text at
unfolding brace_unit_end
brace_unit_on text at =
    let spaces = spaces_on text (at + 2) in
    let one = cond (nat_lt (at + 1) (length text)) (at + 2) (at + 1) in
    let escaped = cond (stands text (at + 1) 10) (spaces_end text (at + 2)) one in
    let on_one = either_on (nat_lt (at + 1) (length text)) (at + 1) (at + 2) (at + 1) (omega arith)
    (omega arith) in
    let on_escaped = either_on (stands text (at + 1) 10) (at + 1) (spaces_end text (at + 2)) one
    (omega (arith, spaces)) on_one in
    let on = either_on (stands text at 92) (at + 1) escaped (at + 1) on_escaped (omega arith) in
    omega (arith, on)
