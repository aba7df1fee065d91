-- Tests of bytes in a stretch of a text that stands in another text too, with a place in it behind which nothing is read.
use Rattle.std.proofs.Common.{◌≡◌, ◌⊎◌, inl, inr, refl, sym, ap, ap₂, subst, ◌∙◌, ℕ, zero, suc, ◌+◌, ◌-◌, ◌<◌, ◌≤◌}
use Rattle.std.proofs.Common.{List, length, Bool, true, false, cond, nat_lt, arith}
use Rattle.std.specs.Prelude.{◌&&◌, ◌||◌, ◌==◌, not, nat_le, slice_index}
use Rattle.tcl_words.specs.Places.{stands, is_letter, letter_stands, names, after_name, opens_name, in_name, starts_variable, skips_newline}
use Rattle.tcl_words.specs.Places.{is_space, is_blank, after_blank, separates, closes, ends_run, ends_script, ends_command, in_comment, after_comment_byte, in_gap}
use Rattle.tcl_words.specs.Skips.{skip, turns, spaces_end, name_end, brace_end, blanks_end, comment_end, after_gap_part, gap_end}
use Rattle.tcl_words.specs.declared.places.Closer.{Closer}
use Rattle.tcl_words.specs.declared.places.Closer.TheVariants.{Word, BracketWord, Quote, Paren}
use Rattle.tcl_words.proofs.Onward.{after_blank_on, skip_onward}
use Rattle.tcl_words.proofs.Runs.{skip_stop, skip_more}
use Rattle.tcl_expr.proofs.Carried.{Carried, Closing, comment_step, gap_step, is_below, is_over, name_step, skip_none, split}

module _ (b n d lo hi close : ℕ) (text new : List ℕ) (c : Carried b n d lo hi text new) (g : Closing hi text close) where
  below_both : (k : ℕ) → k ≤ close → (nat_lt (d + k) (length new) ≡ true) × (nat_lt k (length text) ≡ true)
  below_both k h =
      let i = g.inside in
      let w = c.within in
      let v = c.within_new in
      (is_below (d + k) (length new) (omega (arith, h, i, v)), is_below k (length text) (omega (arith, h, i, w)))

  pub below : (k : ℕ) → k ≤ close → nat_lt (d + k) (length new) ≡ nat_lt k (length text)
  below k h = let w = below_both k h in w.0 ∙ sym w.1

  pub over : (k : ℕ) → k ≤ close → nat_le (length new) (d + k) ≡ nat_le (length text) k
  over k h =
      let i = g.inside in
      let w = c.within in
      let v = c.within_new in
      is_over (d + k) (length new) (omega (arith, h, i, v)) ∙ sym (is_over k (length text) (omega (arith, h, i, w)))

  pub index : (k : ℕ) → lo ≤ k → k ≤ close → slice_index new (d + k) ≡ slice_index text k
  index k l h = let i = g.inside in c.index k l (omega (arith, h, i))

  pub index_next : (k : ℕ) → lo ≤ k → k < close → slice_index new (d + k + 1) ≡ slice_index text (k + 1)
  index_next k l h = let e : d + k + 1 ≡ d + (k + 1) = omega arith in ap (slice_index new) e ∙ index (k + 1) (omega (arith, l)) (omega (arith, h))

  pub below_next : (k : ℕ) → k < close → nat_lt (d + k + 1) (length new) ≡ nat_lt (k + 1) (length text)
  below_next k h = let e : d + k + 1 ≡ d + (k + 1) = omega arith in ap (λ i. nat_lt i (length new)) e ∙ below (k + 1) (omega (arith, h))

  pub st : (k x : ℕ) → lo ≤ k → k ≤ close → stands new (d + k) x ≡ stands text k x
  unfolding stands
  st k x l h = ap₂ (λ u v. u && (v == x)) (below k h) (index k l h)

  pub st_next : (k x : ℕ) → lo ≤ k → k < close → stands new (d + k + 1) x ≡ stands text (k + 1) x
  st_next k x l h = let e : d + k + 1 ≡ d + (k + 1) = omega arith in ap (λ i. stands new i x) e ∙ st (k + 1) x (omega (arith, l)) (omega (arith, h))

  -- a byte with one that follows it
  pub pair : (k x : ℕ) → lo ≤ k → k ≤ close → stands text close x ≡ false → (u v : Bool) → (k < close → u ≡ v) → (stands new (d + k) x && u) ≡ (stands text k x && v)
  pair k x l h quiet u v same = by_place (split k close h) where
    by_place : (k < close) ⊎ (k ≡ close) → (stands new (d + k) x && u) ≡ (stands text k x && v)
    by_place (inl i) = ap₂ (λ a e. a && e) (st k x l h) (same i)
    by_place (inr i) =
        let none : stands text k x ≡ false = ap (λ j. stands text j x) i ∙ quiet in
        ap (λ a. a && u) (st k x l h ∙ none) ∙ sym (ap (λ a. a && v) none)

  skips : (k : ℕ) → lo ≤ k → k ≤ close → skips_newline new (d + k) ≡ skips_newline text k
  unfolding skips_newline
  skips k l h = pair k 92 l h g.slash _ _ (λ i. st_next k 10 l i)

  letters : (k : ℕ) → lo ≤ k → k ≤ close → letter_stands new (d + k) ≡ letter_stands text k
  unfolding letter_stands
  letters k l h = ap₂ (λ u v. u && is_letter v) (below k h) (index k l h)

  pub name_here : (k : ℕ) → lo ≤ k → k ≤ close → names new (d + k) ≡ names text k
  unfolding names
  name_here k l h = ap₂ (λ u v. u || v) (letters k l h) (pair k 58 l h g.colon _ _ (λ i. st_next k 58 l i))

  name_next : (k : ℕ) → lo ≤ k → k < close → names new (d + k + 1) ≡ names text (k + 1)
  name_next k l h = let e : d + k + 1 ≡ d + (k + 1) = omega arith in ap (names new) e ∙ name_here (k + 1) (omega (arith, l)) (omega (arith, h))

  pub opens : (k : ℕ) → lo ≤ k → k ≤ close → opens_name new (d + k) ≡ opens_name text k
  unfolding opens_name
  opens k l h = pair k 36 l h g.dollar _ _ (λ i. st_next k 123 l i)

  pub starts : (k : ℕ) → lo ≤ k → k ≤ close → starts_variable new (d + k) ≡ starts_variable text k
  unfolding starts_variable
  starts k l h = ap₂ (λ u v. u || v) (opens k l h) (pair k 36 l h g.dollar _ _ (λ i. name_next k l i))

  space : (k : ℕ) → lo ≤ k → k ≤ close → is_space new (d + k) ≡ is_space text k
  unfolding is_space
  space k l h = ap₂ (λ u v. u || v) (st k 32 l h) (st k 9 l h)

  blank : (k : ℕ) → lo ≤ k → k ≤ close → is_blank new (d + k) ≡ is_blank text k
  unfolding is_blank
  blank k l h = ap₂ (λ u v. u || v) (space k l h) (skips k l h)

  parted : (k : ℕ) → lo ≤ k → k ≤ close → separates new (d + k) ≡ separates text k
  unfolding separates
  parted k l h = ap₂ (λ u v. u || v) (ap₂ (λ u v. u || v) (blank k l h) (st k 10 l h)) (st k 59 l h)

  pub closed : (e : Closer) (k : ℕ) → lo ≤ k → k ≤ close → closes e new (d + k) ≡ closes e text k
  unfolding closes
  closed Word k l h = ap₂ (λ u v. u || v) (over k h) (parted k l h)
  closed BracketWord k l h = ap₂ (λ u v. u || v) (over k h) (ap₂ (λ u v. u || v) (parted k l h) (st k 93 l h))
  closed Quote k l h = ap₂ (λ u v. u || v) (over k h) (st k 34 l h)
  closed Paren k l h = ap₂ (λ u v. u || v) (over k h) (st k 41 l h)

  pub run_ends : (e : Closer) (k : ℕ) → lo ≤ k → k ≤ close → ends_run e new (d + k) ≡ ends_run e text k
  unfolding ends_run
  run_ends e k l h = ap₂ (λ u v. u || v) (ap₂ (λ u v. u || v) (closed e k l h) (st k 91 l h)) (starts k l h)

  pub script_ends : (inside : Bool) (k : ℕ) → lo ≤ k → k ≤ close → ends_script inside new (d + k) ≡ ends_script inside text k
  unfolding ends_script
  script_ends inside k l h = ap₂ (λ u v. u || v) (over k h) (ap (λ v. inside && v) (st k 93 l h))

  pub command_ends : (inside : Bool) (k : ℕ) → lo ≤ k → k ≤ close → ends_command inside new (d + k) ≡ ends_command inside text k
  unfolding ends_command
  command_ends inside k l h = ap₂ (λ u v. u || v) (ap₂ (λ u v. u || v) (script_ends inside k l h) (st k 10 l h)) (st k 59 l h)

  comments : (k : ℕ) → lo ≤ k → k ≤ close → in_comment new (d + k) ≡ in_comment text k
  unfolding in_comment
  comments k l h = ap₂ (λ u v. u && not (v == 10)) (below k h) (index k l h)

  gaps : (k : ℕ) → lo ≤ k → k ≤ close → in_gap new (d + k) ≡ in_gap text k
  unfolding in_gap
  gaps k l h = ap₂ (λ u v. u || v) (parted k l h) (st k 35 l h)

  named : (k : ℕ) → lo ≤ k → k ≤ close → in_name new (d + k) ≡ in_name text k
  unfolding in_name
  named k l h = ap₂ (λ u v. u && not v) (below k h) (st k 125 l h)

  -- ---- steps

  two_one : (t : Bool) (k : ℕ) → cond t (d + k + 2) (d + k + 1) ≡ d + cond t (k + 2) (k + 1)
  two_one true k = omega arith
  two_one false k = omega arith

  one_two : (t : Bool) (k : ℕ) → cond t (d + k + 1) (d + k + 2) ≡ d + cond t (k + 1) (k + 2)
  one_two true k = omega arith
  one_two false k = omega arith

  step_blank : (k : ℕ) → lo ≤ k → k ≤ close → after_blank new (d + k) ≡ d + after_blank text k
  unfolding after_blank
  step_blank k l h = ap (λ t. cond t (d + k + 2) (d + k + 1)) (skips k l h) ∙ two_one (skips_newline text k) k

  step_name : (k : ℕ) → lo ≤ k → k ≤ close → after_name new (d + k) ≡ d + after_name text k
  unfolding after_name
  step_name k l h = ap (λ t. cond t (d + k + 1) (d + k + 2)) (letters k l h) ∙ one_two (letter_stands text k) k

  step_comment : (k : ℕ) → lo ≤ k → k < close → after_comment_byte new (d + k) ≡ d + after_comment_byte text k
  unfolding after_comment_byte
  step_comment k l h =
      ap₂ (λ u v. cond ((u == 92) && v) (d + k + 2) (d + k + 1)) (index k l (omega (arith, h))) (below_next k h)
      ∙ two_one ((slice_index text k == 92) && nat_lt (k + 1) (length text)) k

  skipped : (t u : ℕ → Bool) (r s : ℕ → ℕ) → ((k : ℕ) → lo ≤ k → k ≤ close → u (d + k) ≡ t k) → ((k : ℕ) → lo ≤ k → k < close → r k ≤ close → s (d + k) ≡ d + r k) → ((k : ℕ) → k < r k)
      → (m l k : ℕ) → lo ≤ k → length text < m + k → length new < l + (d + k) → skip t r m k ≤ close → skip u s l (d + k) ≡ d + skip t r m k
  skipped t u r s tests steps on zero l k low x y h =
      let none = skip_none t r k in
      let i = g.inside in
      let w = c.within in
      absurd (omega (arith, x, h, none, i, w))
  skipped t u r s tests steps on (suc m) l k low x y h =
      let first = skip_onward t r (λ i. let o = on i in omega (arith, o)) (suc m) k in
      let less : suc m - 1 ≡ m = omega arith in
      let o = on k in
      by_test (λ q. skipped t u r s tests steps on m (l - 1) (r k) (omega (arith, low, o)) (omega (arith, x, o))
      (let i = g.inside in let v = c.within_new in omega (arith, y, o, h, first, i, v)) q) (tests k low (omega (arith, first, h))) (t k) refl where
        by_test : (skip t r m (r k) ≤ close → skip u s (l - 1) (d + r k) ≡ d + skip t r m (r k)) → u (d + k) ≡ t k → (e : Bool) → t k ≡ e → skip u s l (d + k) ≡ d + skip t r (suc m) k
        by_test again same false e = skip_stop u s l (d + k) (same ∙ e) ∙ ap (λ i. d + i) (sym (skip_stop t r (suc m) k e))
        by_test again same true e =
            let less : suc m - 1 ≡ m = omega arith in
            let more = skip_more t r (suc m) k (omega arith) e ∙ ap (λ i. skip t r i (r k)) less in
            let later = subst (λ i. i ≤ close) more h in
            let step = skip_onward t r (λ i. let o = on i in omega (arith, o)) m (r k) in
            let o = on k in
            let i = g.inside in
            let v = c.within_new in
            skip_more u s l (d + k) (omega (arith, y, o, later, step, i, v)) (same ∙ e)
            ∙ ap (skip u s (l - 1)) (steps k low (omega (arith, o, later, step)) (omega (arith, later, step)))
            ∙ again later
            ∙ ap (λ i. d + i) (sym more)

  pub spaces_at : (k : ℕ) → lo ≤ k → spaces_end text k ≤ close → spaces_end new (d + k) ≡ d + spaces_end text k
  unfolding spaces_end
  spaces_at k l h = skipped (is_space text) (is_space new) (λ i. i + 1) (λ i. i + 1) space (λ i x y z. omega arith) (λ i. omega arith) (turns text) (turns new) k l (omega arith) (omega arith) h

  pub name_at : (k : ℕ) → lo ≤ k → name_end text k ≤ close → name_end new (d + k) ≡ d + name_end text k
  unfolding name_end
  name_at k l h = skipped (names text) (names new) (after_name text) (after_name new) name_here (λ i x y z. step_name i x (omega (arith, y))) (name_step text) (turns text) (turns new) k l (omega arith) (omega arith) h

  pub brace_at : (k : ℕ) → lo ≤ k → brace_end text k ≤ close → brace_end new (d + k) ≡ d + brace_end text k
  unfolding brace_end
  brace_at k l h = skipped (in_name text) (in_name new) (λ i. i + 1) (λ i. i + 1) named (λ i x y z. omega arith) (λ i. omega arith) (turns text) (turns new) k l (omega arith) (omega arith) h

  pub blanks_at : (k : ℕ) → lo ≤ k → blanks_end text k ≤ close → blanks_end new (d + k) ≡ d + blanks_end text k
  unfolding blanks_end
  blanks_at k l h = skipped (is_blank text) (is_blank new) (after_blank text) (after_blank new) blank (λ i x y z. step_blank i x (omega (arith, y))) (after_blank_on text) (turns text) (turns new) k l (omega arith) (omega arith) h

  comment_at : (k : ℕ) → lo ≤ k → comment_end text k ≤ close → comment_end new (d + k) ≡ d + comment_end text k
  unfolding comment_end
  comment_at k l h = skipped (in_comment text) (in_comment new) (after_comment_byte text) (after_comment_byte new) comments (λ i x y z. step_comment i x y) (comment_step text) (turns text) (turns new) k l (omega arith) (omega arith) h

  step_gap : (k : ℕ) → lo ≤ k → k < close → after_gap_part text k ≤ close → after_gap_part new (d + k) ≡ d + after_gap_part text k
  unfolding after_gap_part
  step_gap k l h q =
      let e : d + k + 1 ≡ d + (k + 1) = omega arith in
      ap (λ t. cond t (after_blank new (d + k)) (comment_end new (d + k + 1))) (parted k l (omega (arith, h)))
      ∙ by_case (separates text k) q where
        by_case : (t : Bool) → cond t (after_blank text k) (comment_end text (k + 1)) ≤ close → cond t (after_blank new (d + k)) (comment_end new (d + k + 1)) ≡ d + cond t (after_blank text k) (comment_end text (k + 1))
        by_case true q = step_blank k l (omega (arith, h))
        by_case false q = let e : d + k + 1 ≡ d + (k + 1) = omega arith in ap (comment_end new) e ∙ comment_at (k + 1) (omega (arith, l)) q

  pub gap_at : (k : ℕ) → lo ≤ k → gap_end text k ≤ close → gap_end new (d + k) ≡ d + gap_end text k
  unfolding gap_end
  gap_at k l h = skipped (in_gap text) (in_gap new) (after_gap_part text) (after_gap_part new) gaps step_gap (gap_step text) (turns text) (turns new) k l (omega arith) (omega arith) h
