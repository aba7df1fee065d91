-- Literals of a text with white space put in between its tokens.
use Rattle.std.proofs.Common.{◌≡◌, ◌⊎◌, inl, inr, refl, sym, ap, ap₂, subst, ◌∙◌, ℕ, zero, suc, ◌+◌, ◌-◌, ◌<◌, ◌≤◌}
use Rattle.std.proofs.Common.{List, length, take, Bool, true, false, cond, arith}
use Rattle.std.specs.Prelude.{◌&&◌, slice_range, codes}
use Rattle.std.specs.Char.{is_digit}
use Rattle.tcl_words.specs.Places.{stands}
use Rattle.tcl_words.specs.Skips.{skip, turns}
use Rattle.tcl_words.proofs.Onward.{skip_onward}
use Rattle.tcl_words.proofs.Runs.{skip_stop, skip_more}
use Rattle.tcl_expr.specs.Grammar.{SpellsLiteral}
use Rattle.tcl_expr.specs.Tokens.{reads_word}
use Rattle.tcl_expr.specs.Tokens.{digit_stands, digits_end, number_end}
use Rattle.tcl_expr.proofs.GrammarPlaces.{digits_moves, number_on}
use Rattle.tcl_expr.proofs.Put.{Put, side}
use Rattle.tcl_expr.proofs.Insertions.{stands_same, stands_moved}
use Rattle.tcl_expr.proofs.Insertions.{test_same, test_moved, skip_later}
use Rattle.tcl_expr.proofs.Places.{digit_within}
use Rattle.tcl_expr.proofs.InsertedTokens.{put_no_digit, reads_same, reads_parted, reads_moved, plain, both_true}

module _ (b n : ℕ) (text new : List ℕ) (p : Put b n text new) where
  digit_same : (radix k : ℕ) → k < b → digit_stands radix new k ≡ digit_stands radix text k
  unfolding digit_stands
  digit_same radix k h = test_same b n text new p (λ c. is_digit c radix) k h

  digit_moved : (radix k : ℕ) → b ≤ k → digit_stands radix new (n + k) ≡ digit_stands radix text k
  unfolding digit_stands
  digit_moved radix k h = test_moved b n text new p (λ c. is_digit c radix) k h

  digits_behind : (radix k : ℕ) → b ≤ k → digits_end radix new (n + k) ≡ n + digits_end radix text k
  unfolding digits_end
  digits_behind radix k h =
      let s = p.size in
      skip_later (digit_stands radix text) (digit_stands radix new) (λ i. i + 1) (λ i. i + 1) n b (length text) (digit_moved radix) (λ i l. omega arith) (λ i. omega arith) (digit_within radix text)
      (turns text) (turns new) k h (omega arith) (omega (arith, s))

  digits_here : (radix : ℕ) → radix ≤ 36 → (m l k : ℕ) → skip (digit_stands radix text) (λ i. i + 1) m k ≤ b → b ≤ k → skip (digit_stands radix new) (λ i. i + 1) l k ≡ skip (digit_stands radix text) (λ i. i + 1) m k
  digits_here radix small m l k h s =
      let on = skip_onward (digit_stands radix text) (λ i. i + 1) (λ i. omega arith) m k in
      let e : k ≡ b = omega (arith, on, h, s) in
      let f : b ≡ skip (digit_stands radix text) (λ i. i + 1) m k = omega (arith, on, h, s) in
      skip_stop (digit_stands radix new) (λ i. i + 1) l k (ap (digit_stands radix new) e ∙ put_no_digit b n text new p radix small) ∙ e ∙ f

  digits_front : (radix : ℕ) → radix ≤ 36 → (m l k : ℕ) → length text < m + k → length new < l + k → skip (digit_stands radix text) (λ i. i + 1) m k ≤ b
      → skip (digit_stands radix new) (λ i. i + 1) l k ≡ skip (digit_stands radix text) (λ i. i + 1) m k
  digits_front radix small zero l k x y h = digits_here radix small zero l k h (let w = p.within in omega (arith, x, w))
  digits_front radix small (suc m) l k x y h =
      by_side (λ s h. let w = p.within in let z = p.size in digits_front radix small m (l - 1) (k + 1) (omega (arith, x)) (omega (arith, y, s, w, z)) h) (side b k) where
        by_digit : (skip (digit_stands radix text) (λ i. i + 1) m (k + 1) ≤ b → skip (digit_stands radix new) (λ i. i + 1) (l - 1) (k + 1) ≡ skip (digit_stands radix text) (λ i. i + 1) m (k + 1)) → k < b
            → (t : Bool) → digit_stands radix text k ≡ t → skip (digit_stands radix new) (λ i. i + 1) l k ≡ skip (digit_stands radix text) (λ i. i + 1) (suc m) k
        by_digit again s false e = skip_stop (digit_stands radix new) (λ i. i + 1) l k (digit_same radix k s ∙ e) ∙ sym (skip_stop (digit_stands radix text) (λ i. i + 1) (suc m) k e)
        by_digit again s true e =
            let w = p.within in
            let z = p.size in
            let less : suc m - 1 ≡ m = omega arith in
            let more = skip_more (digit_stands radix text) (λ i. i + 1) (suc m) k (omega arith) e ∙ ap (λ i. skip (digit_stands radix text) (λ i. i + 1) i (k + 1)) less in
            skip_more (digit_stands radix new) (λ i. i + 1) l k (omega (arith, s, y, w, z)) (digit_same radix k s ∙ e)
            ∙ again (subst (λ i. i ≤ b) more h)
            ∙ sym more

        by_side : (k < b → skip (digit_stands radix text) (λ i. i + 1) m (k + 1) ≤ b → skip (digit_stands radix new) (λ i. i + 1) (l - 1) (k + 1) ≡ skip (digit_stands radix text) (λ i. i + 1) m (k + 1))
            → (k < b) ⊎ (b ≤ k) → skip (digit_stands radix new) (λ i. i + 1) l k ≡ skip (digit_stands radix text) (λ i. i + 1) (suc m) k
        by_side again (inr s) = digits_here radix small (suc m) l k h s
        by_side again (inl s) = by_digit (again s) s (digit_stands radix text k) refl

  digits_before : (radix k : ℕ) → radix ≤ 36 → digits_end radix text k ≤ b → digits_end radix new k ≡ digits_end radix text k
  unfolding digits_end
  digits_before radix k small h = digits_front radix small (turns text) (turns new) k (omega arith) (omega arith) h

  -- a number whose end lies before the place
  reads_back : (word : List ℕ) (at : ℕ) → at < b → plain word ≡ true → reads_word new at word ≡ true → (reads_word text at word ≡ true) × (at + length word ≤ b)
  reads_back word at h q e = by_side (side (at + length word) b) (side b (at + length word)) where
    by_side : (b < at + length word) ⊎ (at + length word ≤ b) → (at + length word < b) ⊎ (b ≤ at + length word) → (reads_word text at word ≡ true) × (at + length word ≤ b)
    by_side (inl l) s = let no = reads_parted b n text new p word at (omega (arith, h)) l q in absurd (cc)
    by_side (inr l) s = (sym (reads_same b n text new p word at l) ∙ e, l)

  hex_back : (at : ℕ) → at < b → (reads_word new at (codes "0x") && digit_stands 16 new (at + 2)) ≡ true → (reads_word text at (codes "0x") && digit_stands 16 text (at + 2)) ≡ true
  hex_back at h e =
      let k = both_true (reads_word new at (codes "0x")) (digit_stands 16 new (at + 2)) e in
      let r = reads_back (codes "0x") at h refl k.0 in
      by_side r.0 r.1 k.1 (side b (at + 2)) where
        by_side : reads_word text at (codes "0x") ≡ true → at + 2 ≤ b → digit_stands 16 new (at + 2) ≡ true → (at + 2 < b) ⊎ (b ≤ at + 2) → (reads_word text at (codes "0x") && digit_stands 16 text (at + 2)) ≡ true
        by_side r l d (inl s) = ap₂ (λ x y. x && y) r (sym (digit_same 16 (at + 2) s) ∙ d)
        by_side r l d (inr s) =
            let f : at + 2 ≡ b = omega (arith, l, s) in
            let no : digit_stands 16 new (at + 2) ≡ false = ap (digit_stands 16 new) f ∙ put_no_digit b n text new p 16 (omega arith) in absurd (cc)

  hex_on : (at : ℕ) → (reads_word text at (codes "0x") && digit_stands 16 text (at + 2)) ≡ true → digits_end 16 text (at + 2) ≤ b → (reads_word new at (codes "0x") && digit_stands 16 new (at + 2)) ≡ true
  hex_on at e h =
      let k = both_true (reads_word text at (codes "0x")) (digit_stands 16 text (at + 2)) e in
      let on = digits_moves 16 text (at + 2) k.1 in
      ap₂ (λ x y. x && y) (reads_same b n text new p (codes "0x") at (omega (arith, on, h)) ∙ k.0) (digit_same 16 (at + 2) (omega (arith, on, h)) ∙ k.1)

  number_before : (at : ℕ) → at < b → number_end text at ≤ b → number_end new at ≡ number_end text at
  unfolding number_end
  number_before at h l = by_hex (reads_word text at (codes "0x") && digit_stands 16 text (at + 2)) refl (reads_word new at (codes "0x") && digit_stands 16 new (at + 2)) refl l where
    by_octal : (t : Bool) → cond t (digits_end 8 text at) (digits_end 10 text at) ≤ b → cond t (digits_end 8 new at) (digits_end 10 new at) ≡ cond t (digits_end 8 text at) (digits_end 10 text at)
    by_octal true l = digits_before 8 at (omega arith) l
    by_octal false l = digits_before 10 at (omega arith) l

    by_hex : (t : Bool) → (reads_word text at (codes "0x") && digit_stands 16 text (at + 2)) ≡ t → (u : Bool) → (reads_word new at (codes "0x") && digit_stands 16 new (at + 2)) ≡ u
        → cond t (digits_end 16 text (at + 2)) (cond (stands text at 48) (digits_end 8 text at) (digits_end 10 text at)) ≤ b
        → cond u (digits_end 16 new (at + 2)) (cond (stands new at 48) (digits_end 8 new at) (digits_end 10 new at)) ≡ cond t (digits_end 16 text (at + 2)) (cond (stands text at 48) (digits_end 8 text at) (digits_end 10 text at))
    by_hex true e true f l = digits_before 16 (at + 2) (omega arith) l
    by_hex true e false f l = let on = hex_on at e l in absurd (cc)
    by_hex false e true f l = let back = hex_back at h f in absurd (cc)
    by_hex false e false f l =
        ap (λ t. cond t (digits_end 8 new at) (digits_end 10 new at)) (stands_same b n text new p at 48 h)
        ∙ by_octal (stands text at 48) l

  number_behind : (at : ℕ) → b ≤ at → number_end new (n + at) ≡ n + number_end text at
  unfolding number_end
  number_behind at h =
      let e : n + at + 2 ≡ n + (at + 2) = omega arith in
      ap₂ (λ x y. cond (x && y) (digits_end 16 new (n + at + 2)) (cond (stands new (n + at) 48) (digits_end 8 new (n + at)) (digits_end 10 new (n + at))))
      (reads_moved b n text new p (codes "0x") at h) (ap (digit_stands 16 new) e ∙ digit_moved 16 (at + 2) (omega (arith, h)))
      ∙ by_hex (reads_word text at (codes "0x") && digit_stands 16 text (at + 2)) (ap (digits_end 16 new) e ∙ digits_behind 16 (at + 2) (omega (arith, h)))
      (ap (λ t. cond t (digits_end 8 new (n + at)) (digits_end 10 new (n + at))) (stands_moved b n text new p at 48 h) ∙ by_octal (stands text at 48)) where
        by_octal : (t : Bool) → cond t (digits_end 8 new (n + at)) (digits_end 10 new (n + at)) ≡ n + cond t (digits_end 8 text at) (digits_end 10 text at)
        by_octal true = digits_behind 8 at h
        by_octal false = digits_behind 10 at h

        by_hex : (t : Bool) → digits_end 16 new (n + at + 2) ≡ n + digits_end 16 text (at + 2) → cond (stands new (n + at) 48) (digits_end 8 new (n + at)) (digits_end 10 new (n + at)) ≡ n + cond (stands text at 48) (digits_end 8 text at) (digits_end 10 text at)
            → cond t (digits_end 16 new (n + at + 2)) (cond (stands new (n + at) 48) (digits_end 8 new (n + at)) (digits_end 10 new (n + at))) ≡ n + cond t (digits_end 16 text (at + 2)) (cond (stands text at 48) (digits_end 8 text at) (digits_end 10 text at))
        by_hex true x y = x
        by_hex false x y = y

  pub literal_before : (at last : ℕ) → last ≤ b → SpellsLiteral text at last → SpellsLiteral new at last
  literal_before at last h (inl is) = inl (reads_same b n text new p (codes "true") at (omega (arith, h, is.1)) ∙ is.0, is.1)
  literal_before at last h (inr (inl is)) = inr (inl (reads_same b n text new p (codes "false") at (omega (arith, h, is.1)) ∙ is.0, is.1))
  literal_before at last h (inr (inr is)) =
      let on = number_on text at is.0 in
      let l : at < b = omega (arith, on, h, is.1) in
      inr (inr (digit_same 10 at l ∙ is.0, is.1 ∙ sym (number_before at l (omega (arith, h, is.1)))))

  pub literal_behind : (at last : ℕ) → b ≤ at → SpellsLiteral text at last → SpellsLiteral new (n + at) (n + last)
  literal_behind at last h (inl is) = inl (reads_moved b n text new p (codes "true") at h ∙ is.0, omega (arith, is.1))
  literal_behind at last h (inr (inl is)) = inr (inl (reads_moved b n text new p (codes "false") at h ∙ is.0, omega (arith, is.1)))
  literal_behind at last h (inr (inr is)) = inr (inr (digit_moved 10 at h ∙ is.0, ap (λ i. n + i) is.1 ∙ sym (number_behind at h)))

  pub range_behind : (at last : ℕ) → b ≤ at → slice_range new (n + at) (n + last) ≡ slice_range text at last
  range_behind at last h =
      let e : n + last - (n + at) ≡ last - at = omega arith in
      ap₂ take e (p.later at h)
