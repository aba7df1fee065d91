-- Operators and literals of a text with white space put in between its tokens.
use Rattle.std.proofs.Common.{◌≡◌, ◌⊎◌, inl, inr, refl, sym, ap, ap₂, subst, ◌∙◌, ℕ, zero, suc, ◌+◌, ◌<◌, ◌≤◌}
use Rattle.std.proofs.Common.{List, [], ◌∷◌, length, Bool, true, false, Option, Some, None, cond, nat_lt, arith}
use Rattle.std.proofs.lemmas.Bool.Decides.{nat_tests}
use Rattle.std.specs.Prelude.{◌&&◌, ◌||◌, ◌==◌, not, slice_index, slice_range, codes}
use Rattle.std.specs.Char.{is_digit}
use Rattle.std.specs.List.{list_all}
use Rattle.px_bytes.specs.White.{is_space}
use Rattle.tcl_words.specs.Places.{stands}
use Rattle.tcl_expr.specs.Blanks.{OutOf, OutOfWords}
use Rattle.tcl_expr.specs.Tokens.{white_end, reads_word, meant, first_word, before_row, inside_row}
use Rattle.tcl_expr.specs.Tokens.{digit_stands}
use Rattle.tcl_expr.proofs.Put.{Put, move, move_front, move_behind, side}
use Rattle.tcl_expr.proofs.Insertions.{stands_same}
use Rattle.tcl_expr.proofs.Insertions.{white_before, white_behind}

-- ---- words

empty_stands : (at c : ℕ) → stands [] at c ≡ false
unfolding stands
empty_stands at c = grind (arith, nat_tests)

below_next : (a b : ℕ) → nat_lt (suc a) (suc b) ≡ nat_lt a b
below_next a b = by_test (nat_lt a b) refl where
  by_test : (t : Bool) → nat_lt a b ≡ t → nat_lt (suc a) (suc b) ≡ t
  by_test true e = grind (arith, nat_tests)
  by_test false e = grind (arith, nat_tests)

stands_next : (t : ℕ) (text : List ℕ) (at c : ℕ) → stands (t ∷ text) (suc at) c ≡ stands text at c
unfolding stands
stands_next t text at c = ap (λ x. x && (slice_index text at == c)) (below_next at (length text))

reads_next : (text : List ℕ) (at c : ℕ) (word : List ℕ) → reads_word text at (c ∷ word) ≡ (stands text at c && reads_word text (at + 1) word)
unfolding reads_word stands
reads_next [] zero c word = refl
reads_next [] (suc at) c word = sym (ap (λ t. t && reads_word [] (suc at + 1) word) (empty_stands (suc at) c))
reads_next (t ∷ text) zero c word = grind (arith, nat_tests)
reads_next (t ∷ text) (suc at) c word =
    let e : suc at + 1 ≡ suc (at + 1) = omega arith in
    reads_next text at c word
    ∙ sym (ap₂ (λ x y. x && y) (stands_next t text at c) (ap (λ i. reads_word (t ∷ text) i word) e))

-- a word of operators has no white space and no backslash
abbrev pub plain : List ℕ → Bool
plain word = list_all (λ c. not (is_space c || (c == 92))) word

abbrev all_plain : {A : Type 0} → List (List ℕ × Option A) → Bool
all_plain [] = true
all_plain (w ∷ ws) = plain w.0 && all_plain ws

pub both_true : (a b : Bool) → (a && b) ≡ true → (a ≡ true) × (b ≡ true)
both_true true b h = (refl, h)
both_true false b h = cc

either : {A : Type 0} (b : Bool) (x y : List (List ℕ × Option A)) → all_plain x ≡ true → all_plain y ≡ true → all_plain (cond b x y) ≡ true
either true x y p q = p
either false x y p q = q

pub before_plain : (k : ℕ) → all_plain (before_row k) ≡ true
before_plain k = either (k == 1) _ _ refl (either (k == 11) _ _ refl refl)

pub inside_plain : (k : ℕ) → all_plain (inside_row k) ≡ true
inside_plain k =
    either (k == 2) _ _ refl (either (k == 3) _ _ refl (either (k == 4) _ _ refl (either (k == 5) _ _ refl (either (k == 6) _ _ refl (either (k == 7) _ _ refl (either (k == 8) _ _ refl (either (k == 9) _ _ refl (either (k == 10) _ _ refl (either (k == 12) _ _ refl (either (k == 13) _ _ refl refl))))))))))

-- the first of two answers that move alike
moved_meaning : {A : Type 0} (m : Option A) (n end : ℕ) (a : A) (last : ℕ) → meant m end ≡ Some (a, last) → meant m (n + end) ≡ Some (a, n + last)
moved_meaning None n end a last h = cc
moved_meaning (Some b) n end a last h = let p : (b, end) ≡ (a, last) = cc in ap (λ (q : _ × ℕ). Some (q.0, n + q.1)) p

no_meaning : {A : Type 0} (m : Option A) (n end : ℕ) → meant m end ≡ None → meant m (n + end) ≡ None
no_meaning None n end h = refl
no_meaning (Some b) n end h = cc

meant_end : {A : Type 0} (m : Option A) (at end : ℕ) (a : A) → meant m end ≡ Some (a, at) → at ≡ end
meant_end None at end a h = cc
meant_end (Some b) at end a h = let p : (b, end) ≡ (a, at) = cc in sym (ap (λ (q : _ × ℕ). q.1) p)

-- the word that was found isn't parted by the place
found_out : {A : Type 0} (b : ℕ) (text : List ℕ) (at : ℕ) (ws : List (List ℕ × Option A)) (a : A) (last : ℕ) → OutOfWords b text at ws → first_word ws text at ≡ Some (a, last) → OutOf b at last
found_out b text at [] a last out e = cc
found_out b text at (w ∷ ws) a last out e = by_read (found_out b text at ws a last out.1) (reads_word text at w.0) refl e where
  by_read : (first_word ws text at ≡ Some (a, last) → OutOf b at last) → (t : Bool) → reads_word text at w.0 ≡ t → cond t (meant w.1 (at + length w.0)) (first_word ws text at) ≡ Some (a, last) → OutOf b at last
  by_read again true h q = subst (λ i. OutOf b at i) (sym (meant_end w.1 last (at + length w.0) a q)) (out.0 h)
  by_read again false h q = again q

module _ (b n : ℕ) (text new : List ℕ) (p : Put b n text new) where
  -- what was put in is white space at its first byte
  pub first_white : (is_space (slice_index new b) || (slice_index new b == 92)) ≡ true
  first_white = p.first

  pub put_not : (c : ℕ) → not (is_space c || (c == 92)) ≡ true → stands new b c ≡ false
  unfolding stands
  put_not c h =
      let w = first_white in
      let other : (slice_index new b == c) ≡ false = grind (arith, nat_tests) in
      grind arith

  pub put_no_digit : (radix : ℕ) → radix ≤ 36 → digit_stands radix new b ≡ false
  unfolding digit_stands
  put_no_digit radix h =
      let w = first_white in
      let other : is_digit (slice_index new b) radix ≡ false = grind (arith, nat_tests) in
      grind arith

  pub reads_same : (word : List ℕ) (at : ℕ) → at + length word ≤ b → reads_word new at word ≡ reads_word text at word
  unfolding reads_word
  reads_same [] at h = refl
  reads_same (c ∷ word) at h =
      reads_next new at c word
      ∙ ap₂ (λ x y. x && y) (stands_same b n text new p at c (omega (arith, h))) (reads_same word (at + 1) (omega (arith, h)))
      ∙ sym (reads_next text at c word)

  pub reads_parted : (word : List ℕ) (at : ℕ) → at ≤ b → b < at + length word → plain word ≡ true → reads_word new at word ≡ false
  reads_parted [] at h l q = absurd (omega (arith, h, l))
  reads_parted (c ∷ word) at h l q =
      let k = both_true (not (is_space c || (c == 92))) (plain word) q in
      reads_next new at c word ∙ by_side (λ s. reads_parted word (at + 1) (omega (arith, s)) (omega (arith, l)) k.1) (side b at) k.0 where
        by_side : (at < b → reads_word new (at + 1) word ≡ false) → (at < b) ⊎ (b ≤ at) → not (is_space c || (c == 92)) ≡ true → (stands new at c && reads_word new (at + 1) word) ≡ false
        by_side again (inl s) u = let r = again s in grind arith
        by_side again (inr s) u =
            let e : at ≡ b = omega (arith, h, s) in
            let r : stands new at c ≡ false = ap (λ i. stands new i c) e ∙ put_not c u in
            ap (λ t. t && reads_word new (at + 1) word) r

  pub reads_moved : (word : List ℕ) (at : ℕ) → b ≤ at → reads_word new (n + at) word ≡ reads_word text at word
  unfolding reads_word
  reads_moved word at h = ap (λ xs. Rattle.std.specs.List.starts_with Rattle.std.specs.Prelude.nat_eq xs word) (p.later at h)

  -- a word that the place doesn't part
  reads_whole : (word : List ℕ) (at : ℕ) → at < b → plain word ≡ true → (reads_word text at word ≡ true → OutOf b at (at + length word)) → reads_word new at word ≡ reads_word text at word
  reads_whole word at h q out = by_side (side b (at + length word)) where
    parted : b < at + length word → (t : Bool) → reads_word text at word ≡ t → reads_word new at word ≡ t
    parted l false e = reads_parted word at (omega (arith, h)) l q
    parted l true e = by_out (out e) where
      by_out : OutOf b at (at + length word) → reads_word new at word ≡ true
      by_out (inl i) = absurd (omega (arith, l, i))
      by_out (inr i) = absurd (omega (arith, h, i))

    at_end : b ≤ at + length word → (b < at + length word) ⊎ (at + length word ≤ b)
    at_end s = flip (side (at + length word) b) where
      flip : (b < at + length word) ⊎ (at + length word ≤ b) → (b < at + length word) ⊎ (at + length word ≤ b)
      flip x = x

    by_other : (b < at + length word) ⊎ (at + length word ≤ b) → reads_word new at word ≡ reads_word text at word
    by_other (inl l) = parted l (reads_word text at word) refl
    by_other (inr l) = reads_same word at l

    by_side : (at + length word < b) ⊎ (b ≤ at + length word) → reads_word new at word ≡ reads_word text at word
    by_side (inl l) = reads_same word at (omega (arith, l))
    by_side (inr l) = by_other (at_end l)

  first_before : {A : Type 0} (ws : List (List ℕ × Option A)) (at : ℕ) → at < b → all_plain ws ≡ true → OutOfWords b text at ws → first_word ws new at ≡ first_word ws text at
  first_before [] at h q out = refl
  first_before (w ∷ ws) at h q out =
      let k = both_true (plain w.0) (all_plain ws) q in
      ap₂ (λ t r. cond t (meant w.1 (at + length w.0)) r) (reads_whole w.0 at h k.0 out.0) (first_before ws at h k.1 out.1)

  first_behind : {A : Type 0} (ws : List (List ℕ × Option A)) (at : ℕ) (a : A) (last : ℕ) → b ≤ at → first_word ws text at ≡ Some (a, last) → first_word ws new (n + at) ≡ Some (a, n + last)
  first_behind [] at a last h e = cc
  first_behind (w ∷ ws) at a last h e =
      ap (λ t. cond t (meant w.1 (n + at + length w.0)) (first_word ws new (n + at))) (reads_moved w.0 at h)
      ∙ by_read (first_behind ws at a last h) (reads_word text at w.0) e where
        by_read : (first_word ws text at ≡ Some (a, last) → first_word ws new (n + at) ≡ Some (a, n + last)) → (t : Bool) → cond t (meant w.1 (at + length w.0)) (first_word ws text at) ≡ Some (a, last) → cond t (meant w.1 (n + at + length w.0)) (first_word ws new (n + at)) ≡ Some (a, n + last)
        by_read again true q =
            let same : n + at + length w.0 ≡ n + (at + length w.0) = omega arith in
            ap (meant w.1) same ∙ moved_meaning w.1 n (at + length w.0) a last q
        by_read again false q = again q

  none_behind : {A : Type 0} (ws : List (List ℕ × Option A)) (at : ℕ) → b ≤ at → first_word ws text at ≡ None → first_word ws new (n + at) ≡ None
  none_behind [] at h e = refl
  none_behind (w ∷ ws) at h e =
      ap (λ t. cond t (meant w.1 (n + at + length w.0)) (first_word ws new (n + at))) (reads_moved w.0 at h)
      ∙ by_read (none_behind ws at h) (reads_word text at w.0) e where
        by_read : (first_word ws text at ≡ None → first_word ws new (n + at) ≡ None) → (t : Bool) → cond t (meant w.1 (at + length w.0)) (first_word ws text at) ≡ None → cond t (meant w.1 (n + at + length w.0)) (first_word ws new (n + at)) ≡ None
        by_read again true q =
            let same : n + at + length w.0 ≡ n + (at + length w.0) = omega arith in
            ap (meant w.1) same ∙ no_meaning w.1 n (at + length w.0) q
        by_read again false q = again q

  -- an operator, and the place of the token behind it
  pub first_goes : {A : Type 0} (ws : List (List ℕ × Option A)) (at : ℕ) (a : A) (last : ℕ) → at < last → all_plain ws ≡ true → OutOfWords b text at ws → first_word ws text at ≡ Some (a, last)
      → (next : ℕ) × (first_word ws new (move b n at) ≡ Some (a, next)) × (white_end new next ≡ move b n (white_end text last))
  first_goes ws at a last on q out e = by_side (side b at) (found_out b text at ws a last out e) where
    by_side : (at < b) ⊎ (b ≤ at) → OutOf b at last → (next : ℕ) × (first_word ws new (move b n at) ≡ Some (a, next)) × (white_end new next ≡ move b n (white_end text last))
    by_side (inl h) (inl l) = (last, ap (first_word ws new) (move_front b n at h) ∙ first_before ws at h q out ∙ e, white_before b n text new p last l)
    by_side (inl h) (inr l) = absurd (omega (arith, h, l))
    by_side (inr h) o = (n + last, ap (first_word ws new) (move_behind b n at h) ∙ first_behind ws at a last h e, white_behind b n text new p last (omega (arith, h, on)))

  pub none_goes : {A : Type 0} (ws : List (List ℕ × Option A)) (at : ℕ) → all_plain ws ≡ true → OutOfWords b text at ws → first_word ws text at ≡ None → first_word ws new (move b n at) ≡ None
  none_goes ws at q out e = by_side (side b at) where
    by_side : (at < b) ⊎ (b ≤ at) → first_word ws new (move b n at) ≡ None
    by_side (inl h) = ap (first_word ws new) (move_front b n at h) ∙ first_before ws at h q out ∙ e
    by_side (inr h) = ap (first_word ws new) (move_behind b n at h) ∙ none_behind ws at h e
