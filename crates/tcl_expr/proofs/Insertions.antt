-- A text, and the same with white space put in at a place: what stands before it and behind.
use Rattle.std.proofs.Common.{◌≡◌, ◌⊎◌, inl, inr, refl, sym, ap, ap₂, subst, ◌∙◌, ℕ, zero, suc, ◌+◌, ◌-◌, ◌<◌, ◌≤◌}
use Rattle.std.proofs.Common.{List, length, Bool, true, false, cond, nat_lt, arith}
use Rattle.std.specs.Prelude.{◌&&◌, ◌||◌, ◌==◌, slice_index}
use Rattle.px_bytes.specs.White.{is_space}
use Rattle.tcl_words.specs.Places.{stands, skips_newline, after_blank}
use Rattle.tcl_words.specs.Skips.{skip, turns}
use Rattle.tcl_words.proofs.Onward.{after_blank_on, skip_onward}
use Rattle.tcl_words.proofs.Runs.{skip_stop, skip_more}
use Rattle.tcl_expr.specs.Tokens.{white_stands, white_end}
use Rattle.tcl_expr.proofs.Places.{white_within}
use Rattle.tcl_expr.proofs.Put.{Put, below_moved, is_below, move, move_behind, move_front, none, side}

-- ---- skipping

-- what is skipped at a place is skipped as far on
pub skip_later : (t u : ℕ → Bool) (r s : ℕ → ℕ) (n b bound : ℕ) → ((k : ℕ) → b ≤ k → u (n + k) ≡ t k)
    → ((k : ℕ) → b ≤ k → s (n + k) ≡ n + r k) → ((k : ℕ) → k < r k) → ((k : ℕ) → t k ≡ true → k < bound)
    → (m l k : ℕ) → b ≤ k → bound < m + k → bound < l + k → skip u s l (n + k) ≡ n + skip t r m k
skip_later t u r s n b bound tests steps on within zero l k h x y = by_test (t k) refl where
  by_test : (e : Bool) → t k ≡ e → skip u s l (n + k) ≡ n + skip t r zero k
  by_test true e = let w = within k e in absurd (omega (arith, w, x))
  by_test false e = skip_stop u s l (n + k) (tests k h ∙ e) ∙ ap (λ i. n + i) (sym (skip_stop t r zero k e))
skip_later t u r s n b bound tests steps on within (suc m) l k h x y =
    by_test (λ e. let w = within k e in let o = on k in skip_later t u r s n b bound tests steps on within m (l - 1) (r k) (omega (arith, h, o)) (omega (arith, x, o)) (omega (arith, y, o, w))) (t k) refl where
      by_test : (t k ≡ true → skip u s (l - 1) (n + r k) ≡ n + skip t r m (r k)) → (e : Bool) → t k ≡ e → skip u s l (n + k) ≡ n + skip t r (suc m) k
      by_test again true e =
          let w = within k e in
          let less : suc m - 1 ≡ m = omega arith in
          skip_more u s l (n + k) (omega (arith, w, y)) (tests k h ∙ e)
          ∙ ap (skip u s (l - 1)) (steps k h)
          ∙ again e
          ∙ ap (λ i. n + i) (sym (skip_more t r (suc m) k (omega arith) e ∙ ap (λ i. skip t r i (r k)) less))
      by_test again false e = skip_stop u s l (n + k) (tests k h ∙ e) ∙ ap (λ i. n + i) (sym (skip_stop t r (suc m) k e))

module _ (b n : ℕ) (text new : List ℕ) (p : Put b n text new) where
  below_same : (k : ℕ) → k < b → nat_lt k (length new) ≡ nat_lt k (length text)
  below_same k h =
      let w = p.within in
      let s = p.size in
      is_below k (length new) (omega (arith, h, w, s)) ∙ sym (is_below k (length text) (omega (arith, h, w)))

  -- a test of the byte at a place
  pub test_same : (test : ℕ → Bool) (k : ℕ) → k < b → (nat_lt k (length new) && test (slice_index new k)) ≡ (nat_lt k (length text) && test (slice_index text k))
  test_same test k h = ap₂ (λ x y. x && test y) (below_same k h) (p.same k h)

  pub test_moved : (test : ℕ → Bool) (k : ℕ) → b ≤ k → (nat_lt (n + k) (length new) && test (slice_index new (n + k))) ≡ (nat_lt k (length text) && test (slice_index text k))
  test_moved test k h = ap₂ (λ x y. x && test y) (below_moved n k (length text) (length new) p.size) (p.moved k h)

  pub stands_same : (k c : ℕ) → k < b → stands new k c ≡ stands text k c
  unfolding stands
  stands_same k c h = test_same (λ x. x == c) k h

  pub stands_moved : (k c : ℕ) → b ≤ k → stands new (n + k) c ≡ stands text k c
  unfolding stands
  stands_moved k c h = test_moved (λ x. x == c) k h

  pub stands_goes : (k c : ℕ) → stands new (move b n k) c ≡ stands text k c
  stands_goes k c = by_side (side b k) where
    by_side : (k < b) ⊎ (b ≤ k) → stands new (move b n k) c ≡ stands text k c
    by_side (inl h) = ap (λ i. stands new i c) (move_front b n k h) ∙ stands_same k c h
    by_side (inr h) = ap (λ i. stands new i c) (move_behind b n k h) ∙ stands_moved k c h

  skips_same : (k : ℕ) → k < b → skips_newline new k ≡ skips_newline text k
  unfolding skips_newline
  skips_same k h = by_side (side b (k + 1)) where
    by_side : (k + 1 < b) ⊎ (b ≤ k + 1) → (stands new k 92 && stands new (k + 1) 10) ≡ (stands text k 92 && stands text (k + 1) 10)
    by_side (inl l) = ap₂ (λ x y. x && y) (stands_same k 92 h) (stands_same (k + 1) 10 l)
    by_side (inr l) =
        let u = p.unescaped k (omega (arith, h, l)) in
        none (stands new k 92) (stands new (k + 1) 10) (stands_same k 92 h ∙ u) ∙ sym (none (stands text k 92) (stands text (k + 1) 10) u)

  skips_moved : (k : ℕ) → b ≤ k → skips_newline new (n + k) ≡ skips_newline text k
  unfolding skips_newline
  skips_moved k h =
      let e : n + k + 1 ≡ n + (k + 1) = omega arith in
      ap₂ (λ x y. x && y) (stands_moved k 92 h) (ap (λ i. stands new i 10) e ∙ stands_moved (k + 1) 10 (omega (arith, h)))

  white_same : (k : ℕ) → k < b → white_stands new k ≡ white_stands text k
  unfolding white_stands
  white_same k h = ap₂ (λ x y. x || y) (test_same is_space k h) (skips_same k h)

  white_moved : (k : ℕ) → b ≤ k → white_stands new (n + k) ≡ white_stands text k
  unfolding white_stands
  white_moved k h = ap₂ (λ x y. x || y) (test_moved is_space k h) (skips_moved k h)

  step_same : (k : ℕ) → k < b → after_blank new k ≡ after_blank text k
  unfolding after_blank
  step_same k h = ap (λ t. cond t (k + 2) (k + 1)) (skips_same k h)

  added : (t : Bool) (k : ℕ) → cond t (n + k + 2) (n + k + 1) ≡ n + cond t (k + 2) (k + 1)
  added true k = omega arith
  added false k = omega arith

  step_moved : (k : ℕ) → b ≤ k → after_blank new (n + k) ≡ n + after_blank text k
  unfolding after_blank
  step_moved k h = ap (λ t. cond t (n + k + 2) (n + k + 1)) (skips_moved k h) ∙ added (skips_newline text k) k

  step_within : (k : ℕ) → k < b → after_blank text k ≤ b
  unfolding after_blank skips_newline
  step_within k h = by_side (side b (k + 1)) where
    two : (t : Bool) → k + 1 < b → cond t (k + 2) (k + 1) ≤ b
    two true l = omega (arith, l)
    two false l = omega (arith, l)

    by_side : (k + 1 < b) ⊎ (b ≤ k + 1) → cond (stands text k 92 && stands text (k + 1) 10) (k + 2) (k + 1) ≤ b
    by_side (inl l) = two (stands text k 92 && stands text (k + 1) 10) l
    by_side (inr l) =
        let no = none (stands text k 92) (stands text (k + 1) 10) (p.unescaped k (omega (arith, h, l))) in
        subst (λ t. cond t (k + 2) (k + 1) ≤ b) (sym no) (omega (arith, h))

  white_later : (m l k : ℕ) → b ≤ k → length text < m + k → length text < l + k → skip (white_stands new) (after_blank new) l (n + k) ≡ move b n (skip (white_stands text) (after_blank text) m k)
  white_later m l k h x y =
      let on = skip_onward (white_stands text) (after_blank text) (λ i. let o = after_blank_on text i in omega (arith, o)) m k in
      skip_later (white_stands text) (white_stands new) (after_blank text) (after_blank new) n b (length text) white_moved step_moved (after_blank_on text) (white_within text) m l k h x y
      ∙ sym (move_behind b n (skip (white_stands text) (after_blank text) m k) (omega (arith, h, on)))

  white_at_place : (m l k : ℕ) → k ≡ b → length text < m + k → length new < l + k → skip (white_stands new) (after_blank new) l k ≡ move b n (skip (white_stands text) (after_blank text) m k)
  white_at_place m l k e x y =
      let z = p.size in
      let r = p.passes l (omega (arith, y, e)) in
      let q = r.1 in
      ap (skip (white_stands new) (after_blank new) l) e ∙ r.2
      ∙ ap (λ i. skip (white_stands new) (after_blank new) r.0 (n + i)) (sym e)
      ∙ white_later m r.0 k (omega (arith, e)) x (omega (arith, q, z, e))

  white_front : (m l k : ℕ) → k ≤ b → length text < m + k → length new < l + k → skip (white_stands new) (after_blank new) l k ≡ move b n (skip (white_stands text) (after_blank text) m k)
  white_front zero l k h x y = let inside = p.within in absurd (omega (arith, h, x, inside))
  white_front (suc m) l k h x y =
      by_side (λ q. let inside = p.within in let z = p.size in let o = after_blank_on text k in white_front m (l - 1) (after_blank text k) (step_within k q) (omega (arith, x, o)) (omega (arith, y, o, q, inside, z))) (side b k) where
        stops : (k < b → skip (white_stands new) (after_blank new) (l - 1) (after_blank text k) ≡ move b n (skip (white_stands text) (after_blank text) m (after_blank text k))) → k < b → (t : Bool) → white_stands text k ≡ t → skip (white_stands new) (after_blank new) l k ≡ move b n (skip (white_stands text) (after_blank text) (suc m) k)
        stops again q true e =
            let inside = p.within in
            let z = p.size in
            let less : suc m - 1 ≡ m = omega arith in
            skip_more (white_stands new) (after_blank new) l k (omega (arith, q, y, inside, z)) (white_same k q ∙ e)
            ∙ ap (skip (white_stands new) (after_blank new) (l - 1)) (step_same k q)
            ∙ again q
            ∙ ap (move b n) (sym (skip_more (white_stands text) (after_blank text) (suc m) k (omega arith) e ∙ ap (λ i. skip (white_stands text) (after_blank text) i (after_blank text k)) less))
        stops again q false e =
            skip_stop (white_stands new) (after_blank new) l k (white_same k q ∙ e)
            ∙ sym (ap (move b n) (skip_stop (white_stands text) (after_blank text) (suc m) k e) ∙ move_front b n k q)

        by_side : (k < b → skip (white_stands new) (after_blank new) (l - 1) (after_blank text k) ≡ move b n (skip (white_stands text) (after_blank text) m (after_blank text k))) → (k < b) ⊎ (b ≤ k) → skip (white_stands new) (after_blank new) l k ≡ move b n (skip (white_stands text) (after_blank text) (suc m) k)
        by_side again (inl q) = stops again q (white_stands text k) refl
        by_side again (inr q) = white_at_place (suc m) l k (omega (arith, h, q)) x y

  -- the next token's place behind what ends before the place, and behind it
  pub white_before : (k : ℕ) → k ≤ b → white_end new k ≡ move b n (white_end text k)
  unfolding white_end
  white_before k h = white_front (turns text) (turns new) k h (omega arith) (omega arith)

  pub white_behind : (k : ℕ) → b ≤ k → white_end new (n + k) ≡ move b n (white_end text k)
  unfolding white_end
  white_behind k h = let s = p.size in white_later (turns text) (turns new) k h (omega arith) (omega (arith, s))

  -- behind a token of one byte
  pub white_after : (k : ℕ) → white_end new (move b n k + 1) ≡ move b n (white_end text (k + 1))
  white_after k = by_side (side b k) where
    by_side : (k < b) ⊎ (b ≤ k) → white_end new (move b n k + 1) ≡ move b n (white_end text (k + 1))
    by_side (inl h) = ap (λ i. white_end new (i + 1)) (move_front b n k h) ∙ white_before (k + 1) (omega (arith, h))
    by_side (inr h) =
        let e : n + k + 1 ≡ n + (k + 1) = omega arith in
        ap (λ i. white_end new (i + 1)) (move_behind b n k h) ∙ ap (white_end new) e ∙ white_behind (k + 1) (omega (arith, h))
