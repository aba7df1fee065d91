-- Escapes, plain bytes and braces in a stretch of a text that stands in another text too.
use Rattle.std.proofs.Common.{◌≡◌, refl, sym, ap, ap₂, subst, ◌∙◌, ℕ, zero, suc, ◌+◌, ◌%◌, ◌<◌, ◌≤◌}
use Rattle.std.proofs.Common.{List, [], ◌∷◌, ◌++◌, length, Bool, true, false, cond, nat_lt, arith}
use Rattle.std.specs.Prelude.{◌&&◌, ◌||◌, ◌==◌, nat_le, slice_index}
use Rattle.tcl_words.specs.Escapes.{digit, is_digit, with_digit, digits, letter, after_backslash, escape, unit}
use Rattle.tcl_words.specs.Grammar.{SpellsRun, SpellsBraces}
use Rattle.tcl_words.specs.Skips.{spaces_end}
use Rattle.tcl_words.specs.Values.{brace_bytes, brace_unit_end, inner_after, ends_braces}
use Rattle.tcl_words.specs.declared.places.Closer.{Closer}
use Rattle.tcl_words.proofs.Further.{braces_on}
use Rattle.tcl_words.proofs.Onward.{unit_on, brace_unit_on}
use Rattle.tcl_expr.proofs.Carried.{Carried, Closing, digits_on}
use Rattle.tcl_expr.proofs.CarriedTests.{below, below_next, over, index, index_next, st, st_next, pair, run_ends, spaces_at}

abbrev later : ℕ → ℕ × ℕ → ℕ × ℕ
later d r = (r.0, d + r.1)

-- a choice that is made alike, of what is alike where it is chosen
choose : (d close : ℕ) (t u : Bool) (p q x y : ℕ × ℕ) → t ≡ u → (x.1 ≤ close → p ≡ later d x) → (y.1 ≤ close → q ≡ later d y) → (cond u x y).1 ≤ close → cond t p q ≡ later d (cond u x y)
choose d close t true p q x y same f g h = ap (λ a. cond a p q) same ∙ f h
choose d close t false p q x y same f g h = ap (λ a. cond a p q) same ∙ g h

choose_place : (d close : ℕ) (t u : Bool) (p q x y : ℕ) → t ≡ u → (x ≤ close → p ≡ d + x) → (y ≤ close → q ≡ d + y) → cond u x y ≤ close → cond t p q ≡ d + cond u x y
choose_place d close t true p q x y same f g h = ap (λ a. cond a p q) same ∙ f h
choose_place d close t false p q x y same f g h = ap (λ a. cond a p q) same ∙ g h

cond_same : {A : Type 0} (t u : Bool) (p q x y : A) → t ≡ u → p ≡ x → q ≡ y → cond t p q ≡ cond u x y
cond_same t u p q x y same f g = ap (λ a. cond a p q) same ∙ ap₂ (λ a b. cond u a b) f g

pub run_on : (e : Closer) (text : List ℕ) (at : ℕ) (bs : List ℕ) (end : ℕ) → SpellsRun e text at bs end → at ≤ end
run_on e text at [] end is = omega (arith, is.1)
run_on e text at (x ∷ bs) end is =
    let on = unit_on text at in
    let mid = ap (λ (u : ℕ × ℕ). u.1) is.2 in
    let more = run_on e text is.0 bs end is.4 in
    omega (arith, on, mid, more)

module _ (b n d lo hi close : ℕ) (text new : List ℕ) (c : Carried b n d lo hi text new) (g : Closing hi text close) where
  next : (k : ℕ) → d + k + 1 ≡ d + (k + 1)
  next k = omega arith

  digit_here : (base k : ℕ) → lo ≤ k → k ≤ close → is_digit base new (d + k) ≡ is_digit base text k
  unfolding is_digit
  digit_here base k l h = ap₂ (λ u v. u && nat_lt (digit v) base) (below b n d lo hi close text new c g k h) (index b n d lo hi close text new c g k l h)

  digit_next : (base k : ℕ) → lo ≤ k → k < close → is_digit base new (d + k + 1) ≡ is_digit base text (k + 1)
  digit_next base k l h = ap (is_digit base new) (next k) ∙ digit_here base (k + 1) (omega (arith, l)) (omega (arith, h))

  digits_some : (base m k number : ℕ) → lo ≤ k → (digits base text m k number).1 ≤ close → digits base new m (d + k) number ≡ later d (digits base text m k number)
  unfolding digits
  digits_some base zero k number l h = refl
  digits_some base (suc m) k number l h =
      let on = digits_on base text (suc m) k number in
      let here : k ≤ close = omega (arith, on, h) in
      choose d close (is_digit base new (d + k)) (is_digit base text k) (digits base new m (d + k + 1) (with_digit base number (slice_index new (d + k)))) (number, d + k)
      (digits base text m (k + 1) (with_digit base number (slice_index text k))) (number, k) (digit_here base k l here)
      (λ r. ap₂ (λ i v. digits base new m i (with_digit base number v)) (next k) (index b n d lo hi close text new c g k l here) ∙ digits_some base m (k + 1) (with_digit base number (slice_index text k)) (omega (arith, l)) r)
      (λ r. refl) h

  digits_all : (base m j k number : ℕ) → lo ≤ k → length text ≤ m + k → length new ≤ j + (d + k) → (digits base text m k number).1 ≤ close → digits base new j (d + k) number ≡ later d (digits base text m k number)
  unfolding digits
  digits_all base zero j k number l x y h = let i = g.inside in let w = c.within in absurd (omega (arith, x, h, i, w))
  digits_all base (suc m) zero k number l x y h =
      let on = digits_on base text (suc m) k number in
      let i = g.inside in let v = c.within_new in absurd (omega (arith, y, on, h, i, v))
  digits_all base (suc m) (suc j) k number l x y h =
      let on = digits_on base text (suc m) k number in
      let here : k ≤ close = omega (arith, on, h) in
      choose d close (is_digit base new (d + k)) (is_digit base text k) (digits base new j (d + k + 1) (with_digit base number (slice_index new (d + k)))) (number, d + k)
      (digits base text m (k + 1) (with_digit base number (slice_index text k))) (number, k) (digit_here base k l here)
      (λ r. ap₂ (λ i v. digits base new j i (with_digit base number v)) (next k) (index b n d lo hi close text new c g k l here) ∙ digits_all base m j (k + 1) (with_digit base number (slice_index text k)) (omega (arith, l)) (omega (arith, x)) (omega (arith, y)) r)
      (λ r. refl) h

  after_at : (k : ℕ) → lo ≤ k → k ≤ close → (after_backslash text k).1 ≤ close → after_backslash new (d + k) ≡ later d (after_backslash text k)
  unfolding after_backslash
  after_at k l h q =
      choose d close _ _ _ _ _ _ (digit_here 8 k l h) (λ r. digits_some 8 3 k 0 l r)
      (λ q. choose d close _ _ _ _ _ _ (pair b n d lo hi close text new c g k 120 l h g.hex _ _ (λ i. digit_next 16 k l i))
      (λ r. ap (λ (v : ℕ × ℕ). (v.0 % 256, v.1)) (ap (λ i. digits 16 new (length new) i 0) (next k) ∙ digits_all 16 (length text) (length new) (k + 1) 0 (omega (arith, l)) (omega arith) (omega arith) r))
      (λ q. choose d close _ _ _ _ _ _ (pair b n d lo hi close text new c g k 117 l h g.code _ _ (λ i. digit_next 16 k l i))
      (λ r. ap (λ i. digits 16 new 4 i 0) (next k) ∙ digits_some 16 4 (k + 1) 0 (omega (arith, l)) r)
      (λ q. choose d close _ _ _ _ _ _ (below b n d lo hi close text new c g k h) (λ r. ap₂ (λ u v. (letter u, v)) (index b n d lo hi close text new c g k l h) (next k)) (λ r. refl) q) q) q) q

  escape_at : (k : ℕ) → lo ≤ k → k < close → (escape text k).1 ≤ close → escape new (d + k) ≡ later d (escape text k)
  unfolding escape
  escape_at k l h q =
      let two : d + k + 2 ≡ d + (k + 2) = omega arith in
      choose d close _ _ _ _ _ _ (st_next b n d lo hi close text new c g k 10 l h)
      (λ r. ap (λ v. (32, v)) (ap (spaces_end new) two ∙ spaces_at b n d lo hi close text new c g (k + 2) (omega (arith, l)) r))
      (λ r. ap (after_backslash new) (next k) ∙ after_at (k + 1) (omega (arith, l)) (omega (arith, h)) r) q

  unit_here : (k : ℕ) → lo ≤ k → k < close → (unit text k).1 ≤ close → unit new (d + k) ≡ later d (unit text k)
  unfolding unit
  unit_here k l h q =
      choose d close _ _ _ _ _ _ (st b n d lo hi close text new c g k 92 l (omega (arith, h))) (λ r. escape_at k l h r)
      (λ r. ap₂ (λ u v. (u, v)) (index b n d lo hi close text new c g k l (omega (arith, h))) (next k)) q

  pub unit_at : (k : ℕ) → lo ≤ k → (unit text k).1 ≤ close → unit new (d + k) ≡ later d (unit text k)
  unit_at k l q = let on = unit_on text k in unit_here k l (omega (arith, on, q)) q

  pub run_at : (e : Closer) (k : ℕ) (bs : List ℕ) (end : ℕ) → lo ≤ k → end ≤ close → SpellsRun e text k bs end → SpellsRun e new (d + k) bs (d + end)
  run_at e k [] end l h is = (run_ends b n d lo hi close text new c g e k l (omega (arith, h, is.1)) ∙ is.0, ap (λ i. d + i) is.1)
  run_at e k (x ∷ bs) end l h is =
      let on = unit_on text k in
      let mid = ap (λ (u : ℕ × ℕ). u.1) is.2 in
      let more = run_on e text is.0 bs end is.4 in
      (d + is.0, run_ends b n d lo hi close text new c g e k l (omega (arith, on, mid, more, h)) ∙ is.1, unit_at k l (omega (arith, mid, more, h)) ∙ ap (later d) is.2, is.3, run_at e is.0 bs end (omega (arith, l, on, mid)) h is.4)

  bytes_at : (k : ℕ) → lo ≤ k → k < close → brace_bytes new (d + k) ≡ brace_bytes text k
  unfolding brace_bytes
  bytes_at k l h =
      cond_same _ _ _ _ _ _ (st b n d lo hi close text new c g k 92 l (omega (arith, h)))
      (cond_same _ _ _ _ _ _ (st_next b n d lo hi close text new c g k 10 l h) refl
      (cond_same _ _ _ _ _ _ (below_next b n d lo hi close text new c g k h) (ap (λ v. 92 ∷ v ∷ []) (index_next b n d lo hi close text new c g k l h)) refl))
      (ap (λ v. v ∷ []) (index b n d lo hi close text new c g k l (omega (arith, h))))

  unit_end_at : (k : ℕ) → lo ≤ k → k < close → brace_unit_end text k ≤ close → brace_unit_end new (d + k) ≡ d + brace_unit_end text k
  unfolding brace_unit_end
  unit_end_at k l h q =
      let two : d + k + 2 ≡ d + (k + 2) = omega arith in
      choose_place d close _ _ _ _ _ _ (st b n d lo hi close text new c g k 92 l (omega (arith, h)))
      (λ q. choose_place d close _ _ _ _ _ _ (st_next b n d lo hi close text new c g k 10 l h)
      (λ r. ap (spaces_end new) two ∙ spaces_at b n d lo hi close text new c g (k + 2) (omega (arith, l)) r)
      (λ q. choose_place d close _ _ _ _ _ _ (below_next b n d lo hi close text new c g k h) (λ r. two) (λ r. next k) q) q)
      (λ r. next k) q

  inner_at : (k inner : ℕ) → lo ≤ k → k ≤ close → inner_after new (d + k) inner ≡ inner_after text k inner
  unfolding inner_after
  inner_at k inner l h =
      cond_same _ _ _ _ _ _ (st b n d lo hi close text new c g k 123 l h) refl (cond_same _ _ _ _ _ _ (st b n d lo hi close text new c g k 125 l h) refl refl)

  ends_at : (k inner : ℕ) → lo ≤ k → k ≤ close → ends_braces new inner (d + k) ≡ ends_braces text inner k
  unfolding ends_braces
  ends_at k inner l h = ap₂ (λ u v. u || v && (inner == 0)) (over b n d lo hi close text new c g k h) (st b n d lo hi close text new c g k 125 l h)

  pub braces_at : (m room inner k : ℕ) (bytes : List ℕ) (end : ℕ) → lo ≤ k → end ≤ close → SpellsBraces m room text inner k bytes end → SpellsBraces m room new inner (d + k) bytes (d + end)
  braces_at zero room inner k bytes end l h is = (ends_at k inner l (omega (arith, h, is.2)) ∙ is.0, is.1, ap (λ i. d + i) is.2)
  braces_at (suc m) room inner k bytes end l h is =
      let on = brace_unit_on text k in
      let more = braces_on m room text (inner_after text k inner) (brace_unit_end text k) is.0 end is.4 in
      let here : k < close = omega (arith, on, more, h) in
      let rest = braces_at m room (inner_after text k inner) (brace_unit_end text k) is.0 end (omega (arith, l, on)) h is.4 in (
        is.0,
        ends_at k inner l (omega (arith, here)) ∙ is.1,
        ap (λ t. t && nat_le room inner) (st b n d lo hi close text new c g k 123 l (omega (arith, here))) ∙ is.2,
        is.3 ∙ ap (λ xs. xs ++ is.0) (sym (bytes_at k l here)),
        subst (λ i. SpellsBraces m room new i (brace_unit_end new (d + k)) is.0 (d + end)) (sym (inner_at k inner l (omega (arith, here))))
            (subst (λ i. SpellsBraces m room new (inner_after text k inner) i is.0 (d + end)) (sym (unit_end_at k l here (omega (arith, more, h)))) rest),
      )
