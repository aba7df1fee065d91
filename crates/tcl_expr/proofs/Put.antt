-- A text with white space put in at a place, and what of it stays or is moved on.
use Rattle.std.proofs.Common.{◌≡◌, ◌⊎◌, inl, inr, refl, sym, ap, ap₂, ◌∙◌, ℕ, zero, suc, ◌+◌, ◌-◌, ◌<◌, ◌≤◌}
use Rattle.std.proofs.Common.{List, [], ◌∷◌, ◌++◌, length, take, drop, Bool, true, false, cond, get_or, nat_lt, arith}
use Rattle.std.proofs.lemmas.Bool.Decides.{nat_tests}
use Rattle.std.proofs.lemmas.List.{get_or-append-add, get_or_append_left, get_or-append_right, drop-append-le, take-append-le, length-append, length-drop}
use Rattle.std.specs.Prelude.{◌&&◌, ◌||◌, ◌==◌, slice_index, slice_range}
use Rattle.px_bytes.specs.White.{is_space}
use Rattle.tcl_words.specs.Places.{stands, skips_newline, after_blank}
use Rattle.tcl_words.specs.Skips.{skip, turns}
use Rattle.tcl_words.proofs.Onward.{after_blank_on}
use Rattle.tcl_words.proofs.Runs.{stands_within, skip_stop, skip_more}
use Rattle.tcl_expr.specs.Tokens.{white_stands, white_end}
use Rattle.tcl_expr.proofs.Carried.{skip_none}
use Rattle.tcl_expr.proofs.Places.{white_within}

-- n bytes of white space stand in the new text at the place
pub record Put (b n : ℕ) (text new : List ℕ) : Type 0 where
  pub within : b ≤ length text
  pub size : length new ≡ n + length text
  pub some : 0 < n
  pub same : (k : ℕ) → k < b → slice_index new k ≡ slice_index text k
  pub moved : (k : ℕ) → b ≤ k → slice_index new (n + k) ≡ slice_index text k
  pub later : (k : ℕ) → b ≤ k → drop (n + k) new ≡ drop k text
  pub cut : (i j : ℕ) → i ≤ j → j ≤ b → slice_range new i j ≡ slice_range text i j
  pub first : (is_space (slice_index new b) || (slice_index new b == 92)) ≡ true
  pub passes : (m : ℕ) → length new < m + b
      → (l : ℕ) × (length new < l + (n + b)) × (skip (white_stands new) (after_blank new) m b ≡ skip (white_stands new) (after_blank new) l (n + b))
  pub unescaped : (k : ℕ) → suc k ≡ b → stands text k 92 ≡ false

-- ---- lists

pub drop_far : (xs ys : List ℕ) (k : ℕ) → length xs ≤ k → drop k (xs ++ ys) ≡ drop (k - length xs) ys
drop_far [] ys k h = let e : k ≡ k - 0 = omega arith in ap (λ m. drop m ys) e
drop_far (x ∷ xs) ys zero h = absurd (omega (arith, h))
drop_far (x ∷ xs) ys (suc k) h =
    let e : k - length xs ≡ suc k - suc (length xs) = omega arith in
    drop_far xs ys k (omega (arith, h)) ∙ ap (λ m. drop m ys) e

pub both_true : (a b : Bool) → (a && b) ≡ true → (a ≡ true) × (b ≡ true)
both_true true b h = (refl, h)
both_true false b h = cc

is_under : (a b : ℕ) → a < b → nat_lt a b ≡ true
is_under a b h = grind (arith, nat_tests)

either_true : (s t : Bool) → t ≡ true → (s || t) ≡ true
either_true true t h = refl
either_true false t h = h

pub cut_front : (xs ys : List ℕ) (i j : ℕ) → i ≤ j → j ≤ length xs → slice_range (xs ++ ys) i j ≡ slice_range xs i j
cut_front xs ys i j h k =
    let l : length (drop i xs) ≡ length xs - i = length-drop i xs in
    ap (take (j - i)) (drop-append-le i xs ys (omega (arith, h, k))) ∙ take-append-le (j - i) (drop i xs) ys (omega (arith, h, k, l))

-- ---- white space

pick : (a s q x : Bool) → (a && s || a && q && x) ≡ true → (s || q) ≡ true
pick a true q x h = refl
pick a false true x h = refl
pick true false false x h = cc
pick false false false x h = cc

white_skipped : (blanks : List ℕ) → white_end blanks 0 ≡ length blanks → skip (white_stands blanks) (after_blank blanks) (turns blanks) 0 ≡ length blanks
unfolding white_end
white_skipped blanks h = h

white_byte : (blanks : List ℕ) → white_stands blanks 0 ≡ true → (is_space (slice_index blanks 0) || (slice_index blanks 0 == 92)) ≡ true
unfolding white_stands skips_newline stands
white_byte blanks h = pick (nat_lt 0 (length blanks)) (is_space (slice_index blanks 0)) (slice_index blanks 0 == 92) _ h

white_first : (blanks : List ℕ) → white_end blanks 0 ≡ length blanks → 0 < length blanks → (is_space (slice_index blanks 0) || (slice_index blanks 0 == 92)) ≡ true
white_first blanks h some = by_test (white_stands blanks 0) refl where
  by_test : (t : Bool) → white_stands blanks 0 ≡ t → (is_space (slice_index blanks 0) || (slice_index blanks 0 == 92)) ≡ true
  by_test true e = white_byte blanks e
  by_test false e =
      let stop = skip_stop (white_stands blanks) (after_blank blanks) (turns blanks) 0 e in
      let all = white_skipped blanks h in
      absurd (omega (arith, stop, all, some))

module _ (blanks new : List ℕ) (b : ℕ) (here : (k : ℕ) → k < length blanks → slice_index new (b + k) ≡ slice_index blanks k) (fits : b + length blanks ≤ length new) where
  under : (k : ℕ) → k < length blanks → nat_lt (b + k) (length new) ≡ nat_lt k (length blanks)
  under k h = is_under (b + k) (length new) (omega (arith, h, fits)) ∙ sym (is_under k (length blanks) h)

  byte_here : (k x : ℕ) → k < length blanks → stands new (b + k) x ≡ stands blanks k x
  unfolding stands
  byte_here k x h = ap₂ (λ u v. u && (v == x)) (under k h) (here k h)

  -- a backslash-newline, or another byte of white space
  newline_here : (k : ℕ) → skips_newline blanks k ≡ true → skips_newline new (b + k) ≡ true
  unfolding skips_newline
  newline_here k h =
      let each = both_true (stands blanks k 92) (stands blanks (k + 1) 10) h in
      let w = stands_within blanks (k + 1) 10 each.1 in
      let next : b + k + 1 ≡ b + (k + 1) = omega arith in
      ap₂ (λ u v. u && v) (byte_here k 92 (omega (arith, w)) ∙ each.0) (ap (λ i. stands new i 10) next ∙ byte_here (k + 1) 10 w ∙ each.1)

  space_here : (k : ℕ) → skips_newline blanks k ≡ false → white_stands blanks k ≡ true → (white_stands new (b + k) ≡ true) × (skips_newline new (b + k) ≡ false)
  unfolding white_stands skips_newline stands
  space_here k q h =
      let space : (nat_lt k (length blanks) && is_space (slice_index blanks k)) ≡ true = grind arith in
      let each = both_true (nat_lt k (length blanks)) (is_space (slice_index blanks k)) space in
      let w : k < length blanks = grind (arith, nat_tests) in
      let inside : nat_lt (b + k) (length new) ≡ true = under k w ∙ each.0 in
      let same = here k w in
      let byte : is_space (slice_index new (b + k)) ≡ true = ap is_space same ∙ each.1 in
      let other : (slice_index new (b + k) == 92) ≡ false = grind (arith, nat_tests) in
      (grind arith, grind arith)

  white_here : (k : ℕ) → white_stands blanks k ≡ true → (white_stands new (b + k) ≡ true) × (after_blank new (b + k) ≡ b + after_blank blanks k)
  unfolding white_stands after_blank
  white_here k h = by_newline (skips_newline blanks k) refl where
    by_newline : (t : Bool) → skips_newline blanks k ≡ t → (white_stands new (b + k) ≡ true) × (after_blank new (b + k) ≡ b + after_blank blanks k)
    by_newline true e =
        let two : b + k + 2 ≡ b + (k + 2) = omega arith in (
          either_true (nat_lt (b + k) (length new) && is_space (slice_index new (b + k))) (skips_newline new (b + k)) (newline_here k e),
          ap (λ t. cond t (b + k + 2) (b + k + 1)) (newline_here k e) ∙ two ∙ sym (ap (λ t. b + cond t (k + 2) (k + 1)) e),
        )
    by_newline false e =
        let one : b + k + 1 ≡ b + (k + 1) = omega arith in
        let s = space_here k e h in
        (s.0, ap (λ t. cond t (b + k + 2) (b + k + 1)) s.1 ∙ one ∙ sym (ap (λ t. b + cond t (k + 2) (k + 1)) e))

  -- from one place of the white space to its end
  pub white_run : (r m k : ℕ) → skip (white_stands blanks) (after_blank blanks) r k ≡ length blanks → length new < m + (b + k)
      → (l : ℕ) × (length new < l + (b + length blanks)) × (skip (white_stands new) (after_blank new) m (b + k) ≡ skip (white_stands new) (after_blank new) l (b + length blanks))
  white_run zero m k e h =
      let same : b + k ≡ b + length blanks = ap (λ i. b + i) (sym (skip_none (white_stands blanks) (after_blank blanks) k) ∙ e) in
      (m, omega (arith, h, same), ap (skip (white_stands new) (after_blank new) m) same)
  white_run (suc r) m k e h = by_test (λ q. let o = after_blank_on blanks k in white_run r (m - 1) (after_blank blanks k) q (omega (arith, h, o))) (white_stands blanks k) refl where
    by_test : (skip (white_stands blanks) (after_blank blanks) r (after_blank blanks k) ≡ length blanks
        → (l : ℕ) × (length new < l + (b + length blanks)) × (skip (white_stands new) (after_blank new) (m - 1) (b + after_blank blanks k) ≡ skip (white_stands new) (after_blank new) l (b + length blanks)))
        → (t : Bool) → white_stands blanks k ≡ t
        → (l : ℕ) × (length new < l + (b + length blanks)) × (skip (white_stands new) (after_blank new) m (b + k) ≡ skip (white_stands new) (after_blank new) l (b + length blanks))
    by_test again false f =
        let same : b + k ≡ b + length blanks = ap (λ i. b + i) (sym (skip_stop (white_stands blanks) (after_blank blanks) (suc r) k f) ∙ e) in
        (m, omega (arith, h, same), ap (skip (white_stands new) (after_blank new) m) same)
    by_test again true f =
        let less : suc r - 1 ≡ r = omega arith in
        let w = white_here k f in
        let i = white_within new (b + k) w.0 in
        let rest = again (sym (skip_more (white_stands blanks) (after_blank blanks) (suc r) k (omega arith) f ∙ ap (λ i. skip (white_stands blanks) (after_blank blanks) i (after_blank blanks k)) less) ∙ e) in
        (rest.0, rest.1, skip_more (white_stands new) (after_blank new) m (b + k) (omega (arith, h, i)) w.0 ∙ ap (skip (white_stands new) (after_blank new) (m - 1)) w.1 ∙ rest.2)

pub put : (before blanks behind : List ℕ) → white_end blanks 0 ≡ length blanks → 0 < length blanks
    → ((k : ℕ) → suc k ≡ length before → stands (before ++ behind) k 92 ≡ false)
    → Put (length before) (length blanks) (before ++ behind) (before ++ (blanks ++ behind))
put before blanks behind white some unescaped =
    let b = length before in
    let n = length blanks in
    let rest = blanks ++ behind in
    let sizes : length (before ++ behind) ≡ b + length behind = length-append before behind in
    let sizes2 : length (before ++ rest) ≡ b + length rest = length-append before rest in
    let sizes3 : length rest ≡ n + length behind = length-append blanks behind in
    let none_on : b + 0 ≡ b = omega arith in
    let here : (k : ℕ) → k < n → slice_index (before ++ rest) (b + k) ≡ slice_index blanks k = λ k l. get_or-append-add before rest k 0 ∙ get_or_append_left blanks behind 0 k l in
    let first_is : slice_index (before ++ rest) b ≡ slice_index blanks 0 = ap (slice_index (before ++ rest)) (sym none_on) ∙ here 0 some in
    let fits : b + n ≤ length (before ++ rest) = omega (arith, sizes2, sizes3) in
    record {
      within = omega (arith, sizes);
      size = omega (arith, sizes, sizes2, sizes3);
      some = some;
      same = λ k l. get_or_append_left before rest 0 k l ∙ sym (get_or_append_left before behind 0 k l);
      moved = λ k l.
          let e : n + k - b - n ≡ k - b = omega arith in
          get_or-append_right before rest b (n + k) 0 refl (omega (arith, l))
          ∙ get_or-append_right blanks behind n (n + k - b) 0 refl (omega (arith, l))
          ∙ ap (λ i. get_or behind i 0) e
          ∙ sym (get_or-append_right before behind b k 0 refl l);
      later = λ k l.
          let e : n + k - b - n ≡ k - b = omega arith in
          drop_far before rest (n + k) (omega (arith, l))
          ∙ drop_far blanks behind (n + k - b) (omega (arith, l))
          ∙ ap (λ i. drop i behind) e
          ∙ sym (drop_far before behind k l);
      cut = λ i j h k. cut_front before rest i j h k ∙ sym (cut_front before behind i j h k);
      first = ap₂ (λ u v. is_space u || (v == 92)) first_is first_is ∙ white_first blanks white some;
      passes = λ m h.
          let r = white_run blanks (before ++ rest) b here fits (turns blanks) m 0 (white_skipped blanks white) (omega (arith, h)) in
          let swap : b + n ≡ n + b = omega arith in
          (r.0, omega (arith, r.1), ap (skip (white_stands (before ++ rest)) (after_blank (before ++ rest)) m) (sym none_on) ∙ r.2 ∙ ap (skip (white_stands (before ++ rest)) (after_blank (before ++ rest)) r.0) swap);
      unescaped = unescaped;
    }

-- ---- places

-- a token's place behind it is moved
abbrev pub move : ℕ → ℕ → ℕ → ℕ
move b n k = cond (nat_lt k b) k (n + k)

pub move_front : (b n k : ℕ) → k < b → move b n k ≡ k
move_front b n k h = let e : nat_lt k b ≡ true = grind (arith, nat_tests) in ap (λ t. cond t k (n + k)) e

pub move_behind : (b n k : ℕ) → b ≤ k → move b n k ≡ n + k
move_behind b n k h = let e : nat_lt k b ≡ false = grind (arith, nat_tests) in ap (λ t. cond t k (n + k)) e

pub side : (b k : ℕ) → (k < b) ⊎ (b ≤ k)
side b k = by_test (nat_lt k b) refl where
  by_test : (t : Bool) → nat_lt k b ≡ t → (k < b) ⊎ (b ≤ k)
  by_test true e = inl (grind (arith, nat_tests))
  by_test false e = inr (grind (arith, nat_tests))

pub is_below : (a b : ℕ) → a < b → nat_lt a b ≡ true
is_below a b h = grind (arith, nat_tests)

pub below_moved : (n k a c : ℕ) → c ≡ n + a → nat_lt (n + k) c ≡ nat_lt k a
below_moved n k a c e = by_test (nat_lt k a) refl where
  by_test : (t : Bool) → nat_lt k a ≡ t → nat_lt (n + k) c ≡ t
  by_test true h = grind (arith, nat_tests)
  by_test false h = grind (arith, nat_tests)

pub none : (a b : Bool) → a ≡ false → (a && b) ≡ false
none true b h = cc
none false b h = refl
