-- How much room pieces take.
use Rattle.std.proofs.Common.{◌≡◌, ℕ, ◌+◌, ◌≤◌, ◌<◌, true, false, nat_le, List, [], ◌∷◌}
use Rattle.std.proofs.Common.{◌++◌, length, get_or, drop, sym, ap, refl, ◌∙◌, arith, length-append}
use Rattle.std.proofs.lemmas.Bool.Decides.{nat_tests}
use Rattle.std.proofs.lemmas.List.{drop_more, drop_all}
use Rattle.tcl_lists.specs.Write.{joined, spelled}
use Rattle.std.specs.List.{flat_map}
use Rattle.px_bytes.specs.Limit.{text_limit}
use Rattle.tcl_list_commands.specs.Joining.{run_together}

-- what each of the pieces takes, added up
abbrev pub widths : (List ℕ → ℕ) → List (List ℕ) → ℕ
widths f [] = 0
widths f (x ∷ xs) = f x + widths f xs

-- an element as it is written, and a blank
abbrev pub width : List ℕ → ℕ
width x = length (spelled x) + 1

-- TESTS

pub same_le : (a b c d : ℕ) → a + d ≡ c + b → nat_le a b ≡ nat_le c d
same_le a b c d e = grind (arith, nat_tests)

pub not_le : (a b : ℕ) → b < a → nat_le a b ≡ false
not_le a b e = grind (arith, nat_tests)

pub is_le : (a b : ℕ) → a ≤ b → nat_le a b ≡ true
is_le a b e = grind (arith, nat_tests)

-- ROOM

module _ (f : List ℕ → ℕ) (xs : List (List ℕ)) (i room most : ℕ) (so_far : nat_le (widths f (drop i xs)) room ≡ nat_le (widths f xs) most) where
  -- a piece has no room
  pub too_wide : (x : List ℕ) → i < length xs → x ≡ get_or xs i x → room < f x → nat_le (widths f xs) most ≡ false
  too_wide x there is full =
      let rest : widths f (drop i xs) ≡ f x + widths f (drop (i + 1) xs) = ap (widths f) (drop_more xs i x there ∙ ap (λ y. y ∷ drop (i + 1) xs) (sym is)) in
      sym so_far ∙ not_le _ _ (omega (arith, rest))

  -- all have
  pub wide_enough : length xs ≤ i → nat_le (widths f xs) most ≡ true
  wide_enough over = sym so_far ∙ ap (λ l. nat_le (widths f l) room) (drop_all i xs over) ∙ is_le 0 room (omega arith)

-- LISTS

joined_width : (x : List ℕ) (xs : List (List ℕ)) → length (joined (x ∷ xs)) + 1 ≡ widths width (x ∷ xs)
joined_width x [] = omega arith
joined_width x (y ∷ ys) = omega (arith, length-append (spelled x) (32 ∷ joined (y ∷ ys)), joined_width y ys)

pub joined_fits : (xs : List (List ℕ)) → nat_le (length (joined xs)) text_limit ≡ nat_le (widths width xs) (text_limit + 1)
joined_fits [] = refl
joined_fits (x ∷ xs) = same_le _ _ _ _ (omega (arith, joined_width x xs))

-- TEXTS WITH OTHERS BETWEEN THEM

module _ (between : List ℕ) where
  -- a piece, and the text behind it
  abbrev pub gapped : List ℕ → ℕ
  gapped x = length x + length between

  rest_width : (xs : List (List ℕ)) → length (flat_map (λ y. between ++ y) xs) ≡ widths gapped xs
  rest_width [] = refl
  rest_width (x ∷ xs) = omega (arith, length-append (between ++ x) (flat_map (λ y. between ++ y) xs), length-append between x, rest_width xs)

  pub together_fits : (xs : List (List ℕ)) → nat_le (length (run_together between xs)) text_limit ≡ nat_le (widths gapped xs) (text_limit + length between)
  together_fits [] = sym (is_le 0 (text_limit + length between) (omega arith))
  together_fits (x ∷ xs) = same_le _ _ _ _ (omega (arith, length-append x (flat_map (λ y. between ++ y) xs), rest_width xs))
