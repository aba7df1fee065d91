-- Texts cut at some of their bytes.
use Rattle.std.proofs.Common.{◌≡◌, ℕ, ◌+◌, ◌-◌, ◌<◌, ◌≤◌, Bool, true, false, not, cond, List}
use Rattle.std.proofs.Common.{[], ◌∷◌, ◌++◌, length, take, drop, refl, ap, ap₂, sym, ◌∙◌, arith}
use Rattle.std.proofs.Common.{append_assoc}
use Rattle.std.specs.Prelude.{IfOk, Result, Ok, Err}
use Rattle.std.specs.List.{onto_first, position_or_len, slice_split}
use Rattle.std.proofs.lemmas.List.{drop-drop, length-drop, take_all, take_rest}
use Rattle.std.proofs.lemmas.List.Splits.{slice_split_first}
use Rattle.px_bytes.specs.declared.memory.Memory.{Memory}
use Rattle.px_bytes.specs.ByteSet.{has_byte, is_among}
use Rattle.tcl_list_commands.specs.Splitting.{pieces_by}

-- tests that agree cut alike
pub same_cuts : (p q : ℕ → Bool) → ((k : ℕ) → p k ≡ q k) → (text : List ℕ) → slice_split p text ≡ slice_split q text
same_cuts p q same [] = refl
same_cuts p q same (b ∷ bs) = ap₂ (λ t parts. cond t ([] ∷ parts) (onto_first b parts)) (same b) (same_cuts p q same bs)

whole_by : (p : ℕ → Bool) (b : ℕ) (bs : List ℕ) (t : Bool) → length (b ∷ bs) ≤ cond (not t) (1 + position_or_len p bs) 0 → (length bs ≤ position_or_len p bs → slice_split p bs ≡ bs ∷ [])
    → cond t ([] ∷ slice_split p bs) (onto_first b (slice_split p bs)) ≡ (b ∷ bs) ∷ []
whole_by p b bs true over more = absurd (omega arith)
whole_by p b bs false over more = ap (onto_first b) (more (omega arith))

-- a text that is not cut
whole : (p : ℕ → Bool) (text : List ℕ) → length text ≤ position_or_len p text → slice_split p text ≡ text ∷ []
whole p [] over = refl
whole p (b ∷ bs) over = whole_by p b bs (p b) over (whole p bs)

module _ (p : ℕ → Bool) (rest other : List ℕ) (pieces all new : List (List ℕ)) where
  -- the last piece
  pub last_piece : other ≡ drop (position_or_len p rest) rest → length other < 1 → new ≡ pieces ++ take (position_or_len p rest) rest ∷ [] → pieces ++ slice_split p rest ≡ all → new ≡ all
  last_piece back over pushed inv =
      let end : length rest ≤ position_or_len p rest = omega (arith, length-drop (position_or_len p rest) rest, ap length back) in
      pushed ∙ ap (λ t. pieces ++ t ∷ []) (take_all (position_or_len p rest) rest end) ∙ ap (λ t. pieces ++ t) (sym (whole p rest end)) ∙ inv

  -- a piece before another one
  pub next_piece : other ≡ drop (position_or_len p rest) rest → 1 ≤ length other → new ≡ pieces ++ take (position_or_len p rest) rest ∷ [] → pieces ++ slice_split p rest ≡ all
      → new ++ slice_split p (take (length other - 1) (drop 1 other)) ≡ all
  next_piece back some pushed inv =
      let n = position_or_len p rest in
      let inside : n < length rest = omega (arith, length-drop n rest, ap length back) in
      let behind : take (length other - 1) (drop 1 other) ≡ drop (n + 1) rest = take_rest other 1 ∙ ap (drop 1) back ∙ drop-drop 1 n rest in
      let first : slice_split p rest ≡ take n rest ∷ slice_split p (drop (n + 1) rest) = slice_split_first p rest 0 inside in
      ap₂ (λ l t. l ++ slice_split p t) pushed behind ∙ append_assoc pieces (take n rest ∷ []) (slice_split p (drop (n + 1) rest)) ∙ ap (λ l. pieces ++ l) (sym first) ∙ inv

-- what a set cuts at
pub cut_by_set : (set : List Bool) (chars text : List ℕ) (r : Result (List (List ℕ)) Memory) → 0 < length text → 0 < length chars → ((k : ℕ) → has_byte set k ≡ is_among chars k)
    → IfOk r (λ pieces. pieces ≡ slice_split (has_byte set) text) → IfOk r (λ pieces. pieces ≡ pieces_by chars text)
cut_by_set set chars text (Err e) some any says h = h
cut_by_set set chars [] (Ok pieces) some any says h = absurd (omega arith)
cut_by_set set [] (b ∷ bs) (Ok pieces) some any says h = absurd (omega arith)
cut_by_set set (c ∷ cs) (b ∷ bs) (Ok pieces) some any says h = h ∙ same_cuts (has_byte set) (is_among (c ∷ cs)) says (b ∷ bs)
