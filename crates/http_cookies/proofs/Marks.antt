-- Texts round a mark.
use Rattle.std.proofs.Common.{◌≡◌, ℕ, zero, suc, ◌+◌, ◌-◌, ◌<◌, ◌==◌, Bool, true, false, not, cond, List, []}
use Rattle.std.proofs.Common.{◌∷◌, ◌++◌, length, get_or, take, drop, sym, ap, refl, ◌∙◌, arith}
use Rattle.std.specs.List.{position_or_len, before_first, after_first}
use Rattle.std.specs.Str.Parse.{AllDigits}
use Rattle.std.proofs.lemmas.Bool.{ne_eqb}
use Rattle.std.proofs.lemmas.Bool.Decides.{nat_tests}
use Rattle.std.proofs.lemmas.List.{take_at, drop_at, take_rest, append_assoc, length-append, length-drop}
use Rattle.std.proofs.lemmas.List.Sums.{passes_at_first, split_at_first}
use Rattle.std.proofs.lemmas.Str.Parse.{digit_from_value}

-- what stands behind the first byte of what begins at a place
drop_one : (at : ℕ) (text : List ℕ) → drop 1 (drop at text) ≡ drop (suc at) text
drop_one zero text = refl
drop_one (suc at) [] = refl
drop_one (suc at) (b ∷ bs) = drop_one at bs

next : (at first : ℕ) → at ≡ first → suc at ≡ first + 1
next at first e = omega arith

pub rest_behind : (text : List ℕ) (at first : ℕ) → at ≡ first → take (length (take (length text - at) (drop at text)) - 1) (drop 1 (take (length text - at) (drop at text))) ≡ drop (first + 1) text
rest_behind text at first e =
    rw (take_rest text at) (take_rest (drop at text) 1 ∙ drop_one at text ∙ ap (λ k. drop k text) (next at first e))

mark_step : (b : Bool) (k n : ℕ) → b ≡ false → k ≡ n → cond (not b) (1 + k) 0 ≡ suc n
mark_step b k n e same = rw e (omega arith)

-- no digit is a dot
pub first_dot : (ds rest : List ℕ) → AllDigits 10 ds → position_or_len (λ byte. byte == 46) (ds ++ (46 ∷ rest)) ≡ length ds
first_dot [] rest h = refl
first_dot (d ∷ ds) rest h =
    let range = digit_from_value d h.0 in
    mark_step (d == 46) _ _ (ne_eqb d 46 (λ e. omega arith)) (first_dot ds rest h.1)

-- what stands before the dot behind digits, and after it
pub two_parts : (ds rest : List ℕ) → AllDigits 10 ds → (before_first (λ byte. byte == 46) ((ds ++ (46 ∷ [])) ++ rest) ≡ ds) × (after_first (λ byte. byte == 46) ((ds ++ (46 ∷ [])) ++ rest) ≡ rest)
two_parts ds rest h =
    let whole = append_assoc ds (46 ∷ []) rest in
    let at : position_or_len (λ byte. byte == 46) ((ds ++ (46 ∷ [])) ++ rest) ≡ length ds = ap (position_or_len (λ byte. byte == 46)) whole ∙ first_dot ds rest h in (
      ap (λ k. take k ((ds ++ (46 ∷ [])) ++ rest)) at ∙ ap (take (length ds)) whole ∙ take_at ds (46 ∷ rest) (length ds) refl,
      ap (λ k. drop (k + 1) ((ds ++ (46 ∷ [])) ++ rest)) at ∙ drop_at (ds ++ (46 ∷ [])) rest (length ds + 1) (length-append ds (46 ∷ [])),
    )

-- a text whose second part isn't empty is its two parts with the dot
pub joined : (text before after : List ℕ) → before ≡ before_first (λ byte. byte == 46) text → after ≡ after_first (λ byte. byte == 46) text → 0 < length after → text ≡ (before ++ (46 ∷ [])) ++ after
joined text before after b a some =
    let size : length after ≡ length text - (position_or_len (λ byte. byte == 46) text + 1) = ap length a ∙ length-drop (position_or_len (λ byte. byte == 46) text + 1) text in
    let has : position_or_len (λ byte. byte == 46) text < length text = omega arith in
    let passes : (get_or text (position_or_len (λ byte. byte == 46) text) 0 == 46) ≡ true = passes_at_first (λ byte. byte == 46) text 0 has in
    let dot : get_or text (position_or_len (λ byte. byte == 46) text) 0 ≡ 46 = grind (arith, nat_tests) in
    split_at_first (λ byte. byte == 46) text 0 has
    ∙ ap (λ d. before_first (λ byte. byte == 46) text ++ (d ∷ after_first (λ byte. byte == 46) text)) dot
    ∙ ap (λ t. t ++ (46 ∷ after_first (λ byte. byte == 46) text)) (sym b)
    ∙ ap (λ t. before ++ (46 ∷ t)) (sym a)
    ∙ sym (append_assoc before (46 ∷ []) after)
