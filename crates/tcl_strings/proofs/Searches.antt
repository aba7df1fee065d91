-- Where a piece stands first, and last.
use Rattle.std.proofs.Common.{◌≡◌, ℕ, zero, suc, ◌+◌, ◌≤◌, ◌<◌, Bool, true, false, cond, nat_eq, List, []}
use Rattle.std.proofs.Common.{◌∷◌, length, take, drop, Option, Some, None, option_map, sym, ap, refl, ◌∙◌, arith}
use Rattle.std.specs.List.{starts_with}
use Rattle.std.specs.Prelude.{IfSome}
use Rattle.std.proofs.lemmas.Bool.{false≢true, false_from_ne_true}
use Rattle.std.proofs.lemmas.List.{length-take, length-drop}
use Rattle.std.proofs.lemmas.Slice.Eq.{bytes_eq-Decides}
use Rattle.memchr.specs.Find.{OccursAt, FindsNeedle, FindsLastNeedle}
use Rattle.memchr.proofs.lemmas.MatchLemmas.{OccursAt-part, OccursAt-from_part}
use Rattle.tcl_strings.specs.Search.{begins_with, first_place, later_or, last_place}

first_by : (piece : List ℕ) (c : ℕ) (cs : List ℕ) (t : Bool) (r : Option ℕ) → begins_with piece (c ∷ cs) ≡ t → cond t (Some 0) (option_map suc (first_place piece cs)) ≡ r → r ≡ first_place piece (c ∷ cs)
first_by piece c cs t r e h = sym h ∙ ap (λ b. cond b (Some 0) (option_map suc (first_place piece cs))) (sym e)

-- the first place at which the text goes on with the piece
first_at : (piece text : List ℕ) (k : ℕ) → k < length text → begins_with piece (drop k text) ≡ true → ((j : ℕ) → j < k → begins_with piece (drop j text) ≡ false) → Some k ≡ first_place piece text
first_at piece [] k there here before = absurd (omega arith)
first_at piece (c ∷ cs) zero there here before = first_by piece c cs true (Some 0) here refl
first_at piece (c ∷ cs) (suc k) there here before =
    first_by piece c cs false (Some (suc k)) (before 0 (omega arith))
    (ap (option_map suc) (sym (first_at piece cs k (omega arith) here (λ j h. before (suc j) (omega arith)))))

first_none : (piece text : List ℕ) → ((j : ℕ) → j < length text → begins_with piece (drop j text) ≡ false) → None ≡ first_place piece text
first_none piece [] nowhere = refl
first_none piece (c ∷ cs) nowhere =
    first_by piece c cs false None (nowhere 0 (omega arith)) (ap (option_map suc) (sym (first_none piece cs (λ j h. nowhere (suc j) (omega arith)))))

last_none : (piece text : List ℕ) → ((j : ℕ) → j < length text → begins_with piece (drop j text) ≡ false) → None ≡ last_place piece text
last_none piece [] nowhere = refl
last_none piece (c ∷ cs) nowhere =
    ap (λ b. cond b (Some 0) None) (sym (nowhere 0 (omega arith))) ∙ ap (later_or (begins_with piece (c ∷ cs))) (last_none piece cs (λ j h. nowhere (suc j) (omega arith)))

last_at : (piece text : List ℕ) (k : ℕ) → k < length text → begins_with piece (drop k text) ≡ true → ((j : ℕ) → k < j → j < length text → begins_with piece (drop j text) ≡ false) → Some k ≡ last_place piece text
last_at piece [] k there here behind = absurd (omega arith)
last_at piece (c ∷ cs) zero there here behind =
    ap (λ b. cond b (Some 0) None) (sym here) ∙ ap (later_or (begins_with piece (c ∷ cs))) (last_none piece cs (λ j h. behind (suc j) (omega arith) (omega arith)))
last_at piece (c ∷ cs) (suc k) there here behind =
    ap (later_or (begins_with piece (c ∷ cs))) (last_at piece cs k (omega arith) here (λ j h g. behind (suc j) (omega arith) (omega arith)))

begins_some : (piece rest : List ℕ) → 0 < length piece → begins_with piece rest ≡ starts_with nat_eq rest piece
begins_some [] rest some = absurd (omega arith)
begins_some (p ∷ ps) rest some = refl

module _ (text piece : List ℕ) (some : 0 < length piece) where
  there : (k : ℕ) → OccursAt text piece k → begins_with piece (drop k text) ≡ true
  there k occurs =
      begins_some piece (drop k text) some
      ∙ (bytes_eq-Decides piece (take (length piece) (drop k text))).1 (sym (OccursAt-part text piece k occurs))

  inside : (k : ℕ) → OccursAt text piece k → k < length text
  inside k occurs = omega (arith, occurs.fits, some)

  found : (k : ℕ) → k ≤ length text → begins_with piece (drop k text) ≡ true → OccursAt text piece k
  found k within h =
      let same : piece ≡ take (length piece) (drop k text) = (bytes_eq-Decides piece (take (length piece) (drop k text))).0 (sym (begins_some piece (drop k text) some) ∙ h) in
      let size : length piece ≡ length (take (length piece) (drop k text)) = ap length same in
      OccursAt-from_part text piece k (omega (arith, length-take (length piece) (drop k text), length-drop k text)) (sym same)

  missing : (k : ℕ) → k ≤ length text → ¬ OccursAt text piece k → begins_with piece (drop k text) ≡ false
  missing k within other = false_from_ne_true _ (λ h. other (found k within h))

  pub finds_first : (r : Option ℕ) → FindsNeedle text piece 0 r → r ≡ first_place piece text
  finds_first (Some k) h =
      let k_inside = inside k h.1 in
      first_at piece text k k_inside (there k h.1) (λ j less. missing j (omega arith) (h.0.before j (omega arith) less))
  finds_first None h = first_none piece text (λ j less. missing j (omega arith) (h j (omega arith) (omega arith)))

  pub finds_last : (r : Option ℕ) → FindsLastNeedle text piece r → r ≡ last_place piece text
  finds_last (Some k) h =
      last_at piece text k (inside k h.1) (there k h.1) (λ j more less. missing j (omega arith) (h.0.after j (omega arith) (omega arith)))
  finds_last None h = last_none piece text (λ j less. missing j (omega arith) (h j (omega arith) (omega arith)))

-- the place leaves room for the piece
pub place_fits : (text piece : List ℕ) (r : Option ℕ) → FindsNeedle text piece 0 r → IfSome r (λ k. k + length piece ≤ length text)
place_fits text piece (Some k) h = h.1.fits
place_fits text piece None h = tt

pub empty_first : (piece text : List ℕ) → length piece ≡ 0 → None ≡ first_place piece text
empty_first [] text e = first_none [] text (λ j h. refl)
empty_first (p ∷ ps) text e = absurd (omega arith)

pub empty_last : (piece text : List ℕ) → length piece ≡ 0 → None ≡ last_place piece text
empty_last [] text e = last_none [] text (λ j h. refl)
empty_last (p ∷ ps) text e = absurd (omega arith)

-- a piece is no longer than a text that begins with it, and has a byte
pub begins_within : (piece text : List ℕ) → begins_with piece text ≡ true → (0 < length piece) × (length piece ≤ length text)
begins_within [] text h = absurd (false≢true h)
begins_within (p ∷ ps) text h =
    let same : p ∷ ps ≡ take (length (p ∷ ps)) text = (bytes_eq-Decides (p ∷ ps) (take (length (p ∷ ps)) text)).0 h in
    (omega arith, omega (arith, ap length same, length-take (length (p ∷ ps)) text))
