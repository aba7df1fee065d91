-- Deadlines that are put into an empty tree, one after another.
use Rattle.std.proofs.Common.{◌≡◌, ◌∙◌, sym, ap, ℕ, suc, ◌+◌, ◌-◌, ◌<◌, ◌≤◌, List, [], ◌∷◌, ◌++◌, Option, None, refl}
use Rattle.std.proofs.Common.{length, get_or, slice_set, take, replicate, arith, append_assoc}
use Rattle.std.proofs.lemmas.List.{length-take-le, set-append_right, take_more}

put_next : (n i : ℕ) (dues : List (Option ℕ)) → i < length dues → length dues ≤ n
    → slice_set (take i dues ++ replicate (n - i) None) i (get_or dues i None) ≡ take (i + 1) dues ++ replicate (n - (i + 1)) None
put_next n i dues w fits =
    let len : length (take i dues) ≡ i = length-take-le i dues (omega arith) in
    let one : n - i ≡ suc (n - (i + 1)) = omega arith in
    let head : slice_set (replicate (n - i) None) (i - i) (get_or dues i None) ≡ get_or dues i None ∷ replicate (n - (i + 1)) None
    = (let z : i - i ≡ 0 = omega arith in rw (one, z) refl) in
    set-append_right (take i dues) (replicate (n - i) None) i i (get_or dues i None) len (omega arith)
    ∙ ap (λ y. take i dues ++ y) head
    ∙ sym (append_assoc (take i dues) (get_or dues i None ∷ []) (replicate (n - (i + 1)) None))
    ∙ ap (λ y. y ++ replicate (n - (i + 1)) None) (sym (take_more dues i None w))

pub put_step : (n i : ℕ) (dues old new : List (Option ℕ)) → i < length dues → length dues ≤ n
    → old ≡ take i dues ++ replicate (n - i) None → new ≡ slice_set old (n + i - n) (get_or dues i None)
    → new ≡ take (i + 1) dues ++ replicate (n - (i + 1)) None
put_step n i dues old new w fits was is =
    let at : n + i - n ≡ i = omega arith in
    is
    ∙ ap (λ ds. slice_set ds (n + i - n) (get_or dues i None)) was
    ∙ ap (λ j. slice_set (take i dues ++ replicate (n - i) None) j (get_or dues i None)) at
    ∙ put_next n i dues w fits
