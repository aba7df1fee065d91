-- Calls after calls, and places in a list.
use Rattle.std.proofs.Common.{◌≡◌, ℕ, ◌+◌, ◌<◌, ◌≤◌, List, [], ◌∷◌, ◌++◌, drop, length, subst, ap, sym, ◌∙◌, get_or, drop-cons, add-one, arith}
use Rattle.std.proofs.lemmas.Grind.{common_steps}
use Rattle.px_outside.specs.Net.{Call, Chain}

pub chain_append : {S : Type 0} (did : S → Call → S → Type 0) (xs ys : List Call) (a b c : S)
    → Chain did a xs b → Chain did b ys c → Chain did a (xs ++ ys) c
chain_append did [] ys a b c x y = subst (λ t. Chain did t ys c) x y
chain_append did (k ∷ xs) ys a b c x y = (x.0, x.1, chain_append did xs ys x.0 b c x.2 y)

pub front_at : {A : Type 0} (xs : List A) (i : ℕ) (d : A) → i < length xs → drop i xs ≡ get_or xs i d ∷ drop (i + 1) xs
front_at xs i d lt = drop-cons xs i d lt ∙ ap (λ k. get_or xs i d ∷ drop k xs) (sym (add-one i))

pub none_left : {A : Type 0} (xs : List A) (i : ℕ) → length xs ≤ i → drop i xs ≡ []
none_left xs i le = grind (arith, common_steps)
