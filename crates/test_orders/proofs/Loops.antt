-- One turn more of each loop.
use Rattle.std.proofs.Common.{◌≡◌, ℕ, suc, ◌+◌, ◌-◌, ◌<◌, cond, List, [], ◌∷◌, ◌++◌, length, get_or, take, drop}
use Rattle.std.proofs.Common.{sym, ap, ◌∙◌, append_assoc, arith}
use Rattle.std.proofs.lemmas.List.{drop_more, take_more}
use Rattle.test_orders.specs.Cuts.{places_from}
use Rattle.test_orders.specs.Orders.{nexts, numbers_from, stands}
use Rattle.test_orders.specs.declared.cut.Cut.TheVariants.{At}

-- an item is pushed that stands first in what is still to come
pub push_on : {X : Type 0} (old new rest more whole : List X) (x : X) → new ≡ old ++ x ∷ [] → more ≡ x ∷ rest → old ++ more ≡ whole
    → new ++ rest ≡ whole
push_on old new rest more whole x pushed is so =
    ap (λ l. l ++ rest) pushed ∙ append_assoc old (x ∷ []) rest ∙ ap (λ l. old ++ l) (sym is) ∙ so

pub places_more : (send place length : ℕ) → place < length
    → places_from send place (length - place) ≡ At send place ∷ places_from send (place + 1) (length - (place + 1))
places_more send place length there =
    let more : length - place ≡ suc (length - (place + 1)) = omega (arith, there) in
    ap (places_from send place) more

pub numbers_more : (number count : ℕ) → number < count
    → numbers_from number (count - number) ≡ number ∷ numbers_from (number + 1) (count - (number + 1))
numbers_more number count there =
    let more : count - number ≡ suc (count - (number + 1)) = omega (arith, there) in
    ap (numbers_from number) more

pub nexts_more : (groups left : List ℕ) (i n : ℕ) → i < length left → n ≡ get_or left i n
    → nexts groups (take i left) (drop i left)
    ≡ cond (stands groups n (take i left)) [] ((n, take i left ++ drop (i + 1) left) ∷ []) ++ nexts groups (take (i + 1) left) (drop (i + 1) left)
nexts_more groups left i n there is =
    ap (nexts groups (take i left)) (drop_more left i n there ∙ ap (λ m. m ∷ drop (i + 1) left) (sym is))
    ∙ ap (λ before. cond (stands groups n (take i left)) [] ((n, take i left ++ drop (i + 1) left) ∷ []) ++ nexts groups before (drop (i + 1) left))
    (sym (take_more left i n there ∙ ap (λ m. take i left ++ m ∷ []) (sym is)))
