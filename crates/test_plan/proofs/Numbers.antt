-- One number more of those in order.
use Rattle.std.proofs.Common.{◌≡◌, ℕ, suc, ◌+◌, ◌-◌, ◌<◌, List, [], ◌∷◌, ◌++◌, map, drop, get_or, length, ap, sym, ◌∙◌, append_assoc, arith}
use Rattle.std.proofs.lemmas.List.{drop_more}
use Rattle.test_orders.specs.Orders.{numbers_from}
use Rattle.test_plan.specs.Ways.{with_orders}

pub one_more : (number count : ℕ) (done pushed whole : List ℕ) → number < count → pushed ≡ done ++ number ∷ []
    → done ++ numbers_from number (count - number) ≡ whole → pushed ++ numbers_from (number + 1) (count - (number + 1)) ≡ whole
one_more number count done pushed whole there is so =
    let more : count - number ≡ suc (count - (number + 1)) = omega (arith, there) in
    ap (λ l. l ++ numbers_from (number + 1) (count - (number + 1))) is
    ∙ append_assoc done (number ∷ []) (numbers_from (number + 1) (count - (number + 1)))
    ∙ ap (λ n. done ++ numbers_from number n) (sym more) ∙ so

-- a way more with each of these orders behind it
pub longer_more : (orders : List (List ℕ)) (ways : List (List (List ℕ))) (i : ℕ) (way same : List (List ℕ))
    (done more whole : List (List (List ℕ))) → i < length ways → way ≡ get_or ways i way → same ≡ way
    → more ≡ done ++ map (λ order. same ++ order ∷ []) orders → done ++ with_orders orders (drop i ways) ≡ whole
    → more ++ with_orders orders (drop (i + 1) ways) ≡ whole
longer_more orders ways i way same done more whole there is e added so =
    let rest = with_orders orders (drop (i + 1) ways) in
    ap (λ l. l ++ rest) (added ∙ ap (λ w. done ++ map (λ order. w ++ order ∷ []) orders) e)
    ∙ append_assoc done (map (λ order. way ++ order ∷ []) orders) rest
    ∙ ap (λ ws. done ++ with_orders orders ws) (sym (drop_more ways i way there ∙ ap (λ w. w ∷ drop (i + 1) ways) (sym is)))
    ∙ so
