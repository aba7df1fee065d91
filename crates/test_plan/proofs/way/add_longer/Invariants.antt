use Rattle.std.proofs.Common.{◌≡◌, ◌++◌, ◌∷◌, [], drop, map}
use Rattle.test_plan.proofs.way.add_longer.Given as goal

abbrev pub invariant-loop-order : goal.invariant-loop-order
invariant-loop-order l =
    l.longer ++ map (λ order. l.fn.way ++ order ∷ []) (map (λ o. o.done) (drop l.order-index l.fn.orders))
    ≡ l.initial.longer ++ map (λ order. l.fn.way ++ order ∷ []) (map (λ o. o.done) l.fn.orders)
