use Rattle.std.proofs.Common.{◌≡◌, ◌++◌, drop, map}
use Rattle.test_plan.specs.Ways.{with_orders}
use Rattle.test_plan.proofs.way.extend.Given as goal

abbrev pub invariant-loop-way : goal.invariant-loop-way
invariant-loop-way l =
    l.longer ++ with_orders (map (λ o. o.done) l.fn.orders) (drop l.way-index l.fn.ways)
    ≡ with_orders (map (λ o. o.done) l.fn.orders) l.fn.ways
