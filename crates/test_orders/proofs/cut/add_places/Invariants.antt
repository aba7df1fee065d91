use Rattle.std.proofs.Common.{◌≡◌, ◌-◌, ◌++◌}
use Rattle.test_orders.specs.Cuts.{places_from}
use Rattle.test_orders.proofs.cut.add_places.Given as goal

abbrev pub invariant-loop-place : goal.invariant-loop-place
invariant-loop-place l =
    l.cuts ++ places_from l.fn.send l.place (l.fn.length - l.place) ≡ l.initial.cuts ++ places_from l.fn.send 1 (l.fn.length - 1)
