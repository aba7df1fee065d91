use Rattle.std.proofs.Common.{◌≡◌, ◌++◌, drop}
use Rattle.test_orders.specs.Cuts.{places_in}
use Rattle.test_orders.proofs.cut.add_all.Given as goal

abbrev pub invariant-loop-send : goal.invariant-loop-send
invariant-loop-send l =
    l.cuts ++ places_in l.send (drop l.send l.fn.lengths) ≡ l.initial.cuts ++ places_in 0 l.fn.lengths
