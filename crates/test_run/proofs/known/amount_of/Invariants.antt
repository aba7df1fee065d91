use Rattle.std.proofs.Common.{◌≡◌, None, drop}
use Rattle.test_run.specs.Known.{amount_from}
use Rattle.test_run.proofs.known.amount_of.Given as goal

abbrev pub invariant-loop-one : goal.invariant-loop-one
invariant-loop-one l =
    amount_from l.fn.side l.fn.client l.most (drop l.one-index l.fn.amounts)
    ≡ amount_from l.fn.side l.fn.client None l.fn.amounts
