use Rattle.std.proofs.Common.{◌≡◌, [], drop, take}
use Rattle.test_past.specs.Verdicts as verdicts
use Rattle.test_past.proofs.verdict.failing.Given as goal

abbrev pub invariant-loop-at : goal.invariant-loop-at
invariant-loop-at l =
    verdicts.failing l.fn.rows l.fn.steps l.fn.came (take l.at l.fn.entries) (drop l.at l.fn.entries)
    ≡ verdicts.failing l.fn.rows l.fn.steps l.fn.came [] l.fn.entries
