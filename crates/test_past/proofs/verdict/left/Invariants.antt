use Rattle.std.proofs.Common.{◌≡◌, drop}
use Rattle.test_past.specs.Verdicts as verdicts
use Rattle.test_past.proofs.verdict.left.Given as goal

abbrev pub invariant-loop-one : goal.invariant-loop-one
invariant-loop-one l =
    verdicts.left l.fn.steps l.fn.came (drop l.one-index l.fn.came) l.fn.entries
    ≡ verdicts.left l.fn.steps l.fn.came l.fn.came l.fn.entries
