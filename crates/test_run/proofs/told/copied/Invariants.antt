use Rattle.std.proofs.Common.{◌≡◌, ◌++◌, drop}
use Rattle.test_run.proofs.told.copied.Given as goal

abbrev pub invariant-loop-text : goal.invariant-loop-text
invariant-loop-text l = l.copy ++ drop l.text-index l.fn.texts ≡ l.fn.texts
