use Rattle.std.proofs.Common.{◌≡◌, drop}
use Rattle.test_past.specs.Rows.{moment_from}
use Rattle.test_past.proofs.rows.moment_of.Given as goal

abbrev pub invariant-loop-entry : goal.invariant-loop-entry
invariant-loop-entry l =
    moment_from l.moment (drop l.entry-index l.fn.entries) ≡ moment_from 0 l.fn.entries
