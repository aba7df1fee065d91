use Rattle.std.proofs.Common.{◌≡◌, None, drop}
use Rattle.test_past.specs.Standing.{asked_from}
use Rattle.test_past.proofs.standing.asked_by.Given as goal

abbrev pub invariant-loop-entry : goal.invariant-loop-entry
invariant-loop-entry l =
    asked_from l.fn.conn l.asked (drop l.entry-index l.fn.entries) ≡ asked_from l.fn.conn None l.fn.entries
