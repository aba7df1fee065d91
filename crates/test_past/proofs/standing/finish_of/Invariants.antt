use Rattle.std.proofs.Common.{◌≡◌, None, drop}
use Rattle.test_past.specs.Standing as standing
use Rattle.test_past.proofs.standing.finish_of.Given as goal

abbrev pub invariant-loop-entry : goal.invariant-loop-entry
invariant-loop-entry l =
    standing.finish_of l.fn.conn l.finish (drop l.entry-index l.fn.entries)
    ≡ standing.finish_of l.fn.conn None l.fn.entries
