use Rattle.std.proofs.Common.{◌≡◌, drop}
use Rattle.test_run.specs.Due.{left_from}
use Rattle.test_run.proofs.due.left_of.Given as goal

abbrev pub invariant-loop-entry : goal.invariant-loop-entry
invariant-loop-entry l =
    left_from l.fn.side l.fn.conn l.fn.most l.left (drop l.entry-index l.fn.entries)
    ≡ left_from l.fn.side l.fn.conn l.fn.most l.fn.most l.fn.entries
