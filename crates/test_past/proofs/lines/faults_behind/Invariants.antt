use Rattle.std.proofs.Common.{◌≡◌, drop}
use Rattle.std.specs.List.{list_any}
use Rattle.test_past.specs.Lines.{is_fault, logged}
use Rattle.test_past.proofs.lines.faults_behind.Given as goal

abbrev pub invariant-loop-entry : goal.invariant-loop-entry
invariant-loop-entry l =
    list_any is_fault (drop l.left (logged l.fn.conn (drop l.entry-index l.fn.entries)))
    ≡ list_any is_fault (drop l.fn.read (logged l.fn.conn l.fn.entries))
