use Rattle.std.proofs.Common.{◌≡◌, drop, slice_get}
use Rattle.test_past.specs.Lines.{logged}
use Rattle.test_past.proofs.lines.line_at.Given as goal

abbrev pub invariant-loop-entry : goal.invariant-loop-entry
invariant-loop-entry l =
    slice_get (logged l.fn.conn (drop l.entry-index l.fn.entries)) l.left ≡ slice_get (logged l.fn.conn l.fn.entries) l.fn.number
