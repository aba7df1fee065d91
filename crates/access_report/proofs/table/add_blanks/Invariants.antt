use Rattle.std.proofs.Common.{◌≡◌, ◌++◌}
use Rattle.access_report.specs.Table.{blanks}
use Rattle.access_report.proofs.table.add_blanks.Given as goal

abbrev pub invariant-loop-done : goal.invariant-loop-done
invariant-loop-done l = l.row ≡ l.fn.row ++ blanks l._done
