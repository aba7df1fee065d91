use Rattle.std.proofs.Common.{◌≡◌, drop}
use Rattle.session_table.specs.Tables.{new_table}
use Rattle.test_past.specs.Rows.{table_from}
use Rattle.test_past.proofs.rows.table_of.Given as goal

abbrev pub invariant-loop-entry : goal.invariant-loop-entry
invariant-loop-entry l =
    table_from l.table (drop l.entry-index l.fn.entries) ≡ table_from (new_table l.fn.rows) l.fn.entries
