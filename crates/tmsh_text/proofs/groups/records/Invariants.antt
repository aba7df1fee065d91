use Rattle.std.proofs.Common.{◌≡◌, ◌++◌, drop}
use Rattle.tmsh_text.specs.Printed.{records}
use Rattle.tmsh_text.proofs.groups.records.Given as goal

abbrev pub invariant-loop-row : goal.invariant-loop-row
invariant-loop-row l = l.text ++ records (drop l.row-index l.rows) ≡ records l.rows
