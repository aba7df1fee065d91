use Rattle.std.proofs.Common.{◌≡◌, ◌++◌}
use Rattle.access_report.specs.Trees.{entry_lines}
use Rattle.access_report.proofs.rows.tree_lines.Given as goal

abbrev pub invariant-loop-name : goal.invariant-loop-name
invariant-loop-name l = l.text ++ entry_lines l.name-iterator ≡ entry_lines l.tree.entries
