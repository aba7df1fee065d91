use Rattle.std.proofs.Common.{◌≡◌, ◌++◌, drop, map}
use Rattle.table_mirror.specs.Entries.{entry_view}
use Rattle.table_mirror.specs.Pushed.{pushed}
use Rattle.table_mirror.proofs.entry.pushed_of.Given as goal

abbrev pub invariant-loop-line : goal.invariant-loop-line
invariant-loop-line l = map entry_view l.entries.items ++ pushed (drop l.line-index l.told) ≡ pushed l.told
