use Rattle.std.proofs.Common.{◌+◌, drop, map}
use Rattle.table_mirror.specs.Entries.{entry_view}
use Rattle.table_mirror.proofs.Going.{Gone}
use Rattle.table_mirror.proofs.follow.run_lines.Given as goal

abbrev pub invariant-loop-index : goal.invariant-loop-index
invariant-loop-index l =
    Gone (map entry_view l.entries) (map (λ line. line.now) l.lines) l.rest l.index l.fn.network l.network
