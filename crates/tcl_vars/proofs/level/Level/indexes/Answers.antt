use Rattle.std.specs.List.Sorted.{IsStrictlySortedBy}
use Rattle.tcl_vars.proofs.level.Level.indexes.Goals as goal

pub returns-in-None-clause-sorted : goal.returns-in-None-clause-sorted
unfolding IsStrictlySortedBy
returns-in-None-clause-sorted c = rw c.new.ensures tt
