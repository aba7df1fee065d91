use Rattle.std.proofs.Common.{◌≡◌}
use Rattle.slab.specs.Slab.{slab_len}
use Rattle.timed_rows.specs.Rows.{later_than}
use Rattle.timed_rows.specs.Tied.{IsTied, seen}
use Rattle.timed_rows.proofs.rows.Rows.expire.Given as goal

abbrev pub invariant-loop-slot : goal.invariant-loop-slot
invariant-loop-slot g l = record {
  tied : IsTied g.K.Ord.cmp l.self-inside.entries.entries l.self-inside.keys l.self-inside.dues.dues;
  same : later_than l.moment (seen l.self-inside.entries.entries) ≡ later_than l.moment l.fn.self;
}

abbrev pub decreases-loop-slot : goal.decreases-loop-slot
decreases-loop-slot g l = slab_len l.self-inside.keys
