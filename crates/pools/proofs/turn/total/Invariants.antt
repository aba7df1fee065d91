use Rattle.std.proofs.Common.{◌≡◌, ◌*◌, ◌≤◌, take}
use Rattle.std.specs.Prelude.{sum_by}
use Rattle.pools.specs.Groups.{weight_from}
use Rattle.pools.proofs.turn.total.Given as goal

abbrev pub invariant-loop-marked : goal.invariant-loop-marked
invariant-loop-marked l = (l.total ≡ sum_by (weight_from l.turn.method l.turn.floor) (take l.marked-index l.members)) × (l.total ≤ 255 * l.marked-index)
