use Rattle.std.proofs.Common.{◌≡◌, ◌-◌, ◌<◌, ℕ, false}
use Rattle.pools.specs.Selection.{group_serves}
use Rattle.pools.proofs.groups.floor.Given as goal

abbrev pub invariant-loop-priority : goal.invariant-loop-priority
invariant-loop-priority l = (p : ℕ) → p < l.priority → group_serves l.min_active l.members p ≡ false

abbrev pub decreases-loop-priority : goal.decreases-loop-priority
decreases-loop-priority l = 101 - l.priority
