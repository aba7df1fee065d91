use Rattle.std.proofs.Common.{◌≡◌, ◌++◌, drop, map}
use Rattle.pool_monitor.specs.Made.{new_member}
use Rattle.pool_monitor.proofs.made.push_members.Given as goal

abbrev pub invariant-loop-member : goal.invariant-loop-member
invariant-loop-member l =
    l.initial.all.items ++ map (new_member l.at l.monitor) l.members ≡ l.all.items ++ map (new_member l.at l.monitor) (drop l.member-index l.members)
