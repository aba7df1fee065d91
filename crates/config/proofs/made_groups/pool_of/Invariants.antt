use Rattle.std.proofs.Common.{◌≡◌, take}
use Rattle.config.proofs.made_groups.pool_of.Given as goal

abbrev pub invariant-loop-member : goal.invariant-loop-member
invariant-loop-member l = l.members ≡ take l.member-index l.member-items
