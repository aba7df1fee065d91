use Rattle.std.proofs.Common.{◌≡◌, map, take}
use Rattle.config.proofs.made_groups.addresses.Given as goal

abbrev pub invariant-loop-member : goal.invariant-loop-member
invariant-loop-member l = l.made ≡ map (λ m. m.addr) (take l.member-index l.members)
