use Rattle.std.proofs.Common.{sym, ap, subst, ◌∙◌}
use Rattle.pools.specs.Groups.{IsFloor}
use Rattle.pools.specs.Pools.{AreMembers}
use Rattle.pools.proofs.Kept.{members_of, members_up}
use Rattle.pools.proofs.pool.Pool.new.Goals as goal

pub invariant_of-result : goal.invariant_of-result
invariant_of-result c =
    let same = ap members_of c.in_ok-members.ensures ∙ members_up c.as_slice.result.now ∙ c.as_slice.ensures in
    (subst (λ ms. AreMembers ms) (sym same) c.requires, subst (λ ms. IsFloor c.args.min_active ms c.floor-floor.result) c.deref.ensures.value c.floor-floor.ensures)
