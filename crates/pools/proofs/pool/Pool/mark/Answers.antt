use Rattle.std.proofs.Common.{sym, ap, subst, ◌∙◌}
use Rattle.pools.specs.Groups.{IsFloor}
use Rattle.pools.specs.Pools.{AreMembers, PoolState, has_addr, with_mark}
use Rattle.pools.specs.declared.member.Marked.{Marked}
use Rattle.std.specs.List.{list_any, position}
use Rattle.px_bytes.proofs.First.{at_first, nowhere}
use Rattle.pools.proofs.Kept.{members_marked}
use Rattle.pools.proofs.pool.Pool.mark.Goals as goal

pub invariant_of-self : goal.invariant_of-self
invariant_of-self c =
    (subst (λ ms. AreMembers ms) (sym (members_marked c.self.inside.members.items c.in-Some.at c.index_mut.result.now c.args.up (sym c.index_mut.ensures.value))) c.self.invariant.0, subst (λ ms. IsFloor c.self.inside.min_active ms c.floor-self-inside.result) c.deref-in-Some.ensures.value c.floor-self-inside.ensures)

pub returns-in-Some-clause-there : goal.returns-in-Some-clause-there
returns-in-Some-clause-there c =
    let found = at_first (has_addr c.args.member) c.self.inside.members.items c.in-Some.at (ap (λ ms. position (has_addr c.args.member) ms) (sym c.deref.ensures.value) ∙ sym c.in-Some.ensures.place) in
    sym found.any ∙ ap (λ (p : PoolState). list_any (has_addr c.args.member) p.members) c.self.view_is

pub returns-in-Some-clause-marked : goal.returns-in-Some-clause-marked
returns-in-Some-clause-marked c =
    let found = at_first (has_addr c.args.member) c.self.inside.members.items c.in-Some.at (ap (λ ms. position (has_addr c.args.member) ms) (sym c.deref.ensures.value) ∙ sym c.in-Some.ensures.place) in
    let set = found.changed (λ (m : Marked). record m { up = c.args.up }) c.index_mut.result.now (sym c.index_mut.ensures.value) in
    ap (λ ms. record { method = c.self.inside.method; members = ms; counter = c.self.inside.counter; min_active = c.self.inside.min_active }) (sym set)
    ∙ ap (λ (p : PoolState). record p { members = with_mark c.args.member c.args.up p.members }) c.self.view_is

pub returns-in-None-clause-there : goal.returns-in-None-clause-there
returns-in-None-clause-there c =
    let none = nowhere (has_addr c.args.member) c.self.inside.members.items (ap (λ ms. position (has_addr c.args.member) ms) (sym c.deref.ensures.value) ∙ sym c.in-None.ensures.place) in
    sym none.none ∙ ap (λ (p : PoolState). list_any (has_addr c.args.member) p.members) c.self.view_is

pub returns-in-None-clause-marked : goal.returns-in-None-clause-marked
returns-in-None-clause-marked c =
    let none = nowhere (has_addr c.args.member) c.self.inside.members.items (ap (λ ms. position (has_addr c.args.member) ms) (sym c.deref.ensures.value) ∙ sym c.in-None.ensures.place) in
    sym c.self.view_is
    ∙ ap (λ ms. record { method = c.self.inside.method; members = ms; counter = c.self.inside.counter; min_active = c.self.inside.min_active }) (sym (none.same (λ (m : Marked). record m { up = c.args.up })))
    ∙ ap (λ (p : PoolState). record p { members = with_mark c.args.member c.args.up p.members }) c.self.view_is
