use Rattle.std.proofs.Common.{get_or, sym, ap, ◌∙◌}
use Rattle.std.proofs.Math.ListN.{set}
use Rattle.pools.specs.Pools.{PoolState, with_mark}
use Rattle.shared_store.specs.Store.{has_member}
use Rattle.shared_store.proofs.FirstPool.{changed_at, no_pool, pool_at, unchanged}
use Rattle.shared_store.proofs.Unmarked.{nothing_marked}
use Rattle.shared_store.proofs.named_pools.Pools.mark.Goals as goal

pub returns-in-Some-clause-there : goal.returns-in-Some-clause-there
returns-in-Some-clause-there c =
    c.mark.ensures.there
    ∙ ap (has_member c.args.member) (pool_at c.args.name.now c.args.self.now c.in-Some.at c.index_mut.result.now (record {
      found = c.in-Some.ensures.place;
      inside = c.in-Some.ensures.inside;
      here = c.index_mut.ensures.value ∙ ap (λ ps. get_or ps c.in-Some.at c.index_mut.result.now) c.self.view_is;
    }))

pub returns-in-Some-clause-marked : goal.returns-in-Some-clause-marked
returns-in-Some-clause-marked c =
    let named = c.index_mut.result.now in
    let change = λ (p : PoolState). record p { members = with_mark c.args.member c.args.up p.members } in
    ap (λ p. set c.self.inside.items.items c.in-Some.at (record { name = named.name; pool = p })) c.mark.ensures.marked
    ∙ ap (λ ps. set ps c.in-Some.at (record { name = named.name; pool = change named.pool })) c.self.view_is
    ∙ changed_at c.args.name.now c.args.self.now c.in-Some.at named change (record {
      found = c.in-Some.ensures.place;
      inside = c.in-Some.ensures.inside;
      here = c.index_mut.ensures.value ∙ ap (λ ps. get_or ps c.in-Some.at named) c.self.view_is;
    })

pub returns-in-None-clause-there : goal.returns-in-None-clause-there
returns-in-None-clause-there c = ap (has_member c.args.member) (no_pool c.args.name.now c.args.self.now c.in-None.ensures.place)

pub returns-in-None-clause-marked : goal.returns-in-None-clause-marked
returns-in-None-clause-marked c =
    unchanged c.args.name.now c.args.self.now (λ (p : PoolState). record p { members = with_mark c.args.member c.args.up p.members }) c.in-None.ensures.place

pub returns-in-Some-clause-same : goal.returns-in-Some-clause-same
returns-in-Some-clause-same c h =
    returns-in-Some-clause-marked c
    ∙ nothing_marked c.args.name.now c.args.member c.args.up c.args.self.now (sym (returns-in-Some-clause-there c) ∙ h)
