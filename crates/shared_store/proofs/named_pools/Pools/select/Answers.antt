use Rattle.std.proofs.Common.{get_or, ap, ◌∙◌}
use Rattle.std.proofs.Math.ListN.{set}
use Rattle.pools.specs.Selection.{after_selection}
use Rattle.shared_store.proofs.FirstPool.{changed_at, unchanged}
use Rattle.shared_store.proofs.named_pools.Pools.select.Goals as goal

pub returns-in-Some : goal.returns-in-Some
returns-in-Some c =
    let named = c.index_mut.result.now in
    ap (λ p. set c.self.inside.items.items c.in-Some.at (record { name = named.name; pool = p })) c.select.ensures.after
    ∙ ap (λ ps. set ps c.in-Some.at (record { name = named.name; pool = after_selection named.pool c.args.wanted })) c.self.view_is
    ∙ changed_at c.args.name.now c.args.self.now c.in-Some.at named (λ p. after_selection p c.args.wanted) (record {
      found = c.in-Some.ensures.place;
      inside = c.in-Some.ensures.inside;
      here = c.index_mut.ensures.value ∙ ap (λ ps. get_or ps c.in-Some.at named) c.self.view_is;
    })

pub returns-in_default : goal.returns-in_default
returns-in_default c = unchanged c.args.name.now c.args.self.now (λ p. after_selection p c.args.wanted) c.in_default.ensures.place
