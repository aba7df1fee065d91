use Rattle.std.proofs.Common.{get_or, ap, ◌∙◌}
use Rattle.std.specs.Option.{option_copied}
use Rattle.shared_store.proofs.FirstPool.{no_pool, pool_at}
use Rattle.shared_store.proofs.named_pools.Pools.find.Goals as goal

pub returns-in_err-at : goal.returns-in_err-at
returns-in_err-at c = ap (λ o. option_copied o) c.from_residual.ensures ∙ no_pool c.args.name.now c.args.self.now c.in_err-at.ensures.place

pub returns : goal.returns
returns c =
    pool_at c.args.name.now c.args.self.now c.in_ok-at.at c.index.result.now (record {
      found = c.in_ok-at.ensures.place;
      inside = c.in_ok-at.ensures.inside;
      here = c.index.ensures ∙ ap (λ ps. get_or ps c.in_ok-at.at c.index.result.now) c.self.view_is;
    })
