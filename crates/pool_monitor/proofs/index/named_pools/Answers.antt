use Rattle.std.proofs.Common.{◌≡◌, ap, ◌+◌, ◌∙◌, get_or, arith, Some}
use Rattle.pool_monitor.specs.Keys.{pool_key}
use Rattle.toml.specs.View.{items_view}
use Rattle.config.specs.Texts.{first_from}
use Rattle.pool_monitor.proofs.Firsts.{more_found}
use Rattle.pool_monitor.proofs.index.named_pools.Goals as goal

pub loop-value-preserved : goal.loop-value-preserved
loop-value-preserved c =
    let l = c.loop-value in
    let key = Some pool_key.name in
    let vs = c.args.values.now.items in
    let v = c.value-item.result in
    let is : v ≡ get_or vs l.value-index v = c.value-item.is ∙ ap (λ xs. get_or xs l.value-index v) c.deref-value-items.ensures.value in (
      ap (λ n. n + 1) l.invariant.0,
      more_found key vs l.value-index v (omega arith) is l.at l.index c.item.new.self
          (first_from 0 key (items_view vs)) c.in_ok-item.ensures l.invariant.1,
    )
