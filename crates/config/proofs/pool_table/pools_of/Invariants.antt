use Rattle.std.proofs.Common.{◌≡◌, ◌++◌, drop}
use Rattle.toml.specs.View.{items_view}
use Rattle.config.specs.Settings.{each, pool_item}
use Rattle.config.proofs.pool_table.pools_of.Given as goal

abbrev pub invariant-loop-value : goal.invariant-loop-value
invariant-loop-value l = each pool_item (items_view l.values.items) ≡ l.pools ++ each pool_item (items_view (drop l.value-index l.values.items))
