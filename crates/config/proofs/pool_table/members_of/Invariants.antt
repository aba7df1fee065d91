use Rattle.std.proofs.Common.{◌≡◌, ◌++◌, drop}
use Rattle.toml.specs.View.{items_view}
use Rattle.config.specs.Settings.{each, member_item}
use Rattle.config.proofs.pool_table.members_of.Given as goal

abbrev pub invariant-loop-value : goal.invariant-loop-value
invariant-loop-value l = each member_item (items_view l.values.items) ≡ l.members ++ each member_item (items_view (drop l.value-index l.values.items))
