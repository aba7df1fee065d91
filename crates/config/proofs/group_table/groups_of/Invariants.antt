use Rattle.std.proofs.Common.{◌≡◌, ◌++◌, drop}
use Rattle.toml.specs.View.{items_view}
use Rattle.config.specs.Settings.{each, group_item}
use Rattle.config.proofs.group_table.groups_of.Given as goal

abbrev pub invariant-loop-value : goal.invariant-loop-value
invariant-loop-value l = each group_item (items_view l.values.items) ≡ l.groups ++ each group_item (items_view (drop l.value-index l.values.items))
