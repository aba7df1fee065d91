use Rattle.std.proofs.Common.{◌≡◌, ◌++◌, drop}
use Rattle.toml.specs.View.{items_view}
use Rattle.config.specs.Settings.{each, row_item}
use Rattle.config.proofs.group_table.rows_of.Given as goal

abbrev pub invariant-loop-value : goal.invariant-loop-value
invariant-loop-value l = each row_item (items_view l.values.items) ≡ l.rows ++ each row_item (items_view (drop l.value-index l.values.items))
