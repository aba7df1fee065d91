use Rattle.std.proofs.Common.{◌≡◌, ◌++◌, drop}
use Rattle.toml.specs.View.{items_view}
use Rattle.config.specs.Settings.{each, server_item}
use Rattle.config.proofs.server_table.servers_of.Given as goal

abbrev pub invariant-loop-value : goal.invariant-loop-value
invariant-loop-value l = each server_item (items_view l.values.items) ≡ l.servers ++ each server_item (items_view (drop l.value-index l.values.items))
