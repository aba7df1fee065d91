use Rattle.std.proofs.Common.{◌≡◌, ◌++◌, drop}
use Rattle.toml.specs.View.{items_view}
use Rattle.config.specs.Settings.{each}
use Rattle.pool_monitor.specs.Made.{monitor_item}
use Rattle.pool_monitor.proofs.made.monitors_in.Given as goal

abbrev pub invariant-loop-value : goal.invariant-loop-value
invariant-loop-value l = each monitor_item (items_view l.values.items) ≡ l.monitors ++ each monitor_item (items_view (drop l.value-index l.values.items))
