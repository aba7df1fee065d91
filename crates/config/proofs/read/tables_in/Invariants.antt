use Rattle.std.proofs.Common.{◌≡◌, ◌+◌, ◌≤◌, drop}
use Rattle.toml.specs.View.{items_view}
use Rattle.config.specs.Read.{tables_in}
use Rattle.config.proofs.read.tables_in.Given as goal

abbrev pub invariant-loop-value : goal.invariant-loop-value
invariant-loop-value l =
    (tables_in (items_view l.values.items) ≡ l.count + tables_in (items_view (drop l.value-index l.values.items)))
    × (l.count ≤ l.value-index)
