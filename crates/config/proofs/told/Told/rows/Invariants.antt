use Rattle.std.proofs.Common.{◌≡◌, drop}
use Rattle.toml.specs.View.{items_view}
use Rattle.config.specs.Faults.{after_faults}
use Rattle.config.specs.Groups.{rows_from}
use Rattle.config.proofs.told.Told.rows.Given as goal

abbrev pub invariant-loop-value : goal.invariant-loop-value
invariant-loop-value l =
    let vs = l.values.items in
    (l.at ≡ l.value-index)
    × (after_faults (rows_from l.kind l.prefix 0 (items_view vs)) l.initial.self
    ≡ after_faults (rows_from l.kind l.prefix l.at (items_view (drop l.value-index vs))) l.self)
