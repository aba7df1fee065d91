use Rattle.std.proofs.Common.{◌≡◌, drop}
use Rattle.toml.specs.View.{items_view}
use Rattle.config.specs.Faults.{after_faults}
use Rattle.config.specs.Texts.{place_of}
use Rattle.pool_monitor.specs.Documents.{items_faults}
use Rattle.pool_monitor.proofs.told.Told.items.Given as goal

abbrev pub invariant-loop-value : goal.invariant-loop-value
invariant-loop-value l =
    let vs = l.values.items in
    let of = items_faults (place_of l.pools) (place_of l.named) in
    (l.at ≡ l.value-index)
    × (after_faults (of 0 (items_view vs)) l.initial.self
    ≡ after_faults (of l.at (items_view (drop l.value-index vs))) l.self)
