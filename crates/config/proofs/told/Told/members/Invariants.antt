use Rattle.std.proofs.Common.{◌≡◌, drop}
use Rattle.toml.specs.View.{items_view}
use Rattle.config.specs.Faults.{after_faults}
use Rattle.config.specs.Texts.{place_of}
use Rattle.config.specs.Pools.{members_from}
use Rattle.config.proofs.told.Told.members.Given as goal

abbrev pub invariant-loop-value : goal.invariant-loop-value
invariant-loop-value l =
    let vs = l.values.items in
    (l.at ≡ l.value-index)
    × (after_faults (members_from l.own.version (place_of l.own.places) l.prefix 0 (items_view vs)) l.initial.self
    ≡ after_faults (members_from l.own.version (place_of l.own.places) l.prefix l.at (items_view (drop l.value-index vs))) l.self)
