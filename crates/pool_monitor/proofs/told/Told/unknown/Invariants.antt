use Rattle.std.proofs.Common.{◌≡◌, map}
use Rattle.toml.specs.View.{members_view}
use Rattle.config.specs.Faults.{after_faults}
use Rattle.pool_monitor.specs.Documents.{unknown_faults}
use Rattle.pool_monitor.proofs.told.Told.unknown.Given as goal

abbrev pub invariant-loop-name : goal.invariant-loop-name
invariant-loop-name l =
    let of = unknown_faults l.prefix (map (λ n. n.now) l.names) in
    (goal.iterator-loop-name).can_next l.name-iterator
    × (goal.iterator-loop-name).is_finite l.name-iterator
    × (after_faults (of (members_view l.table.entries)) l.initial.self ≡ after_faults (of (members_view l.name-iterator)) l.self)
