use Rattle.std.proofs.Common.{◌≡◌, drop}
use Rattle.toml.specs.View.{items_view}
use Rattle.config.specs.Documents.{names_of, section_from}
use Rattle.config.specs.Faults.{after_faults}
use Rattle.config.proofs.told.Told.items.Given as goal

abbrev pub invariant-loop-value : goal.invariant-loop-value
invariant-loop-value l =
    let vs = l.values.items in
    (l.at ≡ l.value-index)
    × (after_faults (section_from (names_of l.known) l.section 0 (items_view vs)) l.initial.self
    ≡ after_faults (section_from (names_of l.known) l.section l.at (items_view (drop l.value-index vs))) l.self)
