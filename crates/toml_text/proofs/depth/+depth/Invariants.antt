use Rattle.std.proofs.Common.{◌≤◌, drop}
use Rattle.toml.specs.Data.{items_depth, members_depth}
use Rattle.toml.specs.View.{items_view, members_view}
use Rattle.toml_text.proofs.depth.+depth.Given as goal

abbrev pub invariant-items_fit-items : goal.invariant-items_fit-items
invariant-items_fit-items l =
    items_depth (items_view (drop l.item-index l.item-items)) ≤ l.most
    → items_depth (items_view l.item-items) ≤ l.most

abbrev pub invariant-table_fits-members : goal.invariant-table_fits-members
invariant-table_fits-members l =
    (goal.iterator-table_fits-members).can_next l._key-iterator
    × (goal.iterator-table_fits-members).is_finite l._key-iterator
    × (members_depth (members_view l._key-iterator) ≤ l.most
    → members_depth (members_view l.table.entries) ≤ l.most)
