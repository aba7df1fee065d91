use Rattle.std.proofs.Common.{◌≡◌, ◌≤◌, ◌∷◌, [], get_or, refl, arith}
use Rattle.std.proofs.lemmas.Grind.{common_steps}
use Rattle.toml.proofs.Views.{Entry, items_view-drop}
use Rattle.toml.specs.Data.{depth, items_depth, members_depth}
use Rattle.toml.specs.View.{items_view, members_view, view}
use Rattle.toml_text.proofs.Depths.{max_within}
use Rattle.toml_text.proofs.depth.+depth.Goals as goal

pub items_fit-items-preserved : goal.items_fit-items-preserved
items_fit-items-preserved c c' =
    let xs = c'.deref-item-items.result.now in
    let i = c'.items.item-index in
    let item = c'.item-item.result in
    let fits : depth (view item) ≤ c'.args.most = c'.value_fits.ensures (grind (arith, common_steps)) in
    let at : get_or xs i item ≡ item = grind (arith, common_steps) in
    let step = items_view-drop xs i item c'.items-test.true in
    λ rest. c'.items.invariant (rw (step, at) (max_within _ _ _ fits rest))

pub table_fits-members-preserved : goal.table_fits-members-preserved
table_fits-members-preserved c c' =
    let e : Entry = (c'.in-Some._key.now, c'.in-Some.member.now) in
    let iter : c'.members._key-iterator ≡ e ∷ c'.next.new.self = grind (arith, common_steps) in
    let fits : depth (view e.1) ≤ c'.args.most = c'.value_fits.ensures (grind (arith, common_steps)) in
    (tt, tt, λ rest. c'.members.invariant.2 (rw iter (max_within _ _ _ fits rest)))
