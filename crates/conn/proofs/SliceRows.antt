-- Which Runs spend a slice.
use Rattle.std.proofs.Common.{◌≡◌, refl, []}
use Rattle.conn.specs.RunsItems.{slices_in}
use Rattle.conn.specs.declared.turn.ConnTurn.TheVariants as turn

slice_rows : (slices_in turn.More 0 ≡ 1) × (slices_in turn.More 63 ≡ 1) × (slices_in turn.More 64 ≡ 0) × (slices_in (turn.Asks []) 0 ≡ 0) × (slices_in turn.NotYet 0 ≡ 0) × (slices_in turn.Over 0 ≡ 0)
slice_rows = (refl, refl, refl, refl, refl, refl)
