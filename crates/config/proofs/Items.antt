-- Arrays of TOML beside the lists that the code goes through.
use Rattle.std.proofs.Common.{◌≡◌, ◌≢◌, suc, List, [], ◌∷◌, None, length, refl, ap}
use Rattle.toml.specs.View.{items_view}
use Rattle.toml.specs.declared.value.Value.{Value}
use Rattle.config.specs.Groups.{row_in}
use Rattle.config.specs.Values.{items_length}

pub length_of_items : (vs : List Value) → length vs ≡ items_length (items_view vs)
length_of_items [] = refl
length_of_items (v ∷ vs) = ap suc (length_of_items vs)

-- arrays of no one or two items are no rows
pub no_row : (vs : List Value) → length vs ≢ 1 → length vs ≢ 2 → None ≡ row_in (items_view vs)
no_row [] h g = refl
no_row (v ∷ []) h g = absurd (h refl)
no_row (v ∷ w ∷ []) h g = absurd (g refl)
no_row (v ∷ w ∷ x ∷ vs) h g = refl
