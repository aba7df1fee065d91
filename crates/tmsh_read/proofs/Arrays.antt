-- How long arrays are.
use Rattle.std.proofs.Common.{◌≡◌, ℕ, ◌<◌, false, ltb, List, [], ◌∷◌, length, refl, sym, arith}
use Rattle.std.proofs.lemmas.Bool.{lt-ltb}
use Rattle.toml.specs.Data.{Members, array}
use Rattle.toml.specs.View.{items_view}
use Rattle.toml.specs.declared.value.Value.{Value}
use Rattle.tmsh_read.specs.Reading.{with_array}
use Rattle.tmsh_read.specs.Sketch.{has_value}
use Rattle.tmsh_read.specs.Tables.{with_member}

pub more_than_one : (vs : List Value) → ltb 1 (length vs) ≡ has_value (items_view vs)
more_than_one [] = refl
more_than_one (v ∷ []) = refl
more_than_one (v ∷ (w ∷ vs)) = lt-ltb 1 (length (v ∷ (w ∷ vs))) (omega arith)

pub some_put : (k : List ℕ) (vs : List Value) (ms : Members) → 0 < length vs → with_member k (array (items_view vs)) ms ≡ with_array k (items_view vs) ms
some_put k [] ms some = absurd (omega arith)
some_put k (v ∷ vs) ms some = refl
