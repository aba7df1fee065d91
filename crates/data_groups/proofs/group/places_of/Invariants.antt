use Rattle.std.proofs.Common.{◌≡◌, ℕ, List, None, take}
use Rattle.data_groups.specs.Groups.{bad_key}
use Rattle.data_groups.specs.Index.{first_with, place_of}
use Rattle.data_groups.proofs.group.places_of.Given as goal

abbrev pub invariant-loop-at : goal.invariant-loop-at
invariant-loop-at l =
    ((bytes : List ℕ) → place_of l.places bytes ≡ first_with l.kind (take l.at l.rows) bytes) × (bad_key l.kind (take l.at l.rows) ≡ None)
