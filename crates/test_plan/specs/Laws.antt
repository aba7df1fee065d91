-- What the moves of a run come to.
use Rattle.std.specs.Prelude.{◌≡◌, ℕ, List, [], ◌∷◌, ◌++◌, Option, Some, None}
use Rattle.test_orders.specs.declared.cut.Cut.{Cut}
use Rattle.test_plan.specs.Plan.{deed_moves, sent_by}
use Rattle.test_plan.specs.declared.plan.TestMove.{TestMove}
use Rattle.test_plan.specs.declared.plan.TestMove.TheVariants.{Sends}
use Rattle.test_text.specs.declared.deed.Deed.{Deed}

-- the bytes that are sent by moves, one behind the other
abbrev pub bytes_sent : List TestMove → List ℕ
bytes_sent [] = []
bytes_sent (Sends step at bytes ∷ ms) = bytes ++ bytes_sent ms
bytes_sent (m ∷ ms) = bytes_sent ms

abbrev pub text_of : Option (List ℕ) → List ℕ
text_of None = []
text_of (Some bytes) = bytes

-- Whatever the cut, a deed sends its whole text.
abbrev pub TextsAreWhole : Type 0
TextsAreWhole = (cut : Cut) (send step at : ℕ) (d : Deed)
    → bytes_sent (deed_moves cut send step at d) ≡ text_of (sent_by d)
