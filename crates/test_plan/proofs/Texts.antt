-- A text that is cut is sent whole.
use Rattle.std.proofs.Common.{◌≡◌, ℕ, List, [], ◌∷◌, ◌++◌, map, refl, ap, ◌∙◌, Option, Some, None}
use Rattle.std.specs.List.{concat, flat_map}
use Rattle.test_orders.specs.Cuts.{pieces}
use Rattle.test_orders.specs.declared.cut.Cut.{Cut}
use Rattle.test_orders.proofs.WholePieces.{joined}
use Rattle.test_plan.specs.Laws.{TextsAreWhole, bytes_sent, text_of}
use Rattle.test_plan.specs.Plan.{rested, sending, sent_by}
use Rattle.test_plan.specs.declared.plan.TestMove.{TestMove}
use Rattle.test_plan.specs.declared.plan.TestMove.TheVariants.{Rests, Sends}

behind : (step at : ℕ) (ps : List (List ℕ))
    → bytes_sent (flat_map {A = TestMove} (λ n. Rests ∷ (n ∷ [])) (map (λ piece. Sends step at piece) ps)) ≡ concat ps
behind step at [] = refl
behind step at (p ∷ ps) = ap (λ l. p ++ l) (behind step at ps)

all_pieces : (step at : ℕ) (ps : List (List ℕ)) → bytes_sent (rested (map (λ piece. Sends step at piece) ps)) ≡ concat ps
all_pieces step at [] = refl
all_pieces step at (p ∷ ps) = ap (λ l. p ++ l) (behind step at ps)

whole : (cut : Cut) (send step at : ℕ) (text : Option (List ℕ)) → bytes_sent (sending cut send step at text) ≡ text_of text
whole cut send step at None = refl
whole cut send step at (Some bytes) = all_pieces step at (pieces cut send bytes) ∙ joined cut send bytes

pub texts_are_whole : TextsAreWhole
texts_are_whole cut send step at d = whole cut send step at (sent_by d)
