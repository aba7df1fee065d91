use Rattle.std.proofs.Common.{◌≡◌, [], ◌∷◌, ◌++◌, drop, map}
use Rattle.std.specs.List.{flat_map}
use Rattle.test_plan.specs.declared.plan.TestMove.{TestMove}
use Rattle.test_plan.specs.declared.plan.TestMove.TheVariants.{Rests, Sends}
use Rattle.test_plan.proofs.deeds.add_pieces.Given as goal

abbrev pub invariant-loop-piece : goal.invariant-loop-piece
invariant-loop-piece l =
    l.moves ++ flat_map {A = TestMove} (λ m. Rests ∷ (m ∷ [])) (map (λ piece. Sends l.fn.step l.fn.at piece) (drop l.piece-index l.fn.pieces))
    ≡ l.initial.moves ++ flat_map {A = TestMove} (λ m. Rests ∷ (m ∷ [])) (map (λ piece. Sends l.fn.step l.fn.at piece) l.fn.pieces)
