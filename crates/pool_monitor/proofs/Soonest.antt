-- The least of the next sendings.
use Rattle.std.proofs.Common.{◌≡◌, ℕ, ◌≤◌, List, [], ◌∷◌, drop, length, arith}
use Rattle.std.proofs.lemmas.Grind.{common_steps}
use Rattle.pool_monitor.specs.Pump.{least_next, most}
use Rattle.pool_monitor.specs.declared.probe.ProbedMember.{ProbedMember}

pub least_within : (ps : List ProbedMember) → least_next ps ≤ most
least_within [] = omega arith
least_within (p ∷ ps) = omega (arith, least_within ps)

pub none_left : {A : Type 0} (xs : List A) (i : ℕ) → length xs ≤ i → drop i xs ≡ []
none_left xs i le = grind (arith, common_steps)
