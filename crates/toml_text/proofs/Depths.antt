-- The greater of two depths.
use Rattle.std.proofs.Common.{ℕ, ◌≤◌, max, arith}
use Rattle.std.proofs.lemmas.Bool.Decides.{nat_tests}

pub max_within : (a b n : ℕ) → a ≤ n → b ≤ n → max a b ≤ n
max_within a b n p q = grind (arith, nat_tests)
