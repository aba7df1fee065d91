-- The ticks of a step, as its own counter tells them.
use Rattle.std.proofs.Common.{◌≡◌, ℕ, ◌+◌, ◌-◌, ◌^◌, ◌≤◌, min, arith}
use Rattle.std.proofs.Math.Nat.{min-eq_left}

pub told_ticks : (a t n : ℕ) → a ≡ 0 → t ≤ a + 10 → n ≡ min t (2 ^ 64 - 1) → n ≡ t
told_ticks a t n z few m = let k : min t (2 ^ 64 - 1) ≡ t = min-eq_left (omega (arith, z, few)) in omega (arith, m, k)
