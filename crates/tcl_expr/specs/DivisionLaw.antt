-- What quotient and remainder have to do with one another: expr(n), "the remainder will always have
-- the same sign as the divisor and an absolute value smaller than the divisor".
use Rattle.std.specs.Prelude.{◌≡◌, ◌≢◌, ◌<◌, ℕ, suc, ℤ, pos, negsuc, neg_ℤ, ◌+ℤ◌, ◌*ℤ◌}
use Rattle.tcl_expr.specs.Operators.{quotient, remainder}

-- it is 0, or has the divisor's sign, and is smaller
abbrev pub IsLeftBy : ℤ → ℤ → Type 0
IsLeftBy (pos b) r = (n : ℕ) × (r ≡ pos n) × (n < b)
IsLeftBy (negsuc b) r = (n : ℕ) × (r ≡ neg_ℤ (pos n)) × (n < suc b)

pub record Divides (a b : ℤ) : Type 0 where
  pub adds_up : quotient a b *ℤ b +ℤ remainder a b ≡ a
  pub left : IsLeftBy b (remainder a b)

abbrev pub DivisionAddsUp : Type 0
DivisionAddsUp = (a b : ℤ) → b ≢ pos 0 → Divides a b
