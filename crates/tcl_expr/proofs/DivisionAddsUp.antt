-- Quotients times their divisor, and remainders, add up.
use Rattle.std.proofs.Common.{◌≡◌, ℤ, pos, negsuc, neg_ℤ, ◌+ℤ◌, ◌*ℤ◌, ℕ, zero, suc, ◌+◌, ◌-◌, ◌*◌}
use Rattle.std.proofs.Common.{◌/◌, ◌%◌, ◌<◌, ap, refl, arith}
use Rattle.std.proofs.lemmas.Nat.{div-add-mod'}
use Rattle.tcl_expr.specs.Operators.{quotient, remainder}
use Rattle.tcl_expr.specs.DivisionLaw.{DivisionAddsUp}
use borrow.Author.Differences.{same_in, same_out, sum_is_lem, neg_is, product_is}

succ_times : (m d : ℕ) → suc m * d ≡ m * d + d
succ_times m d = omega arith

mod_small : (n b : ℕ) → n % suc b < suc b
mod_small n b = omega arith

by_positive : (a : ℤ) (b : ℕ) → quotient a (pos (suc b)) *ℤ pos (suc b) +ℤ remainder a (pos (suc b)) ≡ a
by_positive (pos n) b = ap pos (div-add-mod' n (suc b))
by_positive (negsuc n) b =
    let q = n / suc b in
    let r = pos (suc b - 1 - n % suc b) in
    let p = product_is (negsuc q) (pos (suc b)) in
    let s = sum_is_lem (negsuc q *ℤ pos (suc b)) r in
    let w = div-add-mod' n (suc b) in
    let t = succ_times q (suc b) in
    let l = mod_small n b in
    same_in (negsuc q *ℤ pos (suc b) +ℤ r) (negsuc n) (omega (arith, p, s, w, t, l))

left_positive : (a : ℤ) (b : ℕ) → (n : ℕ) × (remainder a (pos (suc b)) ≡ pos n) × (n < suc b)
left_positive (pos m) b = (m % suc b, refl, mod_small m b)
left_positive (negsuc m) b = (suc b - 1 - m % suc b, refl, omega (arith, mod_small m b))

-- by a negative divisor both signs are turned
by_negative : (a : ℤ) (b : ℕ) → quotient a (negsuc b) *ℤ negsuc b +ℤ remainder a (negsuc b) ≡ a
by_negative a b =
    let q = quotient a (negsuc b) in
    let e = by_positive (neg_ℤ a) b in
    let rest = remainder (neg_ℤ a) (pos (suc b)) in
    let p = product_is q (pos (suc b)) in
    let s = sum_is_lem (q *ℤ pos (suc b)) rest in
    let p2 = product_is q (negsuc b) in
    let s2 = sum_is_lem (q *ℤ negsuc b) (neg_ℤ rest) in
    let same = same_out (q *ℤ pos (suc b) +ℤ rest) (neg_ℤ a) e in
    same_in (q *ℤ negsuc b +ℤ neg_ℤ rest) a (omega (arith, p, s, p2, s2, same, neg_is a, neg_is rest))

left_negative : (a : ℤ) (b : ℕ) → (n : ℕ) × (remainder a (negsuc b) ≡ neg_ℤ (pos n)) × (n < suc b)
left_negative a b = let l = left_positive (neg_ℤ a) b in (l.0, ap neg_ℤ l.1, l.2)

pub division_adds_up : DivisionAddsUp
division_adds_up a (pos zero) other = absurd (other refl)
division_adds_up a (pos (suc b)) other = record { adds_up = by_positive a b; left = left_positive a b }
division_adds_up a (negsuc b) other = record { adds_up = by_negative a b; left = left_negative a b }
