-- Exact results in 128 bits.
use Rattle.std.proofs.Common.{◌≡◌, ℤ, pos, negsuc, neg_ℤ, ◌*ℤ◌, Bool, true, false, cond, ltb, List}
use Rattle.std.proofs.Common.{ℕ, zero, suc, ◌-◌, ◌*◌, ◌%◌, ◌^◌, ◌<◌, ◌≤◌, ap, refl, ◌∙◌, subst}
use Rattle.std.proofs.Common.{arith, to_z, of_z}
use Rattle.std.specs.Prelude.{Result, Ok, Err, unsigned_abs}
use Rattle.std.specs.Int.{w64, w128, int_rem_euclid}
use lib.Signed.{mag, lt_z, shr_z, mag_shr}
use Rattle.std.proofs.lemmas.Bool.{ltb-true}
use Rattle.std.proofs.lemmas.Int.{to_z-of_z, fits_signed_mul}
use Rattle.std.proofs.lemmas.Nat.{one_shl}
use Rattle.std.proofs.Math.Nat.{pow-le-pow_right}
use mir.Val.{SFits}
use Rattle.px_bytes.specs.declared.fault.Raise.{Raise}
use Rattle.px_bytes.specs.declared.fault.TclFault.{TclFault}
use Rattle.px_bytes.specs.FaultText.{out_of_range}
use Rattle.px_bytes.specs.Gives.{Gives}
use Rattle.tcl_expr.specs.OperatorFaults.{divide_by_zero}
use Rattle.tcl_expr.specs.Operators.{printed, quotient, remainder, with_divisor, count_of}

-- what was printed is the wanted number
pub exactly : (r : Result (List ℕ) Raise) (z wanted : ℤ) → SFits w128 z → z ≡ wanted → Gives r (printed (to_z w128 (of_z w128 z))) → Gives r (printed wanted)
exactly r z wanted fits same given = subst (λ n. Gives r (printed n)) (to_z-of_z w128 z fits ∙ same) given

-- a number of 64 bits, widened
pub widened : (a wide : ℤ) → SFits w64 a → wide ≡ to_z w64 (of_z w64 a) → mag wide < 2 ^ 127 → to_z w128 (of_z w128 wide) ≡ a
widened a wide fits e small = to_z-of_z w128 wide (record { sfits = small }) ∙ e ∙ to_z-of_z w64 a fits

-- DIVISORS

pub divisor_zero : (b : ℤ) (v : Result (List ℕ) TclFault) → SFits w64 b → of_z w64 b ≡ 0 → with_divisor b v ≡ Err divide_by_zero
divisor_zero (pos zero) v fits e = refl
divisor_zero (pos (suc n)) v fits e = cc
divisor_zero (negsuc n) v fits e =
    let small : n < 2 ^ 63 = fits.sfits in
    let none : 2 ^ 64 - suc n ≡ 0 = e in absurd (omega arith)

pub divisor_other : (b : ℤ) (v : Result (List ℕ) TclFault) → (of_z w64 b ≡ 0 → ⊥) → with_divisor b v ≡ v
divisor_other (pos zero) v other = absurd (other refl)
divisor_other (pos (suc n)) v other = refl
divisor_other (negsuc n) v other = refl

-- by a negative divisor
pub turned : (a b rem x y : ℤ) → lt_z b (pos 0) ≡ true → x ≡ neg_ℤ a → y ≡ neg_ℤ b → rem ≡ int_rem_euclid x y → neg_ℤ rem ≡ remainder a b
turned a (pos zero) rem x y below e f g = cc
turned a (pos (suc n)) rem x y below e f g = let no : suc n < 0 = ltb-true (suc n) 0 below in absurd (omega arith)
turned a (negsuc n) rem x y below e f g = ap neg_ℤ (g ∙ ap (λ p. int_rem_euclid p y) e ∙ ap (int_rem_euclid (neg_ℤ a)) f)

-- SHIFTS

count_by : (m n : ℕ) (t : Bool) → ltb m 64 ≡ t → cond t (Ok m) (Err out_of_range) ≡ Ok n → n < 64
count_by m n true e h = let same : m ≡ n = cc in subst (λ k. k < 64) same (ltb-true m 64 e)
count_by m n false e h = cc

pub count_below : (b : ℤ) (n : ℕ) → count_of b ≡ Ok n → n < 64
count_below (pos m) n h = count_by m n (ltb m 64) refl h
count_below (negsuc m) n h = cc

pub power : (wide : ℤ) (n : ℕ) → n < 64 → wide ≡ pos ((1 * 2 ^ n) % 2 ^ 64) → wide ≡ pos (2 ^ n)
power wide n small e = e ∙ ap pos (one_shl n 64 small)

pub shift_rounds_down : (a : ℤ) (d : ℕ) → shr_z a d ≡ quotient a (pos d)
shift_rounds_down (pos n) d = refl
shift_rounds_down (negsuc n) d = refl

-- a shift of a number of 64 bits
pub shifted_down : (a wide : ℤ) (d : ℕ) → SFits w64 a → wide ≡ to_z w64 (of_z w64 (shr_z (to_z w64 (of_z w64 a)) d)) → wide ≡ quotient a (pos d)
shifted_down a wide d fits e =
    let low : mag a < 2 ^ 63 = fits.sfits in
    let lower : mag (shr_z a d) < 2 ^ 63 = omega (arith, mag_shr a d) in
    e ∙ ap (λ m. to_z w64 (of_z w64 (shr_z m d))) (to_z-of_z w64 a fits) ∙ to_z-of_z w64 (shr_z a d) (record { sfits = lower }) ∙ shift_rounds_down a d

abs_small : (a : ℤ) → SFits w64 a → unsigned_abs a ≤ 2 ^ 63
abs_small (pos n) fits = let small : n < 2 ^ 63 = fits.sfits in omega arith
abs_small (negsuc n) fits = let small : n < 2 ^ 63 = fits.sfits in omega arith

power_small : (n : ℕ) → n < 64 → 2 ^ n ≤ 2 ^ 63
power_small n small = pow-le-pow_right {n = 2} (omega arith) {i = n} {j = 63} (omega arith)

pub shift_fits : (a : ℤ) (n : ℕ) → SFits w64 a → n < 64 → SFits w128 (a *ℤ pos (2 ^ n))
shift_fits a n fits small = fits_signed_mul w128 a (pos (2 ^ n)) (2 ^ 63) (2 ^ 63) (abs_small a fits) (power_small n small) (omega arith)
