-- Two numbers, and what is done with them.
use Rattle.std.proofs.Common.{◌≡◌, ℤ, List, ℕ, subst, refl}
use Rattle.std.specs.Prelude.{Result, Ok, Err}
use Rattle.std.specs.Result.{IsErr, IsErrAnd}
use Rattle.px_bytes.specs.declared.fault.Raise.{Raise}
use Rattle.px_bytes.specs.declared.fault.TclFault.{TclFault}
use Rattle.px_bytes.proofs.Handed.{value_then, fault_then}
use Rattle.px_bytes.specs.Gives.{Gives, with_value}
use Rattle.px_bytes.specs.WholeWord.{number_of}
use Rattle.tcl_expr.specs.Operators.{with_numbers}

pairs_first : {A : Type 0} (a b : Result ℤ TclFault) (f : ℤ → ℤ → Result A TclFault) → with_value (with_value a (λ m. with_value b (λ n. Ok (m, n)))) (λ (p : ℤ × ℤ). f p.0 p.1) ≡ with_value a (λ m. with_value b (f m))
pairs_first (Ok a) (Ok b) f = refl
pairs_first (Ok a) (Err q) f = refl
pairs_first (Err p) b f = refl

module _ {A : Type 0} (x y : List ℕ) (f : ℤ → ℤ → Result A TclFault) (r : Result A Raise) where
  -- both numbers, and what is done with them
  pub numbers_then : (a b : ℤ) → Gives {A = ℤ × ℤ} (Ok (a, b)) (with_numbers x y (λ a b. Ok (a, b))) → Gives r (f a b) → Gives r (with_numbers x y f)
  numbers_then a b given done =
      subst (Gives r) (pairs_first (number_of x) (number_of y) f) (value_then (with_numbers x y (λ a b. Ok (a, b))) (λ (p : ℤ × ℤ). f p.0 p.1) (a, b) r given done)

  -- or no numbers
  pub numbers_fault : (e : Raise) → IsErr r × IsErrAnd r (λ q. q ≡ e) → Gives {A = ℤ × ℤ} (Err e) (with_numbers x y (λ a b. Ok (a, b))) → Gives r (with_numbers x y f)
  numbers_fault e handed given =
      subst (Gives r) (pairs_first (number_of x) (number_of y) f) (fault_then (with_numbers x y (λ a b. Ok (a, b))) (λ (p : ℤ × ℤ). f p.0 p.1) e r handed given)
