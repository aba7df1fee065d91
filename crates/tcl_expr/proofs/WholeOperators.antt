-- Operators on texts that are whole numbers.
use Rattle.std.proofs.Common.{◌≡◌, ◌<◌, ℕ, zero, suc, ◌^◌, ℤ, pos, negsuc, Bool, true, false, cond, List, refl, sym, ap, subst, ◌∙◌, arith, FitsSigned}
use Rattle.std.specs.Prelude.{Option, Some, None, Result, Ok, Err, IfSome, SomeIff, codes}
use Rattle.std.specs.Fmt.{decimal, digits, signed_decimal}
use Rattle.std.specs.Int.{w64}
use Rattle.std.specs.Ordering.{int_cmp}
use Rattle.std.specs.declared.cmp.Ordering.{Ordering}
use mir.Val.{SFits}
use Rattle.px_bytes.specs.Whole.{whole}
use Rattle.px_bytes.specs.declared.fault.TclFault.{TclFault}
use Rattle.px_bytes.specs.Gives.{with_value}
use Rattle.px_bytes.specs.WholeWord.{number_by}
use Rattle.tcl_expr.specs.Operators.{fits, order, order_by, printed, tested, with_numbers}
use Rattle.std.proofs.lemmas.Bool.{cond-true, lt-ltb}

-- the numbers are those that the texts are
pub of_numbers : {A : Type 0} (x y : List ℕ) (a b : ℤ) (f : ℤ → ℤ → Result A TclFault) → whole x ≡ Some a → whole y ≡ Some b → with_numbers x y f ≡ f a b
of_numbers x y a b f e g = rw (e, g) refl

pub tested_of_numbers : (x y : List ℕ) (a b : ℤ) (f : Ordering → Bool) (r : Option ℤ) → whole x ≡ Some a → whole y ≡ Some b
    → IfSome r (λ n. tested (f (int_cmp a b)) ≡ Ok (signed_decimal n)) → IfSome r (λ n. tested (f (order x y)) ≡ Ok (signed_decimal n))
tested_of_numbers x y a b f r e g h = rw (e, g) h

pub order_of_numbers : (x y : List ℕ) (a b : ℤ) → whole x ≡ Some a → whole y ≡ Some b → order x y ≡ int_cmp a b
order_of_numbers x y a b e g = rw (e, g) refl

-- a number of 64 bits is in range
pub in_range : (n : ℤ) → SFits w64 n → fits n ≡ true
in_range (pos n) h = lt-ltb n (2 ^ 63) h.sfits
in_range (negsuc n) h = lt-ltb n (2 ^ 63) h.sfits

pub printed_fits : (n : ℤ) → SFits w64 n → printed n ≡ Ok (signed_decimal n)
printed_fits n h = cond-true _ _ _ (in_range n h)

-- a result in range
pub printed_some : (r : Option ℤ) (z : ℤ) → SomeIff r (FitsSigned w64 z) z → IfSome r (λ n. printed z ≡ Ok (signed_decimal n))
printed_some None z h = tt
printed_some (Some n) z h = printed_fits z h.0 ∙ ap (λ m. Ok (signed_decimal m)) (sym h.1)

-- a test's answer
pub one : decimal 1 ≡ codes "1"
unfolding digits
one = refl

pub none : decimal 0 ≡ codes "0"
unfolding digits
none = refl
