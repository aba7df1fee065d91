-- The operators of expressions: the value of each, or its fault. Tcl 8.4, expr(n); `contains`,
-- `starts_with`, `ends_with` and `matches_glob` are those of iRules. Operands and values are texts.
use Rattle.std.specs.Prelude.{ℕ, zero, suc, ◌^◌, Bool, not, List, codes, Option, Some, None, Result}
use Rattle.std.specs.Prelude.{Ok, Err, ℤ, pos, negsuc, neg_ℤ, ◌+ℤ◌, ◌-ℤ◌, ◌*ℤ◌, nat_eq, nat_lt}
use Rattle.std.specs.Prelude.{if◌then◌else◌}
use Rattle.std.specs.Fmt.{signed_decimal}
use Rattle.std.specs.Int.{w64, int_div_euclid, int_rem_euclid, int_bit_and, int_bit_or, int_bit_xor}
use Rattle.std.specs.Int.{int_bit_not}
use Rattle.std.specs.List.{starts_with, ends_with}
use Rattle.std.specs.declared.cmp.Ordering.{Ordering}
use Rattle.std.specs.Ordering.{is_eq, is_ne, is_lt, is_gt, is_le, is_ge, nat_cmp, int_cmp}
use Rattle.std.specs.Cmp.Lexicographic.{slice_cmp}
use Rattle.std.specs.Str.{bytes_eq}
use Rattle.px_bytes.specs.Whole.{whole}
use Rattle.px_bytes.specs.declared.fault.TclFault.{TclFault}
use Rattle.px_bytes.specs.FaultText.{out_of_range}
use Rattle.px_bytes.specs.Gives.{with_value}
use Rattle.px_bytes.specs.WholeWord.{number_of}
use Rattle.tcl_expr.specs.OperatorFaults.{not_truth, divide_by_zero}
use Rattle.px_bytes.specs.GlobTest.{matches}
use Rattle.tcl_expr.specs.TextTests.{contains}
use Rattle.tcl_expr.specs.Truth.{truth}
use Rattle.tcl_expr.specs.declared.operator.Op1.{Op1}
use Rattle.tcl_expr.specs.declared.operator.Op2.{Op2}
use Rattle.tcl_expr.specs.declared.operator.Op1.TheVariants.{Plus, Neg, BitNot, Not}
use Rattle.tcl_expr.specs.declared.operator.Op2.TheVariants.{Mul, Div, Mod, Add, Sub, Shl, Shr}
use Rattle.tcl_expr.specs.declared.operator.Op2.TheVariants.{Less, Greater, AtMost, AtLeast, NumEq}
use Rattle.tcl_expr.specs.declared.operator.Op2.TheVariants.{NumNe, TextEq, TextNe, Contains}
use Rattle.tcl_expr.specs.declared.operator.Op2.TheVariants.{StartsWith, EndsWith, MatchesGlob}
use Rattle.tcl_expr.specs.declared.operator.Op2.TheVariants.{BitAnd, BitXor, BitOr}

-- of two operands the first that isn't a whole number is named
abbrev pub with_numbers : {A : Type 0} → List ℕ → List ℕ → (ℤ → ℤ → Result A TclFault)
    → Result A TclFault
with_numbers x y f = with_value (number_of x) (λ a. with_value (number_of y) (f a))

-- from -2^63 to 2^63 - 1
abbrev pub fits : ℤ → Bool
fits (pos n) = nat_lt n (2 ^ 63)
fits (negsuc n) = nat_lt n (2 ^ 63)

-- a number as a value: in decimal, where it is in range
abbrev pub printed : ℤ → Result (List ℕ) TclFault
printed z = if fits z then Ok (signed_decimal z) else Err out_of_range

-- a test as a value
abbrev pub tested : Bool → Result (List ℕ) TclFault
tested holds = Ok (if holds then codes "1" else codes "0")

-- expr(n): the remainder "will always have the same sign as the divisor", so the quotient is
-- rounded down. By a negative divisor both signs are turned.
abbrev pub quotient : ℤ → ℤ → ℤ
quotient a (pos b) = int_div_euclid a (pos b)
quotient a (negsuc b) = int_div_euclid (neg_ℤ a) (pos (suc b))

abbrev pub remainder : ℤ → ℤ → ℤ
remainder a (pos b) = int_rem_euclid a (pos b)
remainder a (negsuc b) = neg_ℤ (int_rem_euclid (neg_ℤ a) (pos (suc b)))

-- a divisor that isn't 0
abbrev pub with_divisor : ℤ → Result (List ℕ) TclFault → Result (List ℕ) TclFault
with_divisor (pos zero) value = Err divide_by_zero
with_divisor (pos (suc b)) value = value
with_divisor (negsuc b) value = value

-- the count of a shift: 0 to 63
abbrev pub count_of : ℤ → Result ℕ TclFault
count_of (pos n) = if nat_lt n 64 then Ok n else Err out_of_range
count_of (negsuc n) = Err out_of_range

-- two texts are compared as numbers where both are whole numbers, and else byte by byte
abbrev pub order_by : Option ℤ → Option ℤ → List ℕ → List ℕ → Ordering
order_by (Some a) (Some b) x y = int_cmp a b
order_by (Some a) None x y = slice_cmp nat_cmp x y
order_by None b x y = slice_cmp nat_cmp x y

abbrev pub order : List ℕ → List ℕ → Ordering
order x y = order_by (whole x) (whole y) x y

-- the opposite of a truth value
abbrev pub opposite_by : Option Bool → List ℕ → Result (List ℕ) TclFault
opposite_by (Some holds) text = tested (not holds)
opposite_by None text = Err (not_truth text)

-- what an operator of one operand gives
abbrev pub operator_value_1 : Op1 → List ℕ → Result (List ℕ) TclFault
operator_value_1 Plus x = with_value (number_of x) printed
operator_value_1 Neg x = with_value (number_of x) (λ a. printed (neg_ℤ a))
operator_value_1 BitNot x = with_value (number_of x) (λ a. printed (int_bit_not w64 a))
operator_value_1 Not x = opposite_by (truth x) x

-- what an operator of two operands gives
abbrev pub operator_value_2 : Op2 → List ℕ → List ℕ → Result (List ℕ) TclFault
operator_value_2 Mul x y = with_numbers x y (λ a b. printed (a *ℤ b))
operator_value_2 Div x y = with_numbers x y (λ a b. with_divisor b (printed (quotient a b)))
operator_value_2 Mod x y = with_numbers x y (λ a b. with_divisor b (printed (remainder a b)))
operator_value_2 Add x y = with_numbers x y (λ a b. printed (a +ℤ b))
operator_value_2 Sub x y = with_numbers x y (λ a b. printed (a -ℤ b))
operator_value_2 Shl x y =
    with_numbers x y (λ a b. with_value (count_of b) (λ n. printed (a *ℤ pos (2 ^ n))))
operator_value_2 Shr x y =
    with_numbers x y (λ a b. with_value (count_of b) (λ n. printed (quotient a (pos (2 ^ n)))))
operator_value_2 Less x y = tested (is_lt (order x y))
operator_value_2 Greater x y = tested (is_gt (order x y))
operator_value_2 AtMost x y = tested (is_le (order x y))
operator_value_2 AtLeast x y = tested (is_ge (order x y))
operator_value_2 NumEq x y = tested (is_eq (order x y))
operator_value_2 NumNe x y = tested (is_ne (order x y))
operator_value_2 TextEq x y = tested (bytes_eq x y)
operator_value_2 TextNe x y = tested (not (bytes_eq x y))
operator_value_2 Contains x y = tested (contains x y)
operator_value_2 StartsWith x y = tested (starts_with nat_eq x y)
operator_value_2 EndsWith x y = tested (ends_with nat_eq x y)
operator_value_2 MatchesGlob x y = tested (matches y x)
operator_value_2 BitAnd x y = with_numbers x y (λ a b. printed (int_bit_and w64 a b))
operator_value_2 BitXor x y = with_numbers x y (λ a b. printed (int_bit_xor w64 a b))
operator_value_2 BitOr x y = with_numbers x y (λ a b. printed (int_bit_or w64 a b))
