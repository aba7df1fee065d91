-- What a whole expression gives: expr(n), "the result of the expression is returned as the result";
-- a whole number is written in decimal.
use Rattle.std.specs.Prelude.{◌≡◌, ℕ, ℤ, List, codes, Option, Some, None, Ok}
use Rattle.std.specs.Fmt.{signed_decimal}
use Rattle.px_bytes.specs.Whole.{whole}
use Rattle.tcl_expr.specs.Operators.{operator_value_2}
use Rattle.tcl_expr.specs.declared.operator.Op2.TheVariants.{TextEq}

abbrev pub in_decimal : Option ℤ → List ℕ → List ℕ
in_decimal (Some n) text = signed_decimal n
in_decimal None text = text

-- a value that is a whole number, in decimal, and any other as it is
abbrev pub whole_result : List ℕ → List ℕ
whole_result text = in_decimal (whole text) text

-- the result alone is written anew, and no operand: `0x10` is 16, but no text equal to `16`
pub record ResultAlone : Type 0 where
  pub result : whole_result (codes "0x10") ≡ codes "16"
  pub operand : operator_value_2 TextEq (codes "0x10") (codes "16") ≡ Ok (codes "0")
