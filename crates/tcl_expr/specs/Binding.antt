-- How the rows of operators bind, over the whole table: Tcl 8.4, expr(n), "grouped in decreasing order
-- of precedence".
use Rattle.std.specs.Prelude.{◌≡◌, ℕ, List, [], ◌∷◌, ◌++◌, codes, Option, Some, None, Ok}
use Rattle.tcl_expr.specs.Expression.{Expression, literal, prefixed, row, no_more, more}
use Rattle.tcl_expr.specs.ExpressionReading.{expression}
use Rattle.tcl_expr.specs.Tokens.{signs, products, sums, shifts, orders, equalities, text_tests}
use Rattle.tcl_expr.specs.Tokens.{bit_ands, bit_xors, bit_ors, opposites, ands, ors}
use Rattle.tcl_expr.specs.declared.expr.Joint.{Joint}
use Rattle.tcl_expr.specs.declared.operator.Op1.{Op1}

abbrev pub Prefix : Type 0
Prefix = List ℕ × Option Op1

abbrev pub Between : Type 0
Between = List ℕ × Option Joint

abbrev pub one : Expression
one = literal (codes "1")

-- two operands
abbrev pub joint_of : Expression → Joint → Expression → Expression
joint_of a o b = row a (more o b no_more)

-- `1 W 1 V 1`
abbrev pub between : List ℕ → List ℕ → List ℕ
between w v = codes "1 " ++ w ++ codes " 1 " ++ v ++ codes " 1"

-- the operator of the tighter row binds first, on either side
abbrev pub BindsFirst : Between → Between → Type 0
BindsFirst (w, Some o) (v, Some p) =
    (expression (between w v) ≡ Ok (joint_of (joint_of one o one) p one))
    × (expression (between v w) ≡ Ok (joint_of one p (joint_of one o one)))
BindsFirst w v = Unit {0}

abbrev pub EachBindsFirst : Between → List Between → Type 0
EachBindsFirst w [] = Unit {0}
EachBindsFirst w (v ∷ looser) = BindsFirst w v × EachBindsFirst w looser

abbrev pub BindTighter : List Between → List Between → Type 0
BindTighter [] looser = Unit {0}
BindTighter (w ∷ tighter) looser = EachBindsFirst w looser × BindTighter tighter looser

-- each row binds tighter than the next
abbrev pub InOrder : List (List Between) → Type 0
InOrder [] = Unit {0}
InOrder (last ∷ []) = Unit {0}
InOrder (tighter ∷ (next ∷ rows)) = BindTighter tighter next × InOrder (next ∷ rows)

abbrev pub RowsBindInOrder : Type 0
RowsBindInOrder = InOrder (products ∷ sums ∷ shifts ∷ orders ∷ equalities ∷ text_tests ∷ bit_ands
    ∷ bit_xors ∷ bit_ors ∷ ands ∷ ors ∷ [])

-- an operator before an operand, and one behind it, of which the first or the second binds first
abbrev pub PrefixFirst : Prefix → Between → Type 0
PrefixFirst (w, Some op) (v, Some p) =
    expression (w ++ codes " 1 " ++ v ++ codes " 1") ≡ Ok (joint_of (prefixed (op ∷ []) one) p one)
PrefixFirst w v = Unit {0}

abbrev pub PrefixLast : Prefix → Between → Type 0
PrefixLast (w, Some op) (v, Some p) =
    expression (w ++ codes " 1 " ++ v ++ codes " 1") ≡ Ok (prefixed (op ∷ []) (joint_of one p one))
PrefixLast w v = Unit {0}

abbrev pub Each : (Prefix → Between → Type 0) → Prefix → List Between → Type 0
Each P w [] = Unit {0}
Each P w (v ∷ vs) = P w v × Each P w vs

abbrev pub EachOf : (Prefix → Between → Type 0) → List Prefix → List Between → Type 0
EachOf P [] vs = Unit {0}
EachOf P (w ∷ ws) vs = Each P w vs × EachOf P ws vs

-- signs bind tighter than products; `not` binds looser than all that stands above it in the table,
-- comparisons among it, and tighter than `&&`
pub record PrefixesBind : Type 0 where
  pub signs_first : EachOf PrefixFirst signs products
  pub not_behind_products : EachOf PrefixLast opposites products
  pub not_behind_orders : EachOf PrefixLast opposites orders
  pub not_behind_equalities : EachOf PrefixLast opposites equalities
  pub not_behind_text_tests : EachOf PrefixLast opposites text_tests
  pub not_behind_bit_ors : EachOf PrefixLast opposites bit_ors
  pub not_before_ands : EachOf PrefixFirst opposites ands

-- operators of one row group from the left: they stand side by side, in their order
abbrev pub SideBySide : Between → Between → Type 0
SideBySide (w, Some o) (v, Some p) =
    expression (between w v) ≡ Ok (row one (more o one (more p one no_more)))
SideBySide w v = Unit {0}

abbrev pub EachSideBySide : Between → List Between → Type 0
EachSideBySide w [] = Unit {0}
EachSideBySide w (v ∷ vs) = SideBySide w v × EachSideBySide w vs

abbrev pub RowGroups : List Between → List Between → Type 0
RowGroups [] vs = Unit {0}
RowGroups (w ∷ ws) vs = EachSideBySide w vs × RowGroups ws vs

pub record RowsGroupFromTheLeft : Type 0 where
  pub products : RowGroups products products
  pub sums : RowGroups sums sums
  pub shifts : RowGroups shifts shifts
  pub ands : RowGroups ands ands
  pub ors : RowGroups ors ors
