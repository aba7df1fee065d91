-- The tokens of expressions: Tcl 8.4, expr(n); the words beside `eq` and `ne` are those of iRules.
-- All places are places in the whole text.
use Rattle.std.specs.Prelude.{ℕ, ◌+◌, List, [], ◌∷◌, length, drop, slice_index, Bool, ◌&&◌, ◌||◌}
use Rattle.std.specs.Prelude.{◌==◌, nat_eq, nat_lt, Option, Some, None, codes, if◌then◌else◌}
use Rattle.std.specs.Char.{is_digit}
use Rattle.std.specs.List.{starts_with}
use Rattle.px_bytes.specs.White.{is_space}
use Rattle.tcl_words.specs.Places.{stands, skips_newline, after_blank}
use Rattle.tcl_words.specs.Skips.{skip, turns}
use Rattle.tcl_expr.specs.declared.expr.Joint.{Joint}
use Rattle.tcl_expr.specs.declared.expr.Joint.TheVariants.{Both, And, Or}
use Rattle.tcl_expr.specs.declared.operator.Op1.{Op1}
use Rattle.tcl_expr.specs.declared.operator.Op1.TheVariants.{Plus, Neg, BitNot, Not}
use Rattle.tcl_expr.specs.declared.operator.Op2.TheVariants.{Mul, Div, Mod, Add, Sub, Shl, Shr}
use Rattle.tcl_expr.specs.declared.operator.Op2.TheVariants.{Less, Greater, AtMost, AtLeast, NumEq}
use Rattle.tcl_expr.specs.declared.operator.Op2.TheVariants.{NumNe, TextEq, TextNe, Contains}
use Rattle.tcl_expr.specs.declared.operator.Op2.TheVariants.{StartsWith, EndsWith, MatchesGlob}
use Rattle.tcl_expr.specs.declared.operator.Op2.TheVariants.{BitAnd, BitXor, BitOr}

-- "white space may be used between the operands and operators": one of its six bytes, or a
-- backslash-newline
unfoldable pub white_stands : List ℕ → ℕ → Bool
white_stands text at =
    nat_lt at (length text) && is_space (slice_index text at) || skips_newline text at

-- the place after the white space
unfoldable pub white_end : List ℕ → ℕ → ℕ
white_end text at = skip (white_stands text) (after_blank text) (turns text) at

-- the word stands at the place
unfoldable pub reads_word : List ℕ → ℕ → List ℕ → Bool
reads_word text at word = starts_with nat_eq (drop at text) word

-- Of words and what they mean in a row, the first that stands at the place, and the place after it.
-- One that means nothing stands there for the longer word that it is.
abbrev pub meant : {A : Type 0} → Option A → ℕ → Option (A × ℕ)
meant None end = None
meant (Some a) end = Some (a, end)

abbrev pub first_word : {A : Type 0} → List (List ℕ × Option A) → List ℕ → ℕ → Option (A × ℕ)
first_word [] text at = None
first_word (w ∷ ws) text at =
    if reads_word text at w.0 then meant w.1 (at + length w.0) else first_word ws text at

-- Rows of operators, from the tightest: row 1 stands before its operand, and so does row 11.
abbrev pub signs : List (List ℕ × Option Op1)
signs = (codes "!=", None) ∷ (codes "-", Some Neg) ∷ (codes "+", Some Plus) ∷ (codes "~", Some BitNot)
    ∷ (codes "!", Some Not) ∷ []

abbrev pub products : List (List ℕ × Option Joint)
products = (codes "*", Some (Both Mul)) ∷ (codes "/", Some (Both Div)) ∷ (codes "%", Some (Both Mod))
    ∷ []

abbrev pub sums : List (List ℕ × Option Joint)
sums = (codes "+", Some (Both Add)) ∷ (codes "-", Some (Both Sub)) ∷ []

abbrev pub shifts : List (List ℕ × Option Joint)
shifts = (codes "<<", Some (Both Shl)) ∷ (codes ">>", Some (Both Shr)) ∷ []

abbrev pub orders : List (List ℕ × Option Joint)
orders = (codes "<=", Some (Both AtMost)) ∷ (codes ">=", Some (Both AtLeast))
    ∷ (codes "<", Some (Both Less)) ∷ (codes ">", Some (Both Greater)) ∷ []

abbrev pub equalities : List (List ℕ × Option Joint)
equalities = (codes "==", Some (Both NumEq)) ∷ (codes "!=", Some (Both NumNe)) ∷ []

abbrev pub text_tests : List (List ℕ × Option Joint)
text_tests = (codes "equals", Some (Both TextEq)) ∷ (codes "eq", Some (Both TextEq))
    ∷ (codes "ne", Some (Both TextNe)) ∷ (codes "contains", Some (Both Contains))
    ∷ (codes "starts_with", Some (Both StartsWith)) ∷ (codes "ends_with", Some (Both EndsWith))
    ∷ (codes "matches_glob", Some (Both MatchesGlob)) ∷ (codes "matches", Some (Both MatchesGlob))
    ∷ []

abbrev pub bit_ands : List (List ℕ × Option Joint)
bit_ands = (codes "&&", None) ∷ (codes "&", Some (Both BitAnd)) ∷ []

abbrev pub bit_xors : List (List ℕ × Option Joint)
bit_xors = (codes "^", Some (Both BitXor)) ∷ []

abbrev pub bit_ors : List (List ℕ × Option Joint)
bit_ors = (codes "||", None) ∷ (codes "|", Some (Both BitOr)) ∷ []

abbrev pub opposites : List (List ℕ × Option Op1)
opposites = (codes "not", Some Not) ∷ []

abbrev pub ands : List (List ℕ × Option Joint)
ands = (codes "&&", Some And) ∷ (codes "and", Some And) ∷ []

abbrev pub ors : List (List ℕ × Option Joint)
ors = (codes "||", Some Or) ∷ (codes "or", Some Or) ∷ []

-- what may stand before the operand of a row
abbrev pub before_row : ℕ → List (List ℕ × Option Op1)
before_row k = if k == 1 then signs else (if k == 11 then opposites else [])

-- what may stand between the operands of a row
abbrev pub inside_row : ℕ → List (List ℕ × Option Joint)
inside_row k =
    if k == 2 then products
    else (if k == 3 then sums
    else (if k == 4 then shifts
    else (if k == 5 then orders
    else (if k == 6 then equalities
    else (if k == 7 then text_tests
    else (if k == 8 then bit_ands
    else (if k == 9 then bit_xors
    else (if k == 10 then bit_ors
    else (if k == 12 then ands
    else (if k == 13 then ors else []))))))))))

-- an operator that stands at the place, before the operand of a row or between two
unfoldable pub prefix_at : ℕ → List ℕ → ℕ → Option (Op1 × ℕ)
prefix_at k text at = first_word (before_row k) text at

unfoldable pub joint_at : ℕ → List ℕ → ℕ → Option (Joint × ℕ)
joint_at k text at = first_word (inside_row k) text at

-- a digit of the radix stands at the place
unfoldable pub digit_stands : ℕ → List ℕ → ℕ → Bool
digit_stands radix text at = nat_lt at (length text) && is_digit (slice_index text at) radix

unfoldable pub digits_end : ℕ → List ℕ → ℕ → ℕ
digits_end radix text at = skip (digit_stands radix text) (λ k. k + 1) (turns text) at

-- the place after a number: "hexadecimal if the first two characters of the operand are 0x", "octal
-- if the first character of the operand is 0", or else decimal
unfoldable pub number_end : List ℕ → ℕ → ℕ
number_end text at =
    if reads_word text at (codes "0x") && digit_stands 16 text (at + 2) then digits_end 16 text (at + 2)
    else (if stands text at 48 then digits_end 8 text at else digits_end 10 text at)
