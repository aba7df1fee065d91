-- What holds of every text and its expression.
use Rattle.std.specs.Prelude.{◌≡◌, ◌↔◌, ℕ, ◌+◌, List, Result, Ok, Err, ⊤}
use Rattle.tcl_expr.specs.Expression.{Expression}
use Rattle.tcl_expr.specs.ExpressionReading.{expression_within}
use Rattle.tcl_expr.specs.Grammar.{SpellsWithin}
use Rattle.tcl_expr.specs.declared.expr_fault.ExprFault.{ExprFault}
use Rattle.tcl_expr.specs.declared.expr_fault.ExprFault.TheVariants.{Fault, Memory}

-- the reading gives an expression exactly where the text is one
abbrev pub ReadingIsGrammar : Type 0
ReadingIsGrammar = (room : ℕ) (text : List ℕ) (e : Expression)
    → (expression_within room text ≡ Ok e) ↔ SpellsWithin room text e

-- a text is at most one expression
abbrev pub OneExpression : Type 0
OneExpression = (room : ℕ) (text : List ℕ) (a b : Expression)
    → SpellsWithin room text a → SpellsWithin room text b → a ≡ b

-- of a text: it is the expression that a reader saw, and none where the reader found a fault
abbrev pub Grammatical : {A : Type 0} → (A → Expression) → ℕ → List ℕ → Result A ExprFault → Type 0
Grammatical view room text (Ok a) = SpellsWithin room text (view a)
Grammatical view room text (Err (Fault f)) = (e : Expression) → SpellsWithin room text e → ⊥
Grammatical view room text (Err Memory) = ⊤

-- with more room it is the same expression: room does nothing but refuse
abbrev pub MoreRoomIsSame : Type 0
MoreRoomIsSame = (room more : ℕ) (text : List ℕ) (e : Expression)
    → SpellsWithin room text e → SpellsWithin (room + more) text e
