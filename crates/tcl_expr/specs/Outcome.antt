-- What a reader of expressions gave, beside what the text says. Want of memory is free.
use Rattle.std.specs.Prelude.{◌≡◌, ℕ, Result, Ok, Err, ⊤}
use Rattle.tcl_expr.specs.ExpressionReading.{Read}
use Rattle.tcl_expr.specs.declared.expr_fault.ExprFault.{ExprFault}
use Rattle.tcl_expr.specs.declared.expr_fault.ExprFault.TheVariants.{Fault, Memory}
use Rattle.tcl_expr.specs.declared.expr_fault.Misread.{Misread}

-- the value, seen as that of the definition, or the fault is this one
abbrev pub Outcome : {A B : Type 0} → (A → B) → Result A ExprFault → Result B Misread → Type 0
Outcome view (Ok a) says = says ≡ Ok (view a)
Outcome view (Err (Fault f)) says = says ≡ Err f
Outcome view (Err Memory) says = ⊤

-- so with the place of the next token
abbrev pub Reads : {A B : Type 0} → (A → B) → Result (A × ℕ) ExprFault → Read B → Type 0
Reads view result says = Outcome (λ r. (view r.0, r.1)) result says
