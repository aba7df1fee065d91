-- Expressions (Tcl 8.4, expr(n)): operands in order, and those of `&&`, `||` and `?:` "are evaluated
-- only if they are needed". Each operator costs one.
use Rattle.std.specs.Prelude.{ℕ, List, [], ◌∷◌, length, codes, Bool, true, false, Option, Some, None}
use Rattle.std.specs.Prelude.{Result, Ok, Err, if◌then◌else◌}
use Rattle.px_bytes.specs.Gives.{with_value as if_ok}
use Rattle.px_bytes.specs.declared.fault.TclFault.{TclFault}
use Rattle.tcl_expr.specs.OperatorFaults.{not_truth}
use Rattle.tcl_expr.specs.Operators.{operator_value_1, operator_value_2}
use Rattle.tcl_expr.specs.Truth.{truth}
use Rattle.tcl_expr.specs.declared.expr.Joint.{Joint}
use Rattle.tcl_expr.specs.declared.expr.Joint.TheVariants.{Both, And, Or}
use Rattle.tcl_expr.specs.declared.operator.Op1.{Op1}
use Rattle.tcl_trees.specs.WholeResult.{whole_result}
use Rattle.rule_model.specs.Outcome.{State, Outcome, Ends, Meaning, then_value, ends, paid}
use Rattle.rule_model.specs.declared.code.Code.TheVariants.{Value, Raised}

-- goes on with the truth value of a text
abbrev pub by_truth : {H : Type 0} → Option Bool → List ℕ → (Bool → State H → Outcome H) → State H
    → Outcome H
by_truth (Some holds) v go st = go holds st
by_truth None v go st = Ends (Raised (not_truth v)) st

abbrev pub then_truth : {H : Type 0} → Outcome H → (Bool → State H → Outcome H) → Outcome H
then_truth o go = then_value o (λ v st. by_truth (truth v) v go st)

-- goes on with a value
abbrev pub by_value : {H : Type 0} → Result (List ℕ) TclFault → (List ℕ → State H → Outcome H)
    → State H → Outcome H
by_value (Ok v) go st = go v st
by_value (Err f) go st = Ends (Raised f) st

-- a test's value
abbrev pub truth_text : Bool → List ℕ
truth_text holds = if holds then codes "1" else codes "0"

abbrev pub truth_result : Option Bool → List ℕ → Result (List ℕ) TclFault
truth_result (Some holds) v = Ok (truth_text holds)
truth_result None v = Err (not_truth v)

-- operators before an operand of this value, the innermost first
abbrev pub prefixed_value : List Op1 → List ℕ → Result (List ℕ) TclFault
prefixed_value [] v = Ok v
prefixed_value (op ∷ ops) v = if_ok (prefixed_value ops v) (operator_value_1 op)

abbrev pub after_operand : {H : Type 0} → List Op1 → List ℕ → State H → Outcome H
after_operand ops v st = ends (prefixed_value ops v) (paid (length ops) st)

abbrev pub prefixes : {H : Type 0} → List Op1 → Meaning H → Meaning H
prefixes ops m path st = then_value (m path st) (after_operand ops)

-- The value of a row by its left operand, where that decides it, or the fault that it has no truth
-- value; none where the right operand is needed.
abbrev pub decided_unless : (going : Bool) → Option Bool → List ℕ
    → Result (Option (List ℕ)) TclFault
decided_unless going None left = Err (not_truth left)
decided_unless true (Some true) left = Ok None
decided_unless true (Some false) left = Ok (Some (truth_text false))
decided_unless false (Some true) left = Ok (Some (truth_text true))
decided_unless false (Some false) left = Ok None

abbrev pub decided_by : Joint → List ℕ → Result (Option (List ℕ)) TclFault
decided_by (Both op) left = Ok None
decided_by And left = decided_unless true (truth left) left
decided_by Or left = decided_unless false (truth left) left

abbrev pub decided : {H : Type 0} → Result (Option (List ℕ)) TclFault → (State H → Outcome H)
    → State H → Outcome H
decided (Ok None) go st = go st
decided (Ok (Some v)) go st = Ends (Value v) st
decided (Err f) go st = Ends (Raised f) st

-- what two operands give
abbrev pub joint_value : Joint → List ℕ → List ℕ → Result (List ℕ) TclFault
joint_value (Both op) left right = operator_value_2 op left right
joint_value And left right = truth_result (truth right) right
joint_value Or left right = truth_result (truth right) right

-- after the right operand
abbrev pub joined_value : {H : Type 0} → (List ℕ → Meaning H) → Joint → (left : List ℕ)
    → (path : List ℕ) → (right : List ℕ) → State H → Outcome H
joined_value go joint left path right st =
    by_value (joint_value joint left right) (λ v s. go v path s) st

-- The operands of a row behind a value, from the left. Where the value decides `&&` or `||`, no
-- other operand of the row is evaluated.
abbrev pub operands : {H : Type 0} → List (Joint × Meaning H) → List ℕ → Meaning H
operands [] v path st = Ends (Value v) st
operands (o ∷ more) v path st =
    decided (decided_by o.0 v)
    (λ s. then_value (o.1 path s) (joined_value (operands more) o.0 v path)) (paid 1 st)

abbrev pub row : {H : Type 0} → Meaning H → List (Joint × Meaning H) → Meaning H
row first rest path st = then_value (first path st) (λ v t. operands rest v path t)

-- after a condition: its value, or else the rest
abbrev pub after_test : {H : Type 0} → (value rest : Meaning H) → List ℕ → Bool → State H → Outcome H
after_test value rest path true st = value path st
after_test value rest path false st = rest path st

-- The value beside the first condition that holds, or else the last; each condition costs n.
abbrev pub first_true : {H : Type 0} → ℕ → List (Meaning H × Meaning H) → Meaning H → Meaning H
first_true n [] last path st = last path st
first_true n (v ∷ more) last path st =
    then_truth (v.0 path (paid n st)) (after_test v.1 (first_true n more last) path)

-- a whole expression
abbrev pub whole : {H : Type 0} → Outcome H → Outcome H
whole o = then_value o (λ v st. Ends (Value (whole_result v)) st)
