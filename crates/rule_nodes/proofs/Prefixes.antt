-- Operators before an operand, from the innermost on.
use Rattle.std.proofs.Common.{◌≡◌, refl, sym, ap, ◌∙◌, ℕ, List, [], ◌∷◌, ◌++◌, Result, Ok, Err}
use Rattle.std.specs.Prelude.{IsErr, IsErrAnd}
use Rattle.px_bytes.specs.Gives.{Gives, with_value as if_ok}
use Rattle.px_bytes.specs.declared.fault.Raise.{Raise}
use Rattle.px_bytes.specs.declared.fault.Raise.TheVariants as raise
use Rattle.px_bytes.specs.declared.fault.TclFault.{TclFault}
use Rattle.tcl_expr.specs.Operators.{operator_value_1}
use Rattle.tcl_expr.specs.declared.operator.Op1.{Op1}
use Rattle.rule_model.specs.Expressions.{prefixed_value}

if_ok_ok : (r : Result (List ℕ) TclFault) → if_ok r (λ w. Ok w) ≡ r
if_ok_ok (Ok v) = refl
if_ok_ok (Err f) = refl

if_ok_joins : (r : Result (List ℕ) TclFault) (os : List Op1) (o : Op1) → if_ok (if_ok r (prefixed_value os)) (operator_value_1 o) ≡ if_ok r (prefixed_value (o ∷ os))
if_ok_joins (Ok v) os o = refl
if_ok_joins (Err f) os o = refl

prefixed_snoc : (ops : List Op1) (op : Op1) (v : List ℕ) → prefixed_value (ops ++ op ∷ []) v ≡ if_ok (operator_value_1 op v) (prefixed_value ops)
prefixed_snoc [] op v = sym (if_ok_ok (operator_value_1 op v))
prefixed_snoc (o ∷ os) op v = ap (λ r. if_ok r (operator_value_1 o)) (prefixed_snoc os op v) ∙ if_ok_joins (operator_value_1 op v) os o

-- the last operator goes on, or its fault is that of all
pub prefixed_goes : (all rest front : List Op1) (op : Op1) (start v w : List ℕ) → rest ≡ front ++ op ∷ [] → prefixed_value rest v ≡ prefixed_value all start → Gives (Ok w) (operator_value_1 op v)
    → prefixed_value front w ≡ prefixed_value all start
prefixed_goes all rest front op start v w is left one =
    sym (ap (λ r. if_ok r (prefixed_value front)) one) ∙ sym (prefixed_snoc front op v) ∙ ap (λ ops. prefixed_value ops v) (sym is) ∙ left

prefixed_stops : (all rest front : List Op1) (op : Op1) (start v : List ℕ) (e : Raise) → rest ≡ front ++ op ∷ [] → prefixed_value rest v ≡ prefixed_value all start → Gives {A = List ℕ} (Err e) (operator_value_1 op v)
    → Gives {A = List ℕ} (Err e) (prefixed_value all start)
prefixed_stops all rest front op start v (raise.Fault f) is left one =
    sym left ∙ ap (λ ops. prefixed_value ops v) is ∙ prefixed_snoc front op v ∙ ap (λ r. if_ok r (prefixed_value front)) one
prefixed_stops all rest front op start v raise.Memory is left one = tt

residual : {A : Type 0} (result : Result A Raise) (e : Raise) → IsErr result × IsErrAnd result (λ r. r ≡ e) → result ≡ Err e
residual (Ok x) e h = absurd h.1
residual (Err r) e h = ap Err h.1

pub prefixed_halts : (all rest front : List Op1) (op : Op1) (start v : List ℕ) (result : Result (List ℕ) Raise) (e : Raise) → rest ≡ front ++ op ∷ [] → prefixed_value rest v ≡ prefixed_value all start → Gives {A = List ℕ} (Err e) (operator_value_1 op v)
    → IsErr result × IsErrAnd result (λ r. r ≡ e) → Gives result (prefixed_value all start)
prefixed_halts all rest front op start v result e is left one err = rw (residual result e err) (prefixed_stops all rest front op start v e is left one)
