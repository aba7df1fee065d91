-- What operators make of values (Tcl 8.4, expr(n)).
use Rattle.std.specs.Prelude.{ℕ, List, Bool, Option, Some, None, Result, Ok, Err}
use Rattle.px_bytes.specs.declared.fault.TclFault.{TclFault}
use Rattle.tcl_expr.specs.OperatorFaults.{not_truth}
use Rattle.tcl_expr.specs.Truth.{truth}
use Rattle.tcl_expr.specs.declared.expr.Joint.{Joint}
use Rattle.tcl_expr.specs.declared.expr.Joint.TheVariants.{Both, And, Or}

-- a truth value, or the fault that a text has none
abbrev pub if_truth : Option Bool → List ℕ → Result Bool TclFault
if_truth (Some holds) text = Ok holds
if_truth None text = Err (not_truth text)

abbrev pub truth_read : List ℕ → Result Bool TclFault
truth_read text = if_truth (truth text) text

-- an operator ticks once
abbrev pub joint_ticks : Joint → ℕ
joint_ticks (Both op) = 1
joint_ticks And = 0
joint_ticks Or = 0
