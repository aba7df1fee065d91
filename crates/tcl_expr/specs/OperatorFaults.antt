-- The faults of operators with their texts. Where Tcl 8.4 has the fault, the text is Tcl's own
-- (expr(n); Tcl_GetInt(3), Tcl_GetBoolean(3)).
use Rattle.std.specs.Prelude.{ℕ, List, ◌++◌, codes}
use Rattle.px_bytes.specs.declared.fault.FaultKind.TheVariants.{NotWhole, DivideByZero}
use Rattle.px_bytes.specs.declared.fault.TclFault.{TclFault}

-- an operand is no truth value
abbrev pub not_truth : List ℕ → TclFault
not_truth text = record {
  kind = NotWhole;
  text = codes "expected boolean value but got \"" ++ text
      ++ codes "\"";
}

-- a divisor is 0
abbrev pub divide_by_zero : TclFault
divide_by_zero = record { kind = DivideByZero; text = codes "divide by zero" }
