-- The rows of a `foreach`, as the code has them.
use Rattle.std.specs.Prelude.{◌≡◌, ℕ, List, map, codes, Option, Some, None, Result, Ok, Err}
use Rattle.std.specs.declared.alloc.Global.{Global}
use Rattle.std.specs.Prelude.{Vec}
use Rattle.px_bytes.specs.FaultText.{syntax_error}
use Rattle.px_bytes.specs.declared.fault.Raise.{Raise}
use Rattle.px_bytes.specs.declared.fault.Raise.TheVariants.{Fault, Memory}
use Rattle.px_bytes.specs.declared.fault.TclFault.{TclFault}
use Rattle.tcl_lists.specs.declared.fault.ListFault.{ListFault}
use Rattle.rule_model.specs.Control.{Row}
use Rattle.rule_nodes.specs.declared.rows.Row as code

abbrev pub row_view : code.Row → Row
row_view r = record { names = r.names; values = r.values }

abbrev pub rows_view : Vec code.Row Global → List Row
rows_view v = map row_view v.items

-- the fault of what is no list, or has no names
abbrev pub if_some : {A : Type 0} → Option A → Result A TclFault
if_some (Some a) = Ok a
if_some None = Err (syntax_error (codes "foreach"))

abbrev pub list_read : Result (List (List ℕ)) ListFault → Result (List (List ℕ)) TclFault
list_read (Ok values) = Ok values
list_read (Err f) = Err (syntax_error (codes "foreach"))

abbrev pub IsSyntax : Raise → Type 0
IsSyntax (Fault f) = f ≡ syntax_error (codes "foreach")
IsSyntax Memory = Unit {0}
