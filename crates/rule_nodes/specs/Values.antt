-- The value of an array's element (Tcl 8.4, Tcl(n): "$name(index)").
use Rattle.std.specs.Prelude.{ℕ, List, ◌++◌, codes, Option, Some, Result}
use Rattle.px_bytes.specs.declared.fault.TclFault.{TclFault}
use Rattle.tcl_vars.specs.Scopes.{Level, Scopes}
use Rattle.tcl_var_commands.specs.Reading.{read_value}

-- a fault tells the element as it is written
abbrev pub element_read : Option Level → List ℕ → List ℕ → Scopes → Result (List ℕ) TclFault
element_read statics name index vars =
    read_value statics vars (name ++ codes "(" ++ index ++ codes ")")
    (record { name = name; index = Some index })
