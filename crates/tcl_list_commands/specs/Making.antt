-- Lists made of words: Tcl 8.4, list(n).
use Rattle.std.specs.Prelude.{ℕ, List, Result}
use Rattle.px_bytes.specs.declared.fault.TclFault.{TclFault}
use Rattle.tcl_lists.specs.Write.{joined}
use Rattle.px_bytes.specs.Limit.{limited}

-- list(n): "a list comprised of all the args", each of them an element
abbrev pub list_value : List (List ℕ) → Result (List ℕ) TclFault
list_value words = limited (joined words)
