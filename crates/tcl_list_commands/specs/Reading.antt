-- Words of a command that are lists.
use Rattle.std.specs.Prelude.{ℕ, List, Result, Ok, Err}
use Rattle.px_bytes.specs.FaultText.{syntax_error}
use Rattle.px_bytes.specs.declared.fault.TclFault.{TclFault}
use Rattle.tcl_lists.specs.Read.{list_values}
use Rattle.tcl_lists.specs.declared.fault.ListFault.{ListFault}

abbrev pub elements_by : List ℕ → Result (List (List ℕ)) ListFault → Result (List (List ℕ)) TclFault
elements_by name (Ok elements) = Ok elements
elements_by name (Err fault) = Err (syntax_error name)

-- the elements of a list; a word of the command of this name that is no list is a syntax error
abbrev pub elements_of : List ℕ → List ℕ → Result (List (List ℕ)) TclFault
elements_of name text = elements_by name (list_values text)
