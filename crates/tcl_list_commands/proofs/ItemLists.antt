-- Items of elements, one more at a time.
use Rattle.std.proofs.Common.{List, ◌++◌}
use Rattle.std.specs.Prelude.{Result, Ok, Err}
use Rattle.px_bytes.specs.declared.fault.TclFault.{TclFault}
use Rattle.tcl_list_commands.specs.declared.order.Item.{Item}

-- items behind others
abbrev pub onto : List Item → Result (List Item) TclFault → Result (List Item) TclFault
onto done (Ok more) = Ok (done ++ more)
onto done (Err fault) = Err fault
