-- What `parse` gave, beside what the text says. Want of memory is free.
use Rattle.std.specs.Prelude.{◌≡◌, Result, Ok, Err, ⊤}
use Rattle.tcl_words.specs.Tree.{Commands}
use Rattle.tcl_words.specs.View.{script_view}
use Rattle.tcl_words.specs.declared.parse_fault.Fault as fault
use Rattle.tcl_words.specs.declared.parse_fault.ParseFault.{ParseFault}
use Rattle.tcl_words.specs.declared.parse_fault.ParseFault.TheVariants.{Fault, Memory}
use Rattle.tcl_words.specs.declared.script.Script.{Script}

abbrev pub Fails : ParseFault → Result Commands fault.Fault → Type 0
Fails Memory says = ⊤
Fails (Fault f) says = says ≡ Err f

abbrev pub Gives : Result Script ParseFault → Result Commands fault.Fault → Type 0
Gives (Ok script) says = says ≡ Ok (script_view script)
Gives (Err e) says = Fails e says
