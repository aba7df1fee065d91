-- What a command's failure says.
use Rattle.px_bytes.specs.declared.fault.Raise.{Raise}
use Rattle.px_bytes.specs.declared.fault.Raise.TheVariants.{Fault, Memory}
use Rattle.px_bytes.specs.declared.fault.TclFault.{TclFault}

-- P holds of the fault; want of memory says nothing
abbrev pub IfFault : Raise → (TclFault → Type 0) → Type 0
IfFault (Fault fault) P = P fault
IfFault Memory P = Unit {0}
