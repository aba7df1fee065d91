-- The answer of a call that a definition gives a value or a fault.
use Rattle.std.specs.Prelude.{◌≡◌, Result, Ok, Err}
use Rattle.px_bytes.specs.declared.fault.Raise.{Raise}
use Rattle.px_bytes.specs.declared.fault.Raise.TheVariants.{Fault, Memory}
use Rattle.px_bytes.specs.declared.fault.TclFault.{TclFault}

-- the value or fault is this one; want of memory says nothing
abbrev pub Gives : {A : Type 0} → Result A Raise → Result A TclFault → Type 0
Gives (Ok value) wanted = wanted ≡ Ok value
Gives (Err (Fault fault)) wanted = wanted ≡ Err fault
Gives (Err Memory) wanted = Unit {0}

-- what is done with a value; a fault stays
abbrev pub with_value : {A B : Type 0} → Result A TclFault → (A → Result B TclFault)
    → Result B TclFault
with_value (Ok value) f = f value
with_value (Err fault) f = Err fault
