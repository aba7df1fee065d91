-- The answer of a call that a definition gives a value or a fault, as the definition sees the value.
use Rattle.std.specs.Prelude.{◌≡◌, Result, Ok, Err}
use Rattle.px_bytes.specs.declared.fault.Raise.{Raise}
use Rattle.px_bytes.specs.declared.fault.Raise.TheVariants.{Fault, Memory}
use Rattle.px_bytes.specs.declared.fault.TclFault.{TclFault}

-- the value or fault is this one; out of memory says nothing
abbrev pub GivesAs : {A B : Type 0} → (A → B) → Result A Raise → Result B TclFault → Type 0
GivesAs view (Ok a) wanted = wanted ≡ Ok (view a)
GivesAs view (Err (Fault f)) wanted = wanted ≡ Err f
GivesAs view (Err Memory) wanted = Unit {0}
