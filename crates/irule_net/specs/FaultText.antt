-- The faults that network commands alone raise, with their texts, which are this project's own.
use Rattle.std.specs.Prelude.{ℕ, List, ◌++◌, codes}
use Rattle.px_bytes.specs.Address.{addr_text}
use Rattle.px_bytes.specs.declared.addr.Addr.{Addr}
use Rattle.px_bytes.specs.declared.fault.FaultKind.TheVariants.{Context, NoSuch}
use Rattle.px_bytes.specs.declared.fault.TclFault.{TclFault}

-- the command of this name may not be called here
abbrev pub not_here : List ℕ → TclFault
not_here name = record { kind = Context; text = name ++ codes ": not allowed here" }

-- another selection was asked for too often
abbrev pub reselects_spent : TclFault
reselects_spent = record { kind = Context; text = codes "reselect limit of 16 reached" }

abbrev pub no_such : List ℕ → List ℕ → TclFault
no_such thing name =
    record { kind = NoSuch; text = codes "no such " ++ thing ++ codes " \"" ++ name ++ codes "\"" }

-- there is no pool, or no data group, of this name, or no member of this address
abbrev pub no_such_pool : List ℕ → TclFault
no_such_pool name = no_such (codes "pool") name

abbrev pub no_such_class : List ℕ → TclFault
no_such_class name = no_such (codes "class") name

abbrev pub no_such_member : Addr → TclFault
no_such_member addr = no_such (codes "member") (addr_text addr)
