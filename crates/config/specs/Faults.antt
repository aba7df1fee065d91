-- The faults of a document in the order of their places, of which the first one of the smallest
-- number is told.
use Rattle.std.specs.Prelude.{ℕ, Bool, true, List, Option, Some, None, fold, nat_lt, if◌then◌else◌}
use Rattle.config.specs.declared.fault.ConfigFault.{ConfigFault}
use Rattle.config.specs.declared.fault.ConfigFaultKind.{ConfigFaultKind}
use Rattle.config.specs.declared.fault.ConfigFaultKind.TheVariants.{ReadFault, NotToml, UnknownKey}
use Rattle.config.specs.declared.fault.ConfigFaultKind.TheVariants.{WrongKind, Twice, NoSuch, Range, Rule}

-- the number under which a report tells it
abbrev pub number_of : ConfigFaultKind → ℕ
number_of ReadFault = 1
number_of NotToml = 2
number_of UnknownKey = 3
number_of WrongKind = 4
number_of Twice = 5
number_of NoSuch = 6
number_of Range = 7
number_of (Rule kind) = 8

-- a fault that its place alone tells
abbrev pub fault_at : ConfigFaultKind → List ℕ → ConfigFault
fault_at kind place = record { kind = kind; place = place; spot = None }

-- whether one of this kind is told in place of the one that is told so far
abbrev pub comes_first : ConfigFaultKind → Option ConfigFault → Bool
comes_first kind None = true
comes_first kind (Some e) = nat_lt (number_of kind) (number_of e.kind)

-- the fault that is told, once there is one more behind it
abbrev pub better : Option ConfigFault → ConfigFault → Option ConfigFault
better told f = if comes_first f.kind told then Some f else told

-- the fault that is told of several
abbrev pub told_of : List ConfigFault → Option ConfigFault
told_of faults = fold better None faults

-- what is told after more of them
abbrev pub after_faults : List ConfigFault → Option ConfigFault → Option ConfigFault
after_faults faults told = fold better told faults
