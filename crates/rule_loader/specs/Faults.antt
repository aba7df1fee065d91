-- The faults of a rule's text, of which the one with the least place is told.
use Rattle.std.specs.Prelude.{ℕ, Bool, ◌&&◌, ◌||◌, ◌==◌, List, Option, Some, None, fold, nat_lt}
use Rattle.std.specs.Prelude.{if◌then◌else◌}
use Rattle.rule_loader.specs.declared.load_fault.LoadKind.{LoadKind}
use Rattle.rule_loader.specs.declared.load_fault.LoadKind.TheVariants.{Parse, NotWhen, NoEvent}
use Rattle.rule_loader.specs.declared.load_fault.LoadKind.TheVariants.{NoCommand, BadPriority}
use Rattle.rule_loader.specs.declared.load_fault.LoadKind.TheVariants.{TwiceProc, NotHere}
use Rattle.rule_loader.specs.declared.load_fault.RuleFault.{RuleFault}
use Rattle.rule_loader.specs.declared.told.Told.{Told}

-- the number under which a report tells it
abbrev pub number_of : LoadKind → ℕ
number_of (Parse flaw) = 1
number_of NotWhen = 2
number_of NoEvent = 3
number_of NoCommand = 4
number_of BadPriority = 5
number_of TwiceProc = 6
number_of NotHere = 7

abbrev pub fault_at : LoadKind → ℕ → RuleFault
fault_at kind place = record { kind = kind; place = place }

-- the least place comes first, and at one place the smaller number
unfoldable pub comes_first : RuleFault → RuleFault → Bool
comes_first f e = nat_lt f.place e.place
    || (f.place == e.place) && nat_lt (number_of f.kind) (number_of e.kind)

-- the fault that is told, once there is one more
abbrev pub better : Option RuleFault → RuleFault → Option RuleFault
better None f = Some f
better (Some e) f = if comes_first f e then Some f else Some e

-- the fault that is told of several
abbrev pub told_of : List RuleFault → Option RuleFault
told_of faults = fold better None faults

-- what is told after more of them
abbrev pub after_faults : List RuleFault → Told → Told
after_faults faults t = record { fault = fold better t.fault faults }
