-- Which commands may be named in a rule: commands of Tcl, and those of the host, in the events in
-- which the page of each has it.
use Rattle.std.specs.Prelude.{ℕ, List, [], ◌∷◌, Bool, true, false, ◌||◌, find, Option, Some, None}
use Rattle.std.specs.Prelude.{if◌then◌else◌}
use Rattle.std.specs.List.{list_any}
use Rattle.std.specs.Str.{bytes_eq}
use Rattle.event_order.specs.Command.{command_row, every_command}
use Rattle.event_order.specs.declared.command.HostCommand.{HostCommand}
use Rattle.event_order.specs.declared.event.EventName.{EventName}
use Rattle.rule_loader.specs.Events.{is_event}
use Rattle.rule_loader.specs.Faults.{fault_at}
use Rattle.rule_loader.specs.declared.load_fault.LoadKind.{LoadKind}
use Rattle.rule_loader.specs.declared.load_fault.LoadKind.TheVariants.{NoCommand, NotHere}
use Rattle.rule_loader.specs.declared.load_fault.RuleFault.{RuleFault}
use Rattle.tcl_commands.specs.Kind.{is_pure, is_control}
use Rattle.tcl_commands.specs.declared.kind.Kind.{Kind}
use Rattle.tcl_commands.specs.declared.kind.Kind.TheVariants.{Pure, Control}
use Rattle.tcl_trees.specs.declared.findings.CommandName.{CommandName}

-- the host command of a name
abbrev pub host_named : List ℕ → Option HostCommand
host_named name = find (λ c. bytes_eq (command_row c).name name) every_command

-- a procedure runs in no event of its own
abbrev pub may_stand : HostCommand → Option EventName → Bool
may_stand command None = true
may_stand command (Some event) = list_any (is_event event) (command_row command).events

-- a command of Tcl, by its kind and by its name
abbrev pub kind_is_tcl : Kind → Bool
kind_is_tcl Pure = true
kind_is_tcl Control = true
kind_is_tcl k = false

abbrev pub is_tcl : List ℕ → Bool
is_tcl name = is_pure name || is_control name

-- what is wrong with a literal name in a body of the event, or of a procedure
abbrev pub fault_named : Option HostCommand → List ℕ → Option EventName → Option LoadKind
fault_named (Some command) name event = if may_stand command event then None else Some NotHere
fault_named None name event = if is_tcl name then None else Some NoCommand

abbrev pub name_fault : List ℕ → Option EventName → Option LoadKind
name_fault name event = fault_named (host_named name) name event

abbrev pub kind_faults : ℕ → Option LoadKind → List RuleFault
kind_faults place None = []
kind_faults place (Some kind) = fault_at kind place ∷ []

abbrev pub name_faults : Option EventName → CommandName → List RuleFault
name_faults event n = kind_faults n.place (name_fault n.name event)
