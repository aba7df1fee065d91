-- What was loaded, beside what the text is. Out of memory is free.
use Rattle.std.specs.Prelude.{◌≡◌, List, [], map, flat_map, Result, Ok, Err, ⊤}
use Rattle.event_order.specs.declared.event.EventName.{EventName}
use Rattle.rule_loader.specs.Faults.{after_faults}
use Rattle.rule_loader.specs.Handlers.{handled_at, handler_view, handlers_at}
use Rattle.rule_loader.specs.Loading.{Loaded, faults_from, procedures_in, handlings_in}
use Rattle.rule_loader.specs.Names.{AreNamesOf}
use Rattle.rule_loader.specs.declared.load_fault.LoadFault.{LoadFault}
use Rattle.rule_loader.specs.declared.load_fault.LoadFault.TheVariants as fault
use Rattle.rule_loader.specs.declared.load_fault.RuleFault.{RuleFault}
use Rattle.rule_loader.specs.declared.loader.Loader.{Loader}
use Rattle.rule_loader.specs.declared.rule.Rule.{Rule}
use Rattle.rule_loader.specs.declared.told.Told.{Told}
use Rattle.tcl_trees.specs.Procedures.{procs_view}
use Rattle.tcl_words.specs.Tree.{Command}

-- the rule has this name, these procedures, and for each event its bodies in the order of places
pub record IsRule (of : Loaded) (rule : Rule) : Type 0 where
  pub name : rule.name ≡ of.name
  pub procedures : procs_view rule.procs ≡ of.procedures
  pub bodies : (event : EventName)
      → map handler_view (handlers_at event rule.bodies) ≡ handled_at event of.handlings

-- what was given, beside what the text is
abbrev pub Gives : Result Rule LoadFault → Result Loaded RuleFault → Type 0
Gives (Ok rule) (Ok of) = IsRule of rule
Gives (Ok rule) (Err f) = ⊥
Gives (Err (fault.Fault f)) says = says ≡ Err f
Gives (Err fault.Memory) says = ⊤

-- what commands load, and what is told then
pub record Holds (before : Told) (commands : List Command) (loader : Loader) : Type 0 where
  pub told : loader.told ≡ after_faults (faults_from [] commands) before
  pub procedures : procs_view loader.procs ≡ flat_map procedures_in commands
  pub names : AreNamesOf (procs_view loader.procs) loader.names
  pub bodies : (event : EventName) → map handler_view (handlers_at event loader.bodies)
      ≡ handled_at event (flat_map handlings_in commands)
