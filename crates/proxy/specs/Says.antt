-- What is written of a text that is due, and the end of a command that writes one.
use Rattle.std.specs.Prelude.{◌≡◌, ◌⊎◌, ℕ, List, Option, Result, Ok, Err, Bool, true, false}
use Rattle.std.specs.Prelude.{if◌then◌else◌}
use Rattle.config.specs.Faults.{number_of}
use Rattle.config.specs.declared.fault.ConfigError.{ConfigError}
use Rattle.config.specs.declared.fault.ConfigError.TheVariants as refused
use Rattle.config.specs.declared.fault.ConfigFault.{ConfigFault}
use Rattle.config.specs.declared.fault.ConfigFaultKind.{ConfigFaultKind}
use Rattle.px_outside.specs.Outside.{told_more, Rose}
use Rattle.proxy.specs.declared.end.End.{End}
use Rattle.proxy.specs.declared.end.End.TheVariants.{Config, ReadFault, WriteFault, Memory}
use Rattle.proxy.specs.End.{end_unless}
use Rattle.proxy.specs.Loads.{IsFaulty, is_read_fault}
use Rattle.proxy.specs.Report.{config_fault}
use Rattle.proxy.specs.Written.{WritesFrontOf}

-- a text was written; or a prefix of it, and writing failed or memory was refused
abbrev pub Says : List ℕ → Option (List ℕ) → Option (List ℕ) → ℕ → ℕ → Result (Unit {0}) End
    → Type 0
Says text old new before now (Ok u) = new ≡ told_more old text
Says text old new before now (Err WriteFault) = Rose before now × WritesFrontOf text old new
Says text old new before now (Err Memory) = (new ≡ old) ⊎ WritesFrontOf text old new
Says text old new before now (Err end) = ⊥

-- the end of a command that says this and nothing else
pub record Tells (text : List ℕ) (usual : End) (old new : Option (List ℕ)) (before now : ℕ)
    (end : End) : Type 0 where
  pub said : Result (Unit {0}) End
  pub says : Says text old new before now said
  pub ends : end ≡ end_unless usual said

-- the line of a fault
abbrev pub fault_text : ConfigFault → List ℕ
fault_text f = config_fault (number_of f.kind) f.place

-- a configuration doesn't load, and this text tells why
pub record TellsFault (told : List ℕ → Option (List ℕ)) (before now : ℕ) (name text : List ℕ)
    : Type 0 where
  pub fault : ConfigFault
  pub faulty : IsFaulty told before now name fault
  pub text_is : text ≡ fault_text fault

-- the end of an explanation
abbrev pub fault_end : ConfigFaultKind → End
fault_end kind = if is_read_fault kind then ReadFault else Config

-- a file that can't be read says nothing
abbrev pub TellsBy : Bool → ConfigFault → Option (List ℕ) → Option (List ℕ) → ℕ → ℕ → End → Type 0
TellsBy true f old new before now end = (end ≡ ReadFault) × (new ≡ old)
TellsBy false f old new before now end = Tells (fault_text f) Config old new before now end

-- what is said where no configuration was given
abbrev pub Refuses : ConfigError → Option (List ℕ) → Option (List ℕ) → ℕ → ℕ → End → Type 0
Refuses (refused.Fault f) old new before now end =
    TellsBy (is_read_fault f.kind) f old new before now end
Refuses refused.Memory old new before now end = (end ≡ Memory) × (new ≡ old)
