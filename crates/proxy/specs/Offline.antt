-- What the commands that wait for nobody come to: the program's promise.
use Rattle.std.specs.Prelude.{◌≡◌, ◌⊎◌, ℕ, List, Option, Some, None, Err, codes, false}
use Rattle.config.specs.Filled.{filled}
use Rattle.config.specs.Loading.{IsContents}
use Rattle.config.specs.Outcomes.{Answers}
use Rattle.config.specs.declared.fault.ConfigError.{ConfigError}
use Rattle.config.specs.declared.fault.ConfigError.TheVariants as refused
use Rattle.config.specs.declared.fault.ConfigFault.{ConfigFault}
use Rattle.config.specs.declared.reader.LoadedConfig as loaded
use Rattle.px_outside.specs.Outside.{told_more, Rose}
use Rattle.run_config.specs.declared.config.Config as core
use Rattle.proxy.specs.declared.end.End.{End}
use Rattle.proxy.specs.declared.end.End.TheVariants.{Done, Usage, Config, Schedule, ReadFault}
use Rattle.proxy.specs.declared.end.End.TheVariants.{WriteFault, Memory, Differs, SecondText}
use Rattle.proxy.specs.Command.{Command, Checks as Checking, Explains as Explaining}
use Rattle.proxy.specs.Command.{Replays as Replaying, Named}
use Rattle.proxy.specs.Command.{Reports as Reporting, Migrates as Migrating, Mirrors as Mirroring}
use Rattle.proxy.specs.Command.{Imports as Importing, Exports as Exporting, command_of}
use Rattle.proxy.specs.Explain.{explanation, loads_text}
use Rattle.proxy.specs.Loads.{Loads, LoadsSome, IsFaulty, IsUnread}
use Rattle.proxy.specs.Migrating.{MigratesFile}
use Rattle.proxy.specs.Mirroring.{MirrorsFiles}
use Rattle.proxy.specs.Recorded.{ReportsFile}
use Rattle.proxy.specs.Report.{config_fault, ok_text, usage_fault}
use Rattle.proxy.specs.Runnable.{IsRun, can_run}
use Rattle.proxy.specs.Says.{Tells, TellsFault, fault_end}
use Rattle.proxy.specs.SecondText.{ExportsFile, ImportsFile}
use Rattle.proxy.specs.Written.{IsWritten, WritesDue, WritesFrontOf}
use Rattle.proxy.specs.Replayed.{Replayed}

-- it loads, and what is filled of it can't be run today
pub record IsNotBuilt (told : List ℕ → Option (List ℕ)) (name : List ℕ) : Type 0 where
  pub C : loaded.LoadedConfig
  pub loads : Loads told name C
  pub K : core.Config
  pub fills : filled C ≡ Some K
  pub not_built : can_run K ≡ false

-- the line of what can't be run
abbrev pub not_built_text : List ℕ
not_built_text = config_fault 9 (codes "config")

-- ---- `check CONFIG`

-- the text that is due: that it loads, or why it doesn't
abbrev pub IsCheck : (List ℕ → Option (List ℕ)) → (before now : ℕ) → List ℕ → List ℕ → Type 0
IsCheck told before now name text =
    TellsFault told before now name text ⊎ (LoadsSome told name × (text ≡ ok_text))

-- by its end
abbrev pub ChecksFile : List ℕ → (List ℕ → Option (List ℕ)) → Option (List ℕ) → Option (List ℕ) → ℕ
    → ℕ → ℕ → ℕ → End → Type 0
ChecksFile name told old new reads_before reads_now before now Done =
    LoadsSome told name × (new ≡ told_more old ok_text)
ChecksFile name told old new reads_before reads_now before now Usage = ⊥
ChecksFile name told old new reads_before reads_now before now Config =
    (text : List ℕ) × TellsFault told reads_before reads_now name text
    × (new ≡ told_more old text)
ChecksFile name told old new reads_before reads_now before now Schedule = ⊥
ChecksFile name told old new reads_before reads_now before now ReadFault =
    Rose reads_before reads_now × IsUnread told reads_before reads_now name × (new ≡ old)
ChecksFile name told old new reads_before reads_now before now WriteFault =
    Rose before now × WritesDue (IsCheck told reads_before reads_now name) old new
ChecksFile name told old new reads_before reads_now before now Memory =
    (new ≡ old) ⊎ WritesDue (IsCheck told reads_before reads_now name) old new
ChecksFile name told old new reads_before reads_now before now Differs = ⊥
ChecksFile name told old new reads_before reads_now before now SecondText = ⊥

-- ---- `explain CONFIG`

-- the text that is due: why it doesn't load, or that it loads
abbrev pub IsExplanation : (List ℕ → Option (List ℕ)) → (before now : ℕ) → List ℕ → List ℕ → Type 0
IsExplanation told before now name text =
    ((f : ConfigFault) × Answers told before now name (Err (refused.Fault f)) × (text ≡ explanation name f))
    ⊎ ((C : loaded.LoadedConfig) × Loads told name C × (text ≡ loads_text name C.settings.virtuals))

-- what is said where no configuration was given
abbrev pub Explains : List ℕ → ConfigError → Option (List ℕ) → Option (List ℕ) → ℕ → ℕ → End → Type 0
Explains name (refused.Fault f) old new before now end =
    Tells (explanation name f) (fault_end f.kind) old new before now end
Explains name refused.Memory old new before now end = (end ≡ Memory) × (new ≡ old)

-- by its end
abbrev pub ExplainsFile : List ℕ → (List ℕ → Option (List ℕ)) → Option (List ℕ) → Option (List ℕ) → ℕ
    → ℕ → ℕ → ℕ → End → Type 0
ExplainsFile name told old new reads_before reads_now before now Done =
    (C : loaded.LoadedConfig) × Loads told name C × (new ≡ told_more old (loads_text name C.settings.virtuals))
ExplainsFile name told old new reads_before reads_now before now Usage = ⊥
ExplainsFile name told old new reads_before reads_now before now Config =
    (f : ConfigFault) × IsFaulty told reads_before reads_now name f
    × (new ≡ told_more old (explanation name f))
ExplainsFile name told old new reads_before reads_now before now Schedule = ⊥
ExplainsFile name told old new reads_before reads_now before now ReadFault =
    Rose reads_before reads_now
    × ((unread : IsUnread told reads_before reads_now name)
    × (new ≡ told_more old (explanation name unread.fault)))
ExplainsFile name told old new reads_before reads_now before now WriteFault =
    Rose before now × WritesDue (IsExplanation told reads_before reads_now name) old new
ExplainsFile name told old new reads_before reads_now before now Memory =
    (new ≡ old) ⊎ WritesDue (IsExplanation told reads_before reads_now name) old new
ExplainsFile name told old new reads_before reads_now before now Differs = ⊥
ExplainsFile name told old new reads_before reads_now before now SecondText = ⊥

-- ---- `replay CONFIG SCHEDULE`

-- why there is no replay: the configuration doesn't load, or can't be run today
abbrev pub IsRefusal : (List ℕ → Option (List ℕ)) → (before now : ℕ) → List ℕ → List ℕ → Type 0
IsRefusal told before now name text =
    TellsFault told before now name text ⊎ (IsNotBuilt told name × (text ≡ not_built_text))

-- the configuration loads, and the core runs it
abbrev pub RunsSome : (List ℕ → Option (List ℕ)) → List ℕ → Type 0
RunsSome told name = (C : loaded.LoadedConfig) × (K : core.Config) × Loads told name C × IsRun C K

-- both files were read, the configuration loads, and the core runs it
pub record Runs (told : List ℕ → Option (List ℕ)) (named : Named) (K : core.Config)
    (schedule : List ℕ) : Type 0 where
  pub C : loaded.LoadedConfig
  pub loads : Loads told named.config C
  pub is_run : IsRun C K
  pub schedule_contents : IsContents told named.schedule schedule

-- the text that is due: why there is no replay; or the notes of a front of the schedule, or the
-- whole report of it
abbrev pub IsDue : (List ℕ → Option (List ℕ)) → (before now : ℕ) → Named → List ℕ → Type 0
IsDue told before now named text =
    IsRefusal told before now named.config text
    ⊎ ((K : core.Config) × (schedule : List ℕ) × Runs told named K schedule
    × IsWritten K schedule text)

-- the schedule was replayed to this end
pub record Replays (told : List ℕ → Option (List ℕ)) (named : Named) (old new : Option (List ℕ))
    (before now : ℕ) (end : End) : Type 0 where
  pub K : core.Config
  pub schedule : List ℕ
  pub runs : Runs told named K schedule
  pub replayed : Replayed K schedule old new before now end

-- by its end
abbrev pub ReplaysFiles : Named → (List ℕ → Option (List ℕ)) → Option (List ℕ) → Option (List ℕ) → ℕ
    → ℕ → ℕ → ℕ → End → Type 0
ReplaysFiles named told old new reads_before reads_now before now Done =
    Replays told named old new before now Done
ReplaysFiles named told old new reads_before reads_now before now Usage = ⊥
ReplaysFiles named told old new reads_before reads_now before now Config =
    (text : List ℕ) × IsRefusal told reads_before reads_now named.config text
    × (new ≡ told_more old text)
ReplaysFiles named told old new reads_before reads_now before now Schedule =
    Replays told named old new before now Schedule
ReplaysFiles named told old new reads_before reads_now before now ReadFault =
    Rose reads_before reads_now
    × (IsUnread told reads_before reads_now named.config ⊎ RunsSome told named.config)
    × (new ≡ old)
ReplaysFiles named told old new reads_before reads_now before now WriteFault =
    Rose before now × WritesDue (IsDue told reads_before reads_now named) old new
ReplaysFiles named told old new reads_before reads_now before now Memory =
    (new ≡ old) ⊎ WritesDue (IsDue told reads_before reads_now named) old new
ReplaysFiles named told old new reads_before reads_now before now Differs = ⊥
ReplaysFiles named told old new reads_before reads_now before now SecondText = ⊥

-- ---- words that are no command

-- They have one end, which yields to a write fault and to want of memory.
abbrev pub SaysUsage : Option (List ℕ) → Option (List ℕ) → ℕ → ℕ → End → Type 0
SaysUsage old new before now Usage = new ≡ told_more old usage_fault
SaysUsage old new before now WriteFault = Rose before now × WritesFrontOf usage_fault old new
SaysUsage old new before now Memory = (new ≡ old) ⊎ WritesFrontOf usage_fault old new
SaysUsage old new before now end = ⊥

-- ---- all words

abbrev pub OfCommand : Option Command → (List ℕ → Option (List ℕ)) → Option (List ℕ)
    → Option (List ℕ) → ℕ → ℕ → ℕ → ℕ → End → Type 0
OfCommand None told old new reads_before reads_now before now end = SaysUsage old new before now end
OfCommand (Some (Checking name)) told old new reads_before reads_now before now end =
    ChecksFile name told old new reads_before reads_now before now end
OfCommand (Some (Explaining name)) told old new reads_before reads_now before now end =
    ExplainsFile name told old new reads_before reads_now before now end
OfCommand (Some (Migrating name)) told old new reads_before reads_now before now end =
    MigratesFile name told old new reads_before reads_now before now end
OfCommand (Some (Importing name)) told old new reads_before reads_now before now end =
    ImportsFile name told old new reads_before reads_now before now end
OfCommand (Some (Exporting name)) told old new reads_before reads_now before now end =
    ExportsFile name told old new reads_before reads_now before now end
OfCommand (Some (Reporting name)) told old new reads_before reads_now before now end =
    ReportsFile name told old new reads_before reads_now before now end
OfCommand (Some (Replaying named)) told old new reads_before reads_now before now end =
    ReplaysFiles named told old new reads_before reads_now before now end
OfCommand (Some (Mirroring names)) told old new reads_before reads_now before now end =
    MirrorsFiles names told old new reads_before reads_now before now end

-- The program's promise for these words, by its end: `told` is what the files hold, where they tell
-- it; `old` and `new` are what was written before and after, where the sink tells it; then the
-- counts of read faults and of write faults before and after.
abbrev pub Offline : List (List ℕ) → (List ℕ → Option (List ℕ)) → Option (List ℕ) → Option (List ℕ)
    → ℕ → ℕ → ℕ → ℕ → End → Type 0
Offline words told old new reads_before reads_now before now end =
    OfCommand (command_of words) told old new reads_before reads_now before now end
