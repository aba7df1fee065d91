-- When a command comes to its whole text.
use Rattle.std.specs.Prelude.{◌≡◌, ◌⊎◌, ℕ, List, Option, Some, None, IsSome}
use Rattle.config.specs.Documents.{document_fault, items_at}
use Rattle.config.specs.Keys.{rules, rule_text}
use Rattle.config.specs.Loading.{file_name}
use Rattle.config.specs.Outcomes.{Configures, IsDocument}
use Rattle.config.specs.Texts.{text_in}
use Rattle.config.specs.declared.reader.LoadedConfig as loaded
use Rattle.px_outside.specs.Outside.{told_more, Rose}
use Rattle.run_config.specs.declared.config.Config as core
use Rattle.core_events.specs.declared.event.Event.{Event}
use Rattle.toml.specs.Data.{Data, Items, no_items, item, Members}
use Rattle.table_mirror.specs.Outcomes.{ComesTo}
use Rattle.table_mirror.specs.Pushed.{out_of_order, pushed}
use Rattle.table_mirror.specs.declared.outcome.MirrorOutcome.{MirrorOutcome}
use Rattle.proxy.specs.declared.end.End.{End}
use Rattle.proxy.specs.declared.end.End.TheVariants.{Done, Schedule, Memory}
use Rattle.journal_value.specs.Journal.{AllFit, IsJournal}
use Rattle.journal_value.specs.declared.journal.JournalLine.{JournalLine}
use Rattle.proxy.specs.Command.{Command, Checks, Explains, Migrates, Mirrors, MirrorNames, Replays, Reports, Named, command_of}
use Rattle.proxy.specs.Lines.{Reads}
use Rattle.proxy.specs.Mirroring.{outcome_end, outcome_text}
use Rattle.proxy.specs.Offline.{Runs}
use Rattle.proxy.specs.Replayed.{MeetsRefusal}
use Rattle.proxy.specs.Runnable.{IsBuilt}

-- the files tell the text of a rule, where it doesn't stand in the document
abbrev pub IsTold : (List ℕ → Option (List ℕ)) → Data → Type 0
IsTold told d = IsSome (text_in (Some rule_text.name) d) ⊎ IsSome (told (file_name d))

abbrev pub AreTold : (List ℕ → Option (List ℕ)) → Items → Type 0
AreTold told no_items = Unit {0}
AreTold told (item d ds) = IsTold told d × AreTold told ds

-- the configuration loads, of files that are told
pub record MayLoad (told : List ℕ → Option (List ℕ)) (name : List ℕ) (C : loaded.LoadedConfig)
    : Type 0 where
  pub bytes : List ℕ
  pub config : told name ≡ Some bytes
  pub top : Members
  pub document : IsDocument bytes top
  pub faultless : document_fault top ≡ None
  pub texts : AreTold told (items_at rules top)
  pub configures : Configures told top C

-- ---- `check CONFIG`, `explain CONFIG` and `migrate CONFIG`

-- the command is asked of a configuration that loads, and no count rose
pub record MayTell (asked : List ℕ → Command) (words : List (List ℕ))
    (told : List ℕ → Option (List ℕ)) (reads_before reads_now before now : ℕ) : Type 0 where
  pub name : List ℕ
  pub command : command_of words ≡ Some (asked name)
  pub C : loaded.LoadedConfig
  pub loads : MayLoad told name C
  pub no_read_fault : Rose reads_before reads_now → ⊥
  pub no_write_fault : Rose before now → ⊥

-- ---- `report RECORD`

-- the record is the journal of events and notes that there can be, and no count rose
pub record MayReport (words : List (List ℕ)) (told : List ℕ → Option (List ℕ))
    (reads_before reads_now before now : ℕ) : Type 0 where
  pub name : List ℕ
  pub command : command_of words ≡ Some (Reports name)
  pub record_text : List ℕ
  pub record_is : told name ≡ Some record_text
  pub lines : List JournalLine
  pub journal : IsJournal record_text lines
  pub fit : AllFit lines
  pub no_read_fault : Rose reads_before reads_now → ⊥
  pub no_write_fault : Rose before now → ⊥

-- ---- `mirror CONFIG RECORD PLAN`

-- the configuration loads, the record is a journal whose moments are in order, the plan comes to this, and no count
-- rose
pub record MayMirror (words : List (List ℕ)) (told : List ℕ → Option (List ℕ))
    (reads_before reads_now before now : ℕ) : Type 0 where
  pub names : MirrorNames
  pub command : command_of words ≡ Some (Mirrors names)
  pub C : loaded.LoadedConfig
  pub loads : MayLoad told names.config C
  pub record_text : List ℕ
  pub record_is : told names.record_file ≡ Some record_text
  pub lines : List JournalLine
  pub journal : IsJournal record_text lines
  pub fit : AllFit lines
  pub in_order : out_of_order 0 lines ≡ None
  pub plan : List ℕ
  pub plan_is : told names.plan ≡ Some plan
  pub outcome : MirrorOutcome
  pub comes : ComesTo C.settings.rows (pushed lines) plan outcome
  pub no_read_fault : Rose reads_before reads_now → ⊥
  pub no_write_fault : Rose before now → ⊥

-- ---- `replay CONFIG SCHEDULE`

-- the configuration loads and can be run, each line of the schedule spells an event or is skipped,
-- and no count rose
pub record MayReplay (words : List (List ℕ)) (told : List ℕ → Option (List ℕ))
    (reads_before reads_now before now : ℕ) : Type 0 where
  pub named : Named
  pub command : command_of words ≡ Some (Replays named)
  pub C : loaded.LoadedConfig
  pub loads : MayLoad told named.config C
  pub built : IsBuilt C
  pub schedule : List ℕ
  pub schedule_is : told named.schedule ≡ Some schedule
  pub number : ℕ
  pub events : List Event
  pub reads : Reads schedule number events
  pub no_read_fault : Rose reads_before reads_now → ⊥
  pub no_write_fault : Rose before now → ⊥

-- an event is refused at its place
abbrev pub IsRefused : (List ℕ → Option (List ℕ)) → Named → List ℕ → Option (List ℕ)
    → Option (List ℕ) → Type 0
IsRefused told named schedule old new =
    (K : core.Config) × Runs told named K schedule × MeetsRefusal K schedule old new

-- Then a check, an explanation, a migration or a report is done, or memory was refused; a mirror tells what its plan comes to, or memory
-- was refused; a replay is done, or an event is refused at its place, or memory was refused.
pub record Completes (words : List (List ℕ)) (told : List ℕ → Option (List ℕ))
    (old new : Option (List ℕ)) (reads_before reads_now before now : ℕ) (end : End)
    : Type 0 where
  pub check : MayTell Checks words told reads_before reads_now before now
      → (end ≡ Done) ⊎ (end ≡ Memory)
  pub explain : MayTell Explains words told reads_before reads_now before now
      → (end ≡ Done) ⊎ (end ≡ Memory)
  pub migrate : MayTell Migrates words told reads_before reads_now before now
      → (end ≡ Done) ⊎ (end ≡ Memory)
  pub report : MayReport words told reads_before reads_now before now
      → (end ≡ Done) ⊎ (end ≡ Memory)
  pub mirror : (m : MayMirror words told reads_before reads_now before now)
      → ((end ≡ outcome_end m.outcome) × (new ≡ told_more old (outcome_text m.outcome))) ⊎ (end ≡ Memory)
  pub replay : (m : MayReplay words told reads_before reads_now before now)
      → (end ≡ Done) ⊎ (end ≡ Memory)
      ⊎ ((end ≡ Schedule) × IsRefused told m.named m.schedule old new)
