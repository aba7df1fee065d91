-- What `report RECORD` comes to.
use Rattle.std.specs.Prelude.{◌≡◌, ◌⊎◌, ℕ, List, Option}
use Rattle.access_report.specs.Table.{ReportsRecord}
use Rattle.config.specs.Loading.{IsContents}
use Rattle.journal_text.specs.declared.line_kind.LineKind.TheVariants as kind
use Rattle.journal_value.specs.Journal.{FirstFault}
use Rattle.journal_value.specs.declared.journal.LineFault.{LineFault}
use Rattle.px_outside.specs.Outside.{told_more, Rose}
use Rattle.proxy.specs.declared.end.End.{End}
use Rattle.proxy.specs.declared.end.End.TheVariants.{Done, Usage, Config, Schedule, ReadFault}
use Rattle.proxy.specs.declared.end.End.TheVariants.{WriteFault, Memory, Differs, SecondText}
use Rattle.proxy.specs.Report.{text_fault}
use Rattle.proxy.specs.Says.{Tells}
use Rattle.proxy.specs.Written.{WritesFrontOf}

-- or the line of its first fault
pub record FaultsRecord (record_text text : List ℕ) : Type 0 where
  pub fault : LineFault
  pub found_memory : ¬ (fault.kind ≡ kind.Memory)
  pub first : FirstFault record_text fault
  pub text_is : text ≡ text_fault fault.line fault.kind

-- the text that is due for a record
abbrev pub IsRecordText : List ℕ → List ℕ → Type 0
IsRecordText record_text text = ReportsRecord record_text text ⊎ FaultsRecord record_text text

-- a prefix of it was written
abbrev pub WritesRecordText : List ℕ → Option (List ℕ) → Option (List ℕ) → Type 0
WritesRecordText record_text old new =
    (text : List ℕ) × IsRecordText record_text text × WritesFrontOf text old new

-- by the end
abbrev pub TellsRecord : List ℕ → Option (List ℕ) → Option (List ℕ) → ℕ → ℕ → End → Type 0
TellsRecord record_text old new before now Done =
    (text : List ℕ) × ReportsRecord record_text text × (new ≡ told_more old text)
TellsRecord record_text old new before now Usage = ⊥
TellsRecord record_text old new before now Config = ⊥
TellsRecord record_text old new before now Schedule =
    (text : List ℕ) × FaultsRecord record_text text × (new ≡ told_more old text)
TellsRecord record_text old new before now ReadFault = ⊥
TellsRecord record_text old new before now WriteFault =
    Rose before now × WritesRecordText record_text old new
TellsRecord record_text old new before now Memory =
    (new ≡ old) ⊎ WritesRecordText record_text old new
TellsRecord record_text old new before now Differs = ⊥
TellsRecord record_text old new before now SecondText = ⊥

-- the file is this record, and that came of it
pub record TellsContents (told : List ℕ → Option (List ℕ)) (name : List ℕ) (old new : Option (List ℕ))
    (before now : ℕ) (end : End) : Type 0 where
  pub record_text : List ℕ
  pub contents : IsContents told name record_text
  pub tells : TellsRecord record_text old new before now end

-- the record can't be read; or it was read
abbrev pub ReportsFile : List ℕ → (List ℕ → Option (List ℕ)) → Option (List ℕ) → Option (List ℕ) → ℕ
    → ℕ → ℕ → ℕ → End → Type 0
ReportsFile name told old new reads_before reads_now before now ReadFault =
    Rose reads_before reads_now × (new ≡ old)
ReportsFile name told old new reads_before reads_now before now Memory =
    (new ≡ old) ⊎ TellsContents told name old new before now Memory
ReportsFile name told old new reads_before reads_now before now end =
    TellsContents told name old new before now end

-- ---- what is told of a fault

abbrev pub TellsLineFault : LineFault → Option (List ℕ) → Option (List ℕ) → ℕ → ℕ → End → Type 0
TellsLineFault fault old new before now end =
    ((¬ (fault.kind ≡ kind.Memory))
    × Tells (text_fault fault.line fault.kind) Schedule old new before now end)
    ⊎ ((end ≡ Memory) × (new ≡ old))
