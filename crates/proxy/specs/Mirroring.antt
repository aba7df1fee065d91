-- What `mirror CONFIG RECORD PLAN` comes to.
use Rattle.std.specs.Prelude.{◌≡◌, ◌⊎◌, ℕ, List, Option, Some, None, Result, Ok, Err}
use Rattle.std.specs.List.{slice_split}
use Rattle.config.specs.Loading.{IsContents}
use Rattle.config.specs.declared.reader.LoadedConfig as loaded
use Rattle.journal_value.specs.Journal.{AllFit, IsJournal, is_lf}
use Rattle.journal_value.specs.declared.journal.JournalLine.{JournalLine}
use Rattle.px_bytes.specs.declared.memory.Memory as want
use Rattle.px_outside.specs.Outside.{told_more, Rose}
use Rattle.table_mirror.specs.Laws.{Holds}
use Rattle.table_mirror.specs.Outcomes.{ComesTo}
use Rattle.table_mirror.specs.Pushed.{out_of_order, pushed}
use Rattle.table_mirror.specs.Told.{number_told}
use Rattle.table_mirror.specs.declared.outcome.MirrorOutcome.{MirrorOutcome}
use Rattle.table_mirror.specs.declared.outcome.MirrorOutcome.TheVariants.{Mirrored, Faulty, Stopped}
use Rattle.table_mirror.specs.declared.packet.MirrorStop.{MirrorStop}
use Rattle.table_mirror.specs.declared.packet.MirrorStop.TheVariants.{NotSent, Differs as Other}
use Rattle.proxy.specs.declared.end.End.{End}
use Rattle.proxy.specs.declared.end.End.TheVariants.{Done, Usage, Config, Schedule, ReadFault}
use Rattle.proxy.specs.declared.end.End.TheVariants.{WriteFault, Memory, Differs, SecondText}
use Rattle.proxy.specs.declared.mirror_command.MirrorTexts.{MirrorTexts}
use Rattle.proxy.specs.Command.{MirrorNames}
use Rattle.proxy.specs.Loads.{IsUnread, Loads, LoadsSome}
use Rattle.proxy.specs.Recorded.{FaultsRecord}
use Rattle.proxy.specs.Report.{mirror_differs, plan_fault, text_fault}
use Rattle.proxy.specs.Says.{Tells, TellsFault}
use Rattle.proxy.specs.Written.{WritesDue}

-- ---- what a plan comes to, in text

abbrev pub stop_text : (line : ℕ) → MirrorStop → List ℕ
stop_text line NotSent = plan_fault line 1
stop_text line (Other number) = mirror_differs number

abbrev pub outcome_text : MirrorOutcome → List ℕ
outcome_text (Mirrored text) = text
outcome_text (Faulty line kind) = text_fault line kind
outcome_text (Stopped line stop) = stop_text line stop

abbrev pub stop_end : MirrorStop → End
stop_end NotSent = Schedule
stop_end (Other number) = Differs

abbrev pub outcome_end : MirrorOutcome → End
outcome_end (Mirrored text) = Done
outcome_end (Faulty line kind) = Schedule
outcome_end (Stopped line stop) = stop_end stop

-- ---- what a record and a plan come to

-- the plan was followed with the calls of the table that this journal tells, and the mirror's theorem holds
pub record FollowsPlan (rows : ℕ) (told : List JournalLine) (plan text : List ℕ) (end : End) : Type 0 where
  pub outcome : MirrorOutcome
  pub comes : ComesTo rows (pushed told) plan outcome
  pub holds : Holds rows (pushed told) outcome
  pub text_is : text ≡ outcome_text outcome
  pub end_is : end ≡ outcome_end outcome

-- the line of the record that tells this is named: its moment is out of order
pub record NamesMoment (record_text : List ℕ) (place : ℕ) (text : List ℕ) (end : End) : Type 0 where
  pub line : ℕ
  pub told_there : number_told (slice_split is_lf record_text) place ≡ Some line
  pub text_is : text ≡ plan_fault line 2
  pub end_is : end ≡ Schedule

abbrev pub OfMoments : Option ℕ → (rows : ℕ) → (record_text : List ℕ) → List JournalLine → (plan text : List ℕ) → End
    → Type 0
OfMoments (Some place) rows record_text told plan text end = NamesMoment record_text place text end
OfMoments None rows record_text told plan text end = FollowsPlan rows told plan text end

-- the record is a journal, and no other one
pub record IsOneJournal (record_text : List ℕ) (told : List JournalLine) : Type 0 where
  pub journal : IsJournal record_text told
  pub one : (other : List JournalLine) → AllFit other → IsJournal record_text other → told ≡ other

pub record MirrorsJournal (rows : ℕ) (record_text plan text : List ℕ) (end : End) : Type 0 where
  pub told : List JournalLine
  pub is_one : IsOneJournal record_text told
  pub comes : OfMoments (out_of_order 0 told) rows record_text told plan text end

-- the text that is due for a record and a plan, and the end; the table may have so many rows
abbrev pub MirrorsTo : (rows : ℕ) → (record_text plan text : List ℕ) → End → Type 0
MirrorsTo rows record_text plan text end =
    (FaultsRecord record_text text × (end ≡ Schedule)) ⊎ MirrorsJournal rows record_text plan text end

-- ---- by the end

-- the configuration loads, and its session table may have so many rows
pub record HasRows (told : List ℕ → Option (List ℕ)) (name : List ℕ) (rows : ℕ) : Type 0 where
  pub C : loaded.LoadedConfig
  pub loads : Loads told name C
  pub rows_are : rows ≡ C.settings.rows

-- the files hold these texts
pub record AreTexts (told : List ℕ → Option (List ℕ)) (names : MirrorNames) (rows : ℕ) (texts : MirrorTexts)
    : Type 0 where
  pub rows_are : texts.rows ≡ rows
  pub record_text : IsContents told names.record_file texts.record_text
  pub plan : IsContents told names.plan texts.plan

-- the configuration loads, and the files hold a record and a plan for which this is due
pub record IsMirror (told : List ℕ → Option (List ℕ)) (names : MirrorNames) (text : List ℕ) (end : End)
    : Type 0 where
  pub rows : ℕ
  pub has_rows : HasRows told names.config rows
  pub texts : MirrorTexts
  pub are_texts : AreTexts told names rows texts
  pub comes : MirrorsTo texts.rows texts.record_text texts.plan text end

-- it was written
abbrev pub WritesMirror : (List ℕ → Option (List ℕ)) → MirrorNames → Option (List ℕ) → Option (List ℕ) → End
    → Type 0
WritesMirror told names old new end =
    (text : List ℕ) × IsMirror told names text end × (new ≡ told_more old text)

-- the text that is due: that, or why the configuration doesn't load
abbrev pub IsMirrorText : (List ℕ → Option (List ℕ)) → (before now : ℕ) → MirrorNames → List ℕ → Type 0
IsMirrorText told before now names text =
    TellsFault told before now names.config text ⊎ ((end : End) × IsMirror told names text end)

abbrev pub MirrorsFiles : MirrorNames → (List ℕ → Option (List ℕ)) → Option (List ℕ) → Option (List ℕ) → ℕ
    → ℕ → ℕ → ℕ → End → Type 0
MirrorsFiles names told old new reads_before reads_now before now Done = WritesMirror told names old new Done
MirrorsFiles names told old new reads_before reads_now before now Usage = ⊥
MirrorsFiles names told old new reads_before reads_now before now Config =
    (text : List ℕ) × TellsFault told reads_before reads_now names.config text
    × (new ≡ told_more old text)
MirrorsFiles names told old new reads_before reads_now before now Schedule =
    WritesMirror told names old new Schedule
MirrorsFiles names told old new reads_before reads_now before now ReadFault =
    Rose reads_before reads_now
    × (IsUnread told reads_before reads_now names.config ⊎ LoadsSome told names.config)
    × (new ≡ old)
MirrorsFiles names told old new reads_before reads_now before now WriteFault =
    Rose before now × WritesDue (IsMirrorText told reads_before reads_now names) old new
MirrorsFiles names told old new reads_before reads_now before now Memory =
    (new ≡ old) ⊎ WritesDue (IsMirrorText told reads_before reads_now names) old new
MirrorsFiles names told old new reads_before reads_now before now Differs =
    WritesMirror told names old new Differs
MirrorsFiles names told old new reads_before reads_now before now SecondText = ⊥

-- ---- what is told

-- a text that was made is told, with this end
abbrev pub TellsMade : Result (List ℕ) want.Memory → (usual : End) → Option (List ℕ) → Option (List ℕ) → ℕ → ℕ → End
    → Type 0
TellsMade (Ok text) usual old new before now end = Tells text usual old new before now end
TellsMade (Err w) usual old new before now end = (end ≡ Memory) × (new ≡ old)

-- a text that is due is told, with its end; or memory was refused
pub record TellsDue (IsDue : List ℕ → End → Type 0) (old new : Option (List ℕ)) (before now : ℕ) (end : End)
    : Type 0 where
  pub text : List ℕ
  pub usual : End
  pub due : IsDue text usual
  pub tells : Tells text usual old new before now end

abbrev pub TellsSome : (List ℕ → End → Type 0) → Option (List ℕ) → Option (List ℕ) → ℕ → ℕ → End → Type 0
TellsSome IsDue old new before now end =
    TellsDue IsDue old new before now end ⊎ ((end ≡ Memory) × (new ≡ old))
