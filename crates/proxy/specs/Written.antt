-- What a replay has read and written so far.
use Rattle.std.specs.Prelude.{◌≡◌, ◌⊎◌, ℕ, ◌+◌, List, [], ◌++◌, length, take, Option}
use Rattle.px_outside.specs.Outside.{told_more}
use Rattle.proxy_core.specs.Moves.{Leads}
use Rattle.record_model.specs.Past.{Past}
use Rattle.proxy_core.specs.Represents.{Represents}
use Rattle.proxy_core.specs.Scheduler.{State}
use Rattle.run_config.specs.declared.config.Config.{Config}
use Rattle.proxy_core.specs.declared.core_state.Core.{Core}
use Rattle.core_events.specs.declared.bad_event.BadEvent.{BadEvent}
use Rattle.proxy.specs.declared.taken.Taken.{Taken}
use Rattle.journal_text.specs.declared.line_kind.LineKind.{LineKind}
use Rattle.proxy.specs.Lines.{Reads, Faulty, Refuses, events_of}
use Rattle.proxy.specs.Replay.{notes_text, accepted, taken_of, report_text}
use Rattle.proxy.specs.Report.{end_text, text_fault, event_fault}

-- This text was read, in so many lines. The core stands for a past whose events are those of the
-- lines; the notes of it are written, and nothing else; and the bytes that the sides of connections
-- took are kept.
pub record Stands (C : Config) (text : List ℕ) (number : ℕ) (core : Core) (taken : List Taken)
    (events : ℕ) (old new : Option (List ℕ)) : Type 0 where
  pub past : Past
  pub state : State
  pub represents : Represents C past state core
  pub reads : Reads text number (events_of past)
  pub count : events ≡ length past
  pub taken_is : taken ≡ taken_of past state (accepted past)
  pub written : new ≡ told_more old (notes_text C past)

-- the whole schedule was read
pub record StandsAtEnd (C : Config) (schedule : List ℕ) (core : Core) (taken : List Taken)
    (events : ℕ) (old new : Option (List ℕ)) : Type 0 where
  pub number : ℕ
  pub stands : Stands C schedule number core taken events old new

-- the last line of a report of this past, behind whose lines stands this rest of the schedule: how
-- many events there were, or the first faulty line, with its number
abbrev pub IsLast : Config → Past → State → (number : ℕ) → (rest : List ℕ) → List ℕ → Type 0
IsLast C past s number rest last =
    ((rest ≡ []) × (last ≡ end_text (length past)))
    ⊎ ((kind : LineKind) × Faulty rest kind × (last ≡ text_fault (number + 1) kind))
    ⊎ ((why : BadEvent) × Refuses C past s why rest × (last ≡ event_fault (number + 1) why))

-- a past of this configuration, whose events are those of a front of this schedule
pub record IsFront (C : Config) (schedule : List ℕ) (past : Past) (state : State) : Type 0 where
  pub leads : Leads C past state
  pub read : List ℕ
  pub rest : List ℕ
  pub front : schedule ≡ read ++ rest
  pub number : ℕ
  pub reads : Reads read number (events_of past)

-- the notes of such a past
pub record IsNotes (C : Config) (schedule text : List ℕ) : Type 0 where
  pub past : Past
  pub state : State
  pub of_front : IsFront C schedule past state
  pub text_is : text ≡ notes_text C past

-- the whole report that is due for this schedule, with its last line
pub record IsReport (C : Config) (schedule text : List ℕ) : Type 0 where
  pub past : Past
  pub state : State
  pub of_front : IsFront C schedule past state
  pub last : List ℕ
  pub is_last : IsLast C past state of_front.number of_front.rest last
  pub text_is : text ≡ report_text C past state last

abbrev pub IsWritten : Config → List ℕ → List ℕ → Type 0
IsWritten C schedule text = IsNotes C schedule text ⊎ IsReport C schedule text

-- a prefix of the text was written, all of it or less
abbrev pub WritesFrontOf : List ℕ → Option (List ℕ) → Option (List ℕ) → Type 0
WritesFrontOf text old new = (n : ℕ) × (new ≡ told_more old (take n text))

-- a prefix of a text that is due was written
abbrev pub WritesDue : (List ℕ → Type 0) → Option (List ℕ) → Option (List ℕ) → Type 0
WritesDue IsDue old new = (text : List ℕ) × IsDue text × WritesFrontOf text old new

-- a prefix of the notes of some lines was written
abbrev pub WritesNotes : Config → List ℕ → Option (List ℕ) → Option (List ℕ) → Type 0
WritesNotes C schedule old new =
    (text : List ℕ) × IsNotes C schedule text × WritesFrontOf text old new

-- a prefix of such notes, or of the whole report
abbrev pub WritesFront : Config → List ℕ → Option (List ℕ) → Option (List ℕ) → Type 0
WritesFront C schedule old new =
    (text : List ℕ) × IsWritten C schedule text × WritesFrontOf text old new
