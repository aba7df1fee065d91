-- Where a replay stops.
use Rattle.std.specs.Prelude.{◌≡◌, ℕ, ◌+◌, List, ◌∷◌, [], ◌++◌, Some, Option}
use Rattle.px_outside.specs.declared.failed.Failed.{Failed}
use Rattle.px_outside.specs.declared.failed.Failed.TheVariants as failed
use Rattle.core_events.specs.Kinds.{kind_of}
use Rattle.proxy_core.specs.Refusal.{refused}
use Rattle.run_config.specs.declared.config.Config.{Config}
use Rattle.proxy_core.specs.declared.core_state.Core.{Core}
use Rattle.core_events.specs.declared.bad_event.BadEvent.{BadEvent}
use Rattle.core_events.specs.declared.event.Event.{Event}
use Rattle.journal_text.specs.declared.line_kind.LineKind.{LineKind}
use Rattle.proxy.specs.declared.taken.Taken.{Taken}
use Rattle.proxy.specs.declared.replay.Stop.{Stop}
use Rattle.proxy.specs.declared.replay.Stop.TheVariants.{Text, Event as Refused, WriteFault, Memory}
use Rattle.proxy.specs.Lines.{IsLine, Gives, GivesNone, Faulty, Refuses}
use Rattle.proxy.specs.Written.{Stands, WritesNotes, WritesFront}

abbrev pub stop_of : Failed → Stop
stop_of failed.Failed = WriteFault
stop_of failed.Memory = Memory

-- a text with one more line
abbrev pub with_line : List ℕ → List ℕ → List ℕ
with_line text line = text ++ (line ++ 10 ∷ [])

-- At an event of a line: the notes so far are written and nothing
-- else, and the scheduler refuses the event; or a prefix of notes is written.
abbrev pub StoppedAtEvent : Config → (text line : List ℕ) → (number : ℕ) → (at : ℕ) → Event → Core
    → List Taken → ℕ → Option (List ℕ) → Option (List ℕ) → Stop → Type 0
StoppedAtEvent C text line number at event core taken events old new (Text l kind) = ⊥
StoppedAtEvent C text line number at event core taken events old new (Refused l why) =
    (l ≡ at) × ((st : Stands C text number core taken events old new)
    × Gives line event
    × (refused C st.past st.state (kind_of event) ≡ Some why))
StoppedAtEvent C text line number at event core taken events old new WriteFault =
    WritesNotes C (with_line text line) old new
StoppedAtEvent C text line number at event core taken events old new Memory =
    WritesNotes C (with_line text line) old new

-- At a line: it gives no event, or its event is refused; or a prefix of notes is written.
abbrev pub StoppedAtLine : Config → (text line : List ℕ) → (number : ℕ) → (at : ℕ) → Core
    → List Taken → ℕ → Option (List ℕ) → Option (List ℕ) → Stop → Type 0
StoppedAtLine C text line number at core taken events old new (Text l kind) =
    (l ≡ at) × ((st : Stands C text number core taken events old new)
    × GivesNone line kind)
StoppedAtLine C text line number at core taken events old new (Refused l why) =
    (l ≡ at) × ((st : Stands C text number core taken events old new) × (event : Event)
    × Gives line event
    × (refused C st.past st.state (kind_of event) ≡ Some why))
StoppedAtLine C text line number at core taken events old new WriteFault =
    WritesNotes C (with_line text line) old new
StoppedAtLine C text line number at core taken events old new Memory =
    WritesNotes C (with_line text line) old new

-- What stands after an event of a line.
abbrev pub GoesOnWith : Event → (before after : Core) → (taken taken' : List Taken)
    → (events events' : ℕ) → (old new : Option (List ℕ)) → Type 0
GoesOnWith event before after taken taken' events events' old new =
    (C : Config) (told : Option (List ℕ)) (text line : List ℕ) (number : ℕ)
    → (st : Stands C text number before taken events told old) → IsLine line
    → Gives line event
    → Stands C (with_line text line) (number + 1) after taken' events' told new

abbrev pub StopsWith : (at : ℕ) → Event → (before after : Core) → (taken taken' : List Taken)
    → (events events' : ℕ) → (old new : Option (List ℕ)) → Stop → Type 0
StopsWith at event before after taken taken' events events' old new why =
    (C : Config) (told : Option (List ℕ)) (text line : List ℕ) (number : ℕ)
    → (st : Stands C text number before taken events told old) → IsLine line
    → Gives line event
    → StoppedAtEvent C text line number at event after taken' events' told new why

-- what stands after a line
abbrev pub GoesOnBehind : (line : List ℕ) → (before after : Core) → (taken taken' : List Taken)
    → (events events' : ℕ) → (old new : Option (List ℕ)) → Type 0
GoesOnBehind line before after taken taken' events events' old new =
    (C : Config) (told : Option (List ℕ)) (text : List ℕ) (number : ℕ)
    → Stands C text number before taken events told old
    → Stands C (with_line text line) (number + 1) after taken' events' told new

abbrev pub StopsBehind : (at : ℕ) → (line : List ℕ) → (before after : Core)
    → (taken taken' : List Taken) → (events events' : ℕ) → (old new : Option (List ℕ)) → Stop
    → Type 0
StopsBehind at line before after taken taken' events events' old new why =
    (C : Config) (told : Option (List ℕ)) (text : List ℕ) (number : ℕ)
    → Stands C text number before taken events told old
    → StoppedAtLine C text line number at after taken' events' told new why

-- In a schedule: behind the lines that were read stands a faulty one, or one whose event is
-- refused, and its number, the first being 1, is told.
pub record StoppedText (C : Config) (schedule : List ℕ) (l : ℕ) (kind : LineKind) (core : Core)
    (taken : List Taken) (events : ℕ) (old new : Option (List ℕ)) : Type 0 where
  pub text : List ℕ
  pub rest : List ℕ
  pub schedule_is : schedule ≡ text ++ rest
  pub number : ℕ
  pub line_is : l ≡ number + 1
  pub stands : Stands C text number core taken events old new
  pub faulty : Faulty rest kind

pub record StoppedEvent (C : Config) (schedule : List ℕ) (l : ℕ) (why : BadEvent) (core : Core)
    (taken : List Taken) (events : ℕ) (old new : Option (List ℕ)) : Type 0 where
  pub text : List ℕ
  pub rest : List ℕ
  pub schedule_is : schedule ≡ text ++ rest
  pub number : ℕ
  pub line_is : l ≡ number + 1
  pub stands : Stands C text number core taken events old new
  pub refuses : Refuses C stands.past stands.state why rest

abbrev pub Stopped : Config → List ℕ → Core → List Taken → ℕ → Option (List ℕ) → Option (List ℕ)
    → Stop → Type 0
Stopped C schedule core taken events old new (Text l kind) =
    StoppedText C schedule l kind core taken events old new
Stopped C schedule core taken events old new (Refused l why) =
    StoppedEvent C schedule l why core taken events old new
Stopped C schedule core taken events old new WriteFault = WritesFront C schedule old new
Stopped C schedule core taken events old new Memory = WritesFront C schedule old new

-- a stop that no line of the schedule brings about
abbrev pub IsOutside : Stop → Type 0
IsOutside (Text line kind) = ⊥
IsOutside (Refused line why) = ⊥
IsOutside WriteFault = Unit {0}
IsOutside Memory = Unit {0}

-- at the start no line is read yet, and a prefix of the notes of the start was written
abbrev pub StopsAtStart : Config → Option (List ℕ) → Option (List ℕ) → Stop → Type 0
StopsAtStart C old new (Text line kind) = ⊥
StopsAtStart C old new (Refused line why) = ⊥
StopsAtStart C old new WriteFault = WritesNotes C [] old new
StopsAtStart C old new Memory = WritesNotes C [] old new
