-- A schedule as lines, in this project's own format: which events they spell, and where the first
-- faulty one stands.
use Rattle.std.specs.Prelude.{◌≡◌, ◌⊎◌, ℕ, List, [], ◌∷◌, ◌++◌, length, false, nat_eq, nat_lt}
use Rattle.std.specs.Prelude.{Some, if◌then◌else◌}
use Rattle.core_events.specs.Kinds.{kind_of}
use Rattle.record_model.specs.Past.{Past}
use Rattle.proxy_core.specs.Refusal.{refused}
use Rattle.proxy_core.specs.Scheduler.{State}
use Rattle.run_config.specs.declared.config.Config.{Config}
use Rattle.core_events.specs.declared.event.Event.{Event}
use Rattle.core_events.specs.declared.bad_event.BadEvent.{BadEvent}
use Rattle.journal_text.specs.Line.{IsSkipped, LineFails, longest_line}
use Rattle.journal_text.specs.declared.line_kind.LineKind.{LineKind}
use Rattle.journal_text.specs.declared.line_kind.LineKind.TheVariants.{LongLine, NoNewline, Memory}
use Rattle.journal_text.specs.Line.{SpellsEvent}

-- a line holds no LF
abbrev pub IsLine : List ℕ → Type 0
IsLine [] = Unit {0}
IsLine (byte ∷ line) = (nat_eq byte 10 ≡ false) × IsLine line

abbrev pub AllLines : List (List ℕ) → Type 0
AllLines [] = Unit {0}
AllLines (line ∷ lines) = IsLine line × AllLines lines

-- lines, the newest first, each with its LF
abbrev pub lines_text : List (List ℕ) → List ℕ
lines_text [] = []
lines_text (line ∷ lines) = lines_text lines ++ (line ++ 10 ∷ [])

-- the line isn't skipped, and spells this event
pub record Gives (line : List ℕ) (event : Event) : Type 0 where
  pub not_skipped : IsSkipped line → ⊥
  pub spells : SpellsEvent line event

-- these lines spell these events, the newest first in both
abbrev pub Spell : List (List ℕ) → List Event → Type 0
Spell [] events = events ≡ []
Spell (line ∷ lines) events =
    (IsSkipped line × Spell lines events)
    ⊎ ((event : Event) × (before : List Event) × (events ≡ event ∷ before)
    × Gives line event × Spell lines before)

-- the text is these lines, so many of them, and they spell these events
pub record Reads (text : List ℕ) (number : ℕ) (events : List Event) : Type 0 where
  pub lines : List (List ℕ)
  pub text_is : text ≡ lines_text lines
  pub all_lines : AllLines lines
  pub number_is : number ≡ length lines
  pub spell : Spell lines events

-- the events of a past, the newest first
abbrev pub events_of : Past → List Event
events_of [] = []
events_of (x ∷ past) = x.event ∷ events_of past

-- the line isn't skipped, and this is wrong with it
pub record GivesNone (line : List ℕ) (kind : LineKind) : Type 0 where
  pub not_skipped : IsSkipped line → ⊥
  pub found_memory : kind ≡ Memory → ⊥
  pub fails : LineFails line kind

-- what is wrong with a last line that has no LF and isn't skipped: that it is too long, or just
-- that
abbrev pub unended_kind : List ℕ → LineKind
unended_kind line = if nat_lt longest_line (length line) then LongLine else NoNewline

-- What is wrong with a last line that has no LF. One that is skipped is never too long.
pub record Unends (rest : List ℕ) (kind : LineKind) : Type 0 where
  pub skipped : IsSkipped rest → kind ≡ NoNewline
  pub not_skipped : (IsSkipped rest → ⊥) → kind ≡ unended_kind rest

-- The text begins with a faulty line: the last one, which has no LF, skipped or not, or one that
-- gives no event. Of several faults the one with the least number is told. Behind the last LF there
-- is no line.
pub data Faulty : List ℕ → LineKind → Type 0 where
  Unended : (rest : List ℕ) (kind : LineKind) → IsLine rest → (rest ≡ [] → ⊥)
      → Unends rest kind → Faulty rest kind
  NoEvent : (line rest : List ℕ) (kind : LineKind) → IsLine line → GivesNone line kind
      → Faulty (line ++ 10 ∷ rest) kind

-- it begins with a line whose event the scheduler refuses
pub record Refuses (C : Config) (past : Past) (s : State) (why : BadEvent)
    (text : List ℕ) : Type 0 where
  pub line : List ℕ
  pub rest : List ℕ
  pub text_is : text ≡ line ++ 10 ∷ rest
  pub is_line : IsLine line
  pub event : Event
  pub gives : Gives line event
  pub refused_for : refused C past s (kind_of event) ≡ Some why
