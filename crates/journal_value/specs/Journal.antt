-- What a journal tells, line by line; and its first faulty line.
use Rattle.std.specs.Prelude.{◌≡◌, ℕ, ◌+◌, ◌≤◌, Bool, true, false, ◌||◌, List, [], ◌∷◌, ◌++◌}
use Rattle.std.specs.Prelude.{length, ◌==◌, nat_lt, Option, Some, None}
use Rattle.std.specs.Prelude.{if◌then◌else◌}
use Rattle.std.specs.List.{All, slice_split}
use Rattle.core_events.specs.declared.event.Event.{Event}
use Rattle.core_events.specs.declared.note.Note.{Note}
use Rattle.journal_text.specs.Form.{fields, forms, verb_of}
use Rattle.journal_text.specs.Laws.{AllWritable}
use Rattle.journal_text.specs.Line.{IsSkipped, LineFails, SpellsEvent, event_line, event_text}
use Rattle.journal_text.specs.Line.{longest_line}
use Rattle.journal_text.specs.Notes.{note_line}
use Rattle.journal_text.specs.declared.line_kind.LineKind.{LineKind}
use Rattle.journal_text.specs.declared.line_kind.LineKind.TheVariants as kind
use Rattle.journal_value.specs.Words.{IsNote}
use Rattle.journal_value.specs.declared.journal.JournalLine.{JournalLine}
use Rattle.journal_value.specs.declared.journal.JournalLine.TheVariants as line
use Rattle.journal_value.specs.declared.journal.LineFault.{LineFault}

abbrev pub is_lf : ℕ → Bool
is_lf byte = byte == 10

-- what stands before, between and behind the LFs
abbrev pub parts_of : List ℕ → List (List ℕ)
parts_of text = slice_split is_lf text

-- ---- what a line tells; it is given without its LF

-- it is empty, or begins with `#`
abbrev pub IsComment : List ℕ → Type 0
IsComment [] = Unit {0}
IsComment (first ∷ rest) = first ≡ 35

-- it begins with `>`
abbrev pub BeginsNote : List ℕ → Type 0
BeginsNote [] = ⊥
BeginsNote (first ∷ rest) = first ≡ 62

-- nothing, the event that it spells, or the note that is written so
abbrev pub Tells : List ℕ → Option JournalLine → Type 0
Tells text None = IsComment text
Tells text (Some (line.Event event)) = (¬ IsSkipped text) × SpellsEvent text event
Tells text (Some (line.Note note)) = note_line note ≡ text ++ 10 ∷ []

-- before what is told by the lines behind it
abbrev pub before : Option JournalLine → List JournalLine → List JournalLine
before None told = told
before (Some line) told = line ∷ told

-- with what one more line tells
abbrev pub behind : List JournalLine → Option JournalLine → List JournalLine
behind told None = told
behind told (Some line) = told ++ line ∷ []

-- what lines tell, in order
abbrev pub Tell : List (List ℕ) → List JournalLine → Type 0
Tell [] told = told ≡ []
Tell (line ∷ lines) told =
    (first : Option JournalLine) × (rest : List JournalLine) × Tells line first
    × Tell lines rest × (told ≡ before first rest)

-- nothing stands behind the last LF
abbrev pub TellBefore : List (List ℕ) → List ℕ → List JournalLine → Type 0
TellBefore lines rest told = (rest ≡ []) × Tell lines told

-- the journal: its lines, each with its LF, tell this
pub record IsJournal (text : List ℕ) (told : List JournalLine) : Type 0 where
  pub lines : List (List ℕ)
  pub text_is : parts_of text ≡ lines ++ [] ∷ []
  pub tell : Tell lines told

-- ---- what is wrong with a line

-- a line that isn't skipped has a fault of events; one that begins with `>` is no note's
abbrev pub Fails : List ℕ → LineKind → Type 0
Fails line kind.Memory = Unit {0}
Fails line kind.NotNote =
    BeginsNote line × ((note : Note) → IsNote note → ¬ (note_line note ≡ line ++ 10 ∷ []))
Fails line other = (¬ IsSkipped line) × LineFails line other

abbrev pub is_skipped : List ℕ → Bool
is_skipped [] = true
is_skipped (first ∷ rest) = first == 35 || first == 62

-- a last line without LF: too long, where it isn't skipped, or just that
abbrev pub unended_kind : List ℕ → LineKind
unended_kind line =
    if is_skipped line then kind.NoNewline
    else (if nat_lt longest_line (length line) then kind.LongLine else kind.NoNewline)

-- behind it stands a part or more, before which it had its LF; or none
abbrev pub FailsBefore : List (List ℕ) → List ℕ → LineKind → Type 0
FailsBefore [] line kind = (¬ (line ≡ [])) × (kind ≡ unended_kind line)
FailsBefore (part ∷ parts) line kind = Fails line kind

-- all lines before it tell something or nothing
pub record FaultAt (parts : List (List ℕ)) (fault : LineFault) : Type 0 where
  pub front : List (List ℕ)
  pub line : List ℕ
  pub behind : List (List ℕ)
  pub parts_are : parts ≡ front ++ line ∷ behind
  pub number : fault.line ≡ length front + 1
  pub told : List JournalLine
  pub tell : Tell front told
  pub fails : FailsBefore behind line fault.kind

-- the first faulty line, unless memory was refused
abbrev pub FirstFault : List ℕ → LineFault → Type 0
FirstFault text fault = ¬ (fault.kind ≡ kind.Memory) → FaultAt (parts_of text) fault

-- the same, of lines and what stands behind the last LF
abbrev pub FaultyBefore : List (List ℕ) → List ℕ → LineFault → Type 0
FaultyBefore lines rest fault =
    ¬ (fault.kind ≡ kind.Memory) → FaultAt (lines ++ rest ∷ []) fault

-- the same, of lines with their LF
abbrev pub FaultyAmong : List (List ℕ) → LineFault → Type 0
FaultyAmong lines fault =
    ¬ (fault.kind ≡ kind.Memory) → (rest : List ℕ) → FaultAt (lines ++ rest ∷ []) fault

-- ---- one journal alone

-- the note is one that can be: its numbers, addresses and bytes are in their ranges
abbrev pub FitsLine : Option JournalLine → Type 0
FitsLine None = Unit {0}
FitsLine (Some (line.Event event)) = Unit {0}
FitsLine (Some (line.Note note)) = IsNote note

abbrev pub AllFit : List JournalLine → Type 0
AllFit [] = Unit {0}
AllFit (line ∷ told) = FitsLine (Some line) × AllFit told

-- a text with a fault is no journal, unless memory was refused
abbrev pub FaultHasNoJournal : Type 0
FaultHasNoJournal = (text : List ℕ) (fault : LineFault) (told : List JournalLine)
    → FirstFault text fault → IsJournal text told → AllFit told → fault.kind ≡ kind.Memory

-- ---- what is written

abbrev pub line_text : JournalLine → List ℕ
line_text (line.Event event) = event_line event
line_text (line.Note note) = note_line note

abbrev pub journal_text : List JournalLine → List ℕ
journal_text [] = []
journal_text (line ∷ told) = line_text line ++ journal_text told

-- an event that a line can write: its numbers are in their ranges, its name isn't empty and has
-- neither a blank nor LF, its bytes aren't empty, and the line isn't too long
pub record EventHasLine (event : Event) : Type 0 where
  pub writable : AllWritable (forms (verb_of event)) (fields event)
  pub within : length (event_text event) ≤ longest_line
  pub one_line : All (λ byte. is_lf byte ≡ false) (event_text event)

abbrev pub HasLine : JournalLine → Type 0
HasLine (line.Event event) = EventHasLine event
HasLine (line.Note note) = IsNote note

abbrev pub HaveLines : List JournalLine → Type 0
HaveLines [] = Unit {0}
HaveLines (line ∷ told) = HasLine line × HaveLines told

-- a journal that was written is the journal of its text
abbrev pub WrittenJournalIsRead : Type 0
WrittenJournalIsRead = (told : List JournalLine) → HaveLines told
    → IsJournal (journal_text told) told × AllFit told
