-- Laws of lines.
use Rattle.std.specs.Prelude.{◌≡◌, ℕ, ◌^◌, ◌<◌, ◌≤◌, false, List, [], ◌∷◌, length}
use Rattle.std.specs.List.{All}
use Rattle.px_bytes.specs.Address.{IsAddr}
use Rattle.journal_text.specs.Form.{Field, Numbered, Bytes, Named, From, At, Up, fields, verb_of}
use Rattle.journal_text.specs.Form.{forms}
use Rattle.journal_text.specs.Form.{Form, Number, Hex, Name, Ip, Member, Health}
use Rattle.journal_text.specs.Line.{SpellsEvent, IsSkipped, LineFails, event_text, is_blank}
use Rattle.journal_text.specs.Line.{longest_line}
use Rattle.core_events.specs.declared.event.Event.{Event}
use Rattle.journal_text.specs.declared.line_kind.LineKind.{LineKind}
use Rattle.journal_text.specs.declared.line_kind.LineKind.TheVariants.{Memory}

-- a line spells one event at most
abbrev pub OneEvent : Type 0
OneEvent = (line : List ℕ) (event other : Event) → SpellsEvent line event → SpellsEvent line other
    → event ≡ other

-- a line that has a fault spells no event
abbrev pub FaultSpellsNone : Type 0
FaultSpellsNone = (line : List ℕ) (kind : LineKind) → ¬ (kind ≡ Memory) → LineFails line kind
    → (event : Event) → ¬ SpellsEvent line event

-- a name isn't empty and has no blank; bytes aren't empty; numbers and addresses are in their
-- ranges, and a member's port isn't 0
abbrev pub IsWritable : Form → Field → Type 0
IsWritable (Number most) (Numbered n) = n ≤ most
IsWritable Hex (Bytes bytes) = (0 < length bytes) × All (λ byte. byte < 256) bytes
IsWritable Name (Named name) = (0 < length name) × All (λ byte. is_blank byte ≡ false) name
IsWritable Ip (From ip) = ip < 2 ^ 32
IsWritable Member (At addr) = IsAddr addr
IsWritable Health (Up up) = Unit {0}
IsWritable form field = ⊥

abbrev pub AllWritable : List Form → List Field → Type 0
AllWritable [] [] = Unit {0}
AllWritable (form ∷ forms) (field ∷ fields) = IsWritable form field × AllWritable forms fields
AllWritable forms fields = ⊥

-- an event is written as a line that spells it, and that isn't skipped
abbrev pub WrittenIsRead : Type 0
WrittenIsRead = (event : Event) → AllWritable (forms (verb_of event)) (fields event)
    → length (event_text event) ≤ longest_line
    → SpellsEvent (event_text event) event × (¬ IsSkipped (event_text event))
