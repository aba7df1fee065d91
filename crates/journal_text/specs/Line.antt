-- A line of a schedule: skipped, an event, or what is wrong with it.
use Rattle.std.specs.Prelude.{◌≡◌, ◌⊎◌, ℕ, ◌<◌, ◌≤◌, Bool, true, false, ◌||◌, ◌==◌, List, [], ◌∷◌}
use Rattle.std.specs.Prelude.{◌++◌, length}
use Rattle.std.specs.Prelude.{map}
use Rattle.std.specs.List.{list_all, slice_split}
use Rattle.journal_text.specs.Verb.{verb_text}
use Rattle.journal_text.specs.Form.{forms, verb_of, fields, field_text}
use Rattle.journal_text.specs.Reading.{ReadAs, Fails}
use Rattle.journal_text.specs.declared.verb.EventVerb.{EventVerb}
use Rattle.core_events.specs.declared.event.Event.{Event}
use Rattle.journal_text.specs.declared.line_kind.LineKind.{LineKind}
use Rattle.journal_text.specs.declared.line_kind.LineKind.TheVariants.{LongLine, NoNewline}
use Rattle.journal_text.specs.declared.line_kind.LineKind.TheVariants.{NotEvent, NotNote}
use Rattle.journal_text.specs.declared.line_kind.LineKind.TheVariants.{BadNumber, BadHex, Memory}

-- it is empty, or begins with `#` or `>`
abbrev pub IsSkipped : List ℕ → Type 0
IsSkipped [] = Unit {0}
IsSkipped (first ∷ rest) = (first ≡ 35) ⊎ (first ≡ 62)

-- a space or a tab
abbrev pub is_blank : ℕ → Bool
is_blank byte = byte == 32 || byte == 9

-- what stands before, between and behind the blanks
abbrev pub words_of : List ℕ → List (List ℕ)
words_of line = slice_split is_blank line

-- the most bytes of a line that isn't skipped, its LF not counted
abbrev pub longest_line : ℕ
longest_line = 135000

abbrev pub is_word : List ℕ → Bool
is_word [] = false
is_word (first ∷ rest) = true

-- no two blanks stand side by side, and none at an end
abbrev pub NoneEmpty : List (List ℕ) → Type 0
NoneEmpty words = list_all is_word words ≡ true

-- the words are those of the event
pub record WordsSpell (words : List (List ℕ)) (event : Event) : Type 0 where
  pub none_empty : NoneEmpty words
  pub rest : List (List ℕ)
  pub words_are : words ≡ verb_text (verb_of event) ∷ rest
  pub read : ReadAs (forms (verb_of event)) rest (fields event)

-- the words have the first word of some event, and fail behind it
pub record FailsBehind (words : List (List ℕ)) (kind : LineKind) : Type 0 where
  pub none_empty : NoneEmpty words
  pub verb : EventVerb
  pub rest : List (List ℕ)
  pub words_are : words ≡ verb_text verb ∷ rest
  pub fails : Fails (forms verb) rest kind

-- the words are those of no event
abbrev pub NoEvent : List (List ℕ) → Type 0
NoEvent words = NoneEmpty words → (verb : EventVerb) (rest : List (List ℕ))
    → words ≡ verb_text verb ∷ rest → Fails (forms verb) rest NotEvent

-- what is wrong with the words of a line
abbrev pub WordsFail : List (List ℕ) → LineKind → Type 0
WordsFail words NotEvent = NoEvent words
WordsFail words BadNumber = FailsBehind words BadNumber
WordsFail words BadHex = FailsBehind words BadHex
WordsFail words Memory = Unit {0}
WordsFail words LongLine = ⊥
WordsFail words NoNewline = ⊥
WordsFail words NotNote = ⊥

-- what is wrong with a line that isn't skipped
abbrev pub LineFails : List ℕ → LineKind → Type 0
LineFails line LongLine = longest_line < length line
LineFails line Memory = Unit {0}
LineFails line kind = (length line ≤ longest_line) × WordsFail (words_of line) kind

-- a line that isn't skipped spells the event
pub record SpellsEvent (line : List ℕ) (event : Event) : Type 0 where
  pub within : length line ≤ longest_line
  pub spelled : WordsSpell (words_of line) event

-- words behind a text, each behind a blank
abbrev pub spaced : List ℕ → List (List ℕ) → List ℕ
spaced text [] = text
spaced text (word ∷ words) = spaced (text ++ 32 ∷ word) words

-- how an event is written, without its LF
abbrev pub event_text : Event → List ℕ
event_text event = spaced (verb_text (verb_of event)) (map field_text (fields event))

abbrev pub event_line : Event → List ℕ
event_line event = event_text event ++ 10 ∷ []
