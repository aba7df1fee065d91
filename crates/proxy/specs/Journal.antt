-- What a serve writes into its journal, read as a schedule.
use Rattle.std.specs.Prelude.{◌≡◌, ℕ, ◌≤◌, List, [], ◌∷◌, ◌++◌, length, Option, Some, None}
use Rattle.journal_text.specs.Form.{fields, forms, verb_of}
use Rattle.journal_text.specs.Laws.{AllWritable}
use Rattle.journal_text.specs.Line.{event_text, longest_line}
use Rattle.journal_text.specs.Notes.{note_lines}
use Rattle.core_events.specs.declared.event.Event.{Event}
use Rattle.record_model.specs.Setup.{init_notes}
use Rattle.run_config.specs.declared.config.Config.{Config}
use Rattle.serve_loop.specs.Walk.{Step, Own, Asked, text_in}
use Rattle.served_core.specs.Serves.{past_after}
use Rattle.proxy.specs.Lines.{IsLine, Reads, events_of}
use Rattle.proxy.specs.Replayed.{MeetsFault, ReplaysAll}

-- an event that a line can write: its numbers are in their ranges, its name isn't empty and has
-- neither a blank nor LF, its bytes aren't empty, and the line isn't too long
pub record HasLine (e : Event) : Type 0 where
  pub writable : AllWritable (forms (verb_of e)) (fields e)
  pub within : length (event_text e) ≤ longest_line
  pub is_line : IsLine (event_text e)

-- each event of these steps
abbrev pub HaveLines : List Step → Type 0
HaveLines [] = Unit {0}
HaveLines (Own g ∷ steps) = HasLine g.event × HaveLines steps
HaveLines (Asked call None ∷ steps) = HaveLines steps
HaveLines (Asked call (Some g) ∷ steps) = HasLine g.event × HaveLines steps

-- the journal of these steps, behind the notes of the start
abbrev pub journal_of : Config → List Step → List ℕ
journal_of C steps = note_lines (init_notes C) ++ text_in steps

-- it is a schedule of exactly the events of the steps
abbrev pub JournalIsRead : Type 0
JournalIsRead =
    (C : Config) (steps : List Step) → HaveLines steps
    → (number : ℕ) × Reads (journal_of C steps) number (events_of (past_after steps []))

-- a replay of it, by whatever configuration, meets no faulty line
abbrev pub JournalHasNoFault : Type 0
JournalHasNoFault =
    (C K : Config) (steps : List Step) → HaveLines steps → (old new : Option (List ℕ))
    → MeetsFault K (journal_of C steps) old new → ⊥

-- and where it comes to the end it had exactly these events
abbrev pub JournalReplays : Type 0
JournalReplays =
    (C K : Config) (steps : List Step) → HaveLines steps → (old new : Option (List ℕ))
    → (replay : ReplaysAll K (journal_of C steps) old new)
    → events_of replay.past ≡ events_of (past_after steps [])
