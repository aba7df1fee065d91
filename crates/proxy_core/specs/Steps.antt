-- What one event does to a core, for all that it may stand for.
use Rattle.std.specs.Prelude.{◌≡◌, ◌≤◌, ℕ, List, length, ◌∷◌, ◌++◌, Some}
use Rattle.core_events.specs.declared.note.Note.{Note}
use Rattle.proxy_core.specs.Changes.{Changes}
use Rattle.proxy_core.specs.Moves.{Moves}
use Rattle.core_events.specs.Kinds.{kind_of}
use Rattle.record_model.specs.Past.{Happened, Past}
use Rattle.proxy_core.specs.Represents.{Represents}
use Rattle.proxy_core.specs.Refusal.{refused}
use Rattle.proxy_core.specs.Scheduler.{State}
use Rattle.run_config.specs.declared.config.Config.{Config}
use Rattle.proxy_core.specs.declared.core_state.Core.{Core}
use Rattle.core_events.specs.declared.event.Event.{Event}
use Rattle.core_events.specs.declared.bad_event.BadEvent.{BadEvent}

-- the event with its notes moved the scheduler on, and the core stands for the longer past
pub record StandsAfter (C : Config) (past : Past) (s : State) (x : Happened)
    (new : Core) : Type 0 where
  pub next : State
  pub moves : Moves C past x s next
  pub represents : Represents C (x ∷ past) next new

-- Whatever the core stood for, it stands for the past with this event and its notes.
abbrev pub KeepsStanding : Core → Core → Happened → Type 0
KeepsStanding old new x =
    (C : Config) (past : Past) (s : State) → Represents C past s old → StandsAfter C past s x new

-- an event that was accepted: its notes, what it changed by how many steps, and what the core
-- stands for
pub record Steps (old new : Core) (event : Event) (before after : List Note) (steps : ℕ)
    : Type 0 where
  pub group : List Note
  pub notes : after ≡ before ++ group
  pub few : length group ≤ 68
  pub changes : Changes old new event group steps
  pub stands : KeepsStanding old new (record { event = event; group = group })

-- Whatever the core stands for, this is the reason for which its scheduler refuses the event.
abbrev pub IsRefused : Core → Event → BadEvent → Type 0
IsRefused core event why =
    (C : Config) (past : Past) (s : State) → Represents C past s core
    → refused C past s (kind_of event) ≡ Some why
