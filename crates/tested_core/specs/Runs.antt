-- A run on a core of a configuration.
use Rattle.std.specs.Prelude.{◌≡◌, List, [], ◌∷◌, ◌++◌, Option, Some, IfSome, flat_map, option_to_list}
use Rattle.core_events.specs.Kinds.{kind_of}
use Rattle.core_events.specs.declared.bad_event.BadEvent.{BadEvent}
use Rattle.core_events.specs.declared.event.Event.{Event}
use Rattle.core_events.specs.declared.note.Note.{Note}
use Rattle.proxy_core.specs.Face.{core_face}
use Rattle.proxy_core.specs.Headline.{OutputMatchesEvaluator}
use Rattle.proxy_core.specs.Refusal.{refused}
use Rattle.proxy_core.specs.Represents.{Represents}
use Rattle.proxy_core.specs.Scheduler.{State, no_connections}
use Rattle.proxy_core.specs.declared.core_state.Core.{Core}
use Rattle.record_model.specs.Past.{Past}
use Rattle.record_model.specs.Setup.{init_notes}
use Rattle.run_config.specs.declared.config.Config.{Config}
use Rattle.test_past.specs.declared.entry.RunEntry.{RunEntry}
use Rattle.test_past.specs.declared.entry.RunEntry.TheVariants.{Given}
use Rattle.test_past.specs.declared.verdict.RunEnd.{RunEnd}
use Rattle.test_past.specs.declared.verdict.RunEnd.TheVariants.{Refused}
use Rattle.test_plan.specs.declared.plan.TestMove.{TestMove}
use Rattle.test_run.specs.Moves.{RunEnds}
use Rattle.test_run.specs.Stand.{Stand, stand, start_known}
use Rattle.test_run.specs.Told.{told}
use Rattle.test_run.specs.declared.run.TestRun.{TestRun}
use Rattle.test_text.specs.declared.test_file.PlacedStep.{PlacedStep}
use Rattle.tested_core.specs.declared.runs.RunDone.{RunDone}

-- nothing happened to a core yet, but that these notes of its start were given
abbrev pub started : Core → List Note → Stand Core
started core notes = record { core = core; known = start_known; entries = flat_map told notes }

abbrev pub Followed : TestRun Core → List PlacedStep → List TestMove → RunDone → Type 0
Followed run steps moves done = RunEnds core_face steps moves done.end (stand run) (stand done.run)

-- ---- the events of a run

abbrev pub event_in : RunEntry → List Event
event_in (Given e) = e ∷ []
event_in other = []

abbrev pub events_in : List RunEntry → List Event
events_in entries = flat_map event_in entries

-- the events of a past, the first in front
abbrev pub events_of : Past → List Event
events_of [] = []
events_of (x ∷ past) = events_of past ++ x.event ∷ []

-- The core stands for a past of exactly the events that were given, in order, none of which was refused, and the promise
-- holds of it.
pub record IsPromised (C : Config) (s : Stand Core) : Type 0 where
  pub past : Past
  pub state : State
  pub represents : Represents C past state s.core
  pub events : events_in s.entries ≡ events_of past
  pub matches : OutputMatchesEvaluator C past state

-- the event is refused behind this past
abbrev pub IsRefused : Config → Past → State → Event → Type 0
IsRefused C past state e = (why : BadEvent) × (refused C past state (kind_of e) ≡ Some why)

-- The core stood for a past of the events that were given, but for the last, which it refuses, or of all, where the run
-- stopped at a deed that has no event; the promise holds of that past.
pub record IsPromisedBefore (C : Config) (s : Stand Core) : Type 0 where
  pub past : Past
  pub state : State
  pub core : Core
  pub represents : Represents C past state core
  pub last : Option Event
  pub events : events_in s.entries ≡ events_of past ++ option_to_list last
  pub refused : IfSome last (IsRefused C past state)
  pub matches : OutputMatchesEvaluator C past state

-- by how a run ended
abbrev pub PromisedAt : Config → RunEnd → Stand Core → Type 0
PromisedAt C (Refused step) s = IsPromisedBefore C s
PromisedAt C other s = IsPromised C s

-- The moves of a run were made on a core of this configuration that stood for no event, as far as they could be.
pub record Ran (C : Config) (steps : List PlacedStep) (moves : List TestMove) (done : RunDone) : Type 0 where
  pub start : Core
  pub stands : Represents C [] no_connections start
  pub follows : RunEnds core_face steps moves done.end (started start (init_notes C)) (stand done.run)
  pub promised : PromisedAt C done.end (stand done.run)
