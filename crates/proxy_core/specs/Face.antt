-- The face of the core: what a loop may ask of it, for every past that it stands for.
use Rattle.std.specs.Prelude.{◌≡◌, ◌≤◌, ◌-◌, ◌^◌, ℕ, length, min, None, refl}
use Rattle.core_events.specs.declared.event.Event.{Event}
use Rattle.core_events.specs.declared.event.Event.TheVariants as event
use Rattle.core_events.specs.Face.{Face}
use Rattle.core_events.specs.Kinds.{kind_of}
use Rattle.proxy_core.specs.Asked.{live_of, next_of, settled_of}
use Rattle.proxy_core.specs.Changes.{Changes}
use Rattle.record_model.specs.Past.{Happened, Past, shared}
use Rattle.proxy_core.specs.Questions.{next_number, name_at, listen_at, due_at}
use Rattle.proxy_core.specs.Questions.{may_come, to_write, is_waiting}
use Rattle.proxy_core.specs.Refusal.{refused}
use Rattle.proxy_core.specs.Represents.{Represents}
use Rattle.proxy_core.specs.Scheduler.{State}
use Rattle.proxy_core.specs.Steps.{KeepsStanding}
use Rattle.run_config.specs.declared.config.Config.{Config}
use Rattle.proxy_core.specs.declared.core_state.Core.{Core}

-- it stands for a past
pub record Stands (core : Core) : Type 0 where
  pub config : Config
  pub past : Past
  pub state : State
  pub represents : Represents config past state core

-- whatever it stands for
abbrev pub Always : Core → (Config → Past → State → Type 0) → Type 0
Always core P = (C : Config) (past : Past) (s : State) → Represents C past s core → P C past s

-- An event with its notes: whatever it stood for before, it stands for then, with the event's effect
-- on its fields, and it counted 2,000 steps at most.
pub record Moved (old new : Core) (x : Happened) : Type 0 where
  pub keeps : KeepsStanding old new x
  pub steps : ℕ
  pub bounded : steps ≤ 2000
  pub changes : Changes old new x.event x.group steps

-- the event isn't refused, whatever it stands for
abbrev pub TakesEvent : Core → Event → Type 0
TakesEvent core e = Always core (λ C past s. refused C past s (kind_of e) ≡ None)

-- a Run and a Turn never are
pub always_taken : (core : Core) → Stands core → TakesEvent core event.Run × TakesEvent core event.Turn
always_taken core stands = (λ C past s r. refl, λ C past s r. refl)

abbrev pub core_face : Face Core
core_face = record {
  stands = Stands;
  moved = λ old e group new. Moved old new (record { event = e; group = group });
  takes = TakesEvent;
  next = λ s o. Always s (λ C past st. o ≡ next_number C past);
  live = λ s n. Always s (λ C past st. n ≡ live_of past);
  name = λ s slot o. Always s (λ C past st. o ≡ name_at C slot);
  slots = λ s n. Always s (λ C past st. n ≡ min (length C.virtuals) (2 ^ 32 - 1));
  listens = λ s slot o. Always s (λ C past st. o ≡ listen_at C slot);
  wants = λ s c side n. Always s (λ C past st. n ≡ may_come C past st c side);
  connecting = λ s c b. Always s (λ C past st. b ≡ is_waiting past c);
  queue = λ s c side bytes. Always s (λ C past st. bytes ≡ to_write past st c side);
  settled = λ s b. Always s (λ C past st. b ≡ settled_of st);
  ready = λ s o. Always s (λ C past st. o ≡ next_of st);
  moment = λ s n. Always s (λ C past st. n ≡ (shared past).moment);
  due = λ s n. Always s (λ C past st. n ≡ due_at C past st);
}
