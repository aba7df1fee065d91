-- Where the open call of a connection stands in time, by the state and the clock of the connection.
use Rattle.std.specs.Prelude.{◌≡◌, ℕ, List, [], ◌∷◌, false, Option, Some, None}
use Rattle.record_model.specs.Clock.{Clock, HasSlept, clock, is_due}
use Rattle.record_model.specs.Past.{Past, heard}
use Rattle.proxy_core.specs.Calls.{calls_of}
use Rattle.proxy_core.specs.Scheduler.{State}
use Rattle.proxy_core.specs.declared.call.Asleep.{Asleep}

-- By its calls in the queue and the one that sleeps: none has slept; or it waits in the queue, having
-- slept as long as it was to; or it sleeps, as was noted, and isn't due.
abbrev pub StandsInTime : (queued : List (List (List ℕ))) → Option Asleep → Clock → Type 0
StandsInTime [] None k = k.sleeps ≡ None
StandsInTime (call ∷ []) None k = HasSlept call k.sleeps k.moment
StandsInTime [] (Some a) k = (k.sleeps ≡ Some a.due) × (is_due k.moment a.due ≡ false)
StandsInTime queued asleep k = ⊥

-- of each connection that found memory
abbrev pub AllInTime : Past → State → Type 0
AllInTime past s =
    (c : ℕ) → (heard c past).failed ≡ false
    → StandsInTime (calls_of c s.queue) (s.asleep c) (clock c past)
