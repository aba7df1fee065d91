-- One event changes what may be asked of one connection alone.
use Rattle.std.specs.Prelude.{◌≡◌, ℕ, List, [], ◌∷◌, false, nat_eq}
use Rattle.px_bytes.specs.declared.addr.Side.{Side}
use Rattle.core_events.specs.declared.event_kind.EventKind.{EventKind}
use Rattle.core_events.specs.declared.event_kind.EventKind.TheVariants.{Accepts, Comes, Turns, Runs}
use Rattle.proxy_core.specs.Asked.{edges_of, wants_of, pending_of, queue_of}
use Rattle.proxy_core.specs.Calls.{asker}
use Rattle.proxy_core.specs.Moves.{Moves}
use Rattle.core_events.specs.Kinds.{kind_of}
use Rattle.record_model.specs.Past.{Happened, Past}
use Rattle.proxy_core.specs.Scheduler.{State}
use Rattle.run_config.specs.declared.config.Config.{Config}

abbrev pub front : List ℕ → ℕ
front [] = 0
front (c ∷ rest) = c

-- the connection that an event is about: a Run's is the front of the ring, a Turn's that whose call
-- waits for the longest time; none has number 0
abbrev pub about : EventKind → State → ℕ
about (Accepts c vs from) s = c
about (Comes c input) s = c
about Turns s = asker s.queue
about Runs s = front s.ring
about other s = 0

-- nothing else is told of connection q
pub record StaysAsItWas (C : Config) (past : Past) (s : State) (x : Happened) (next : State)
    (q : ℕ) : Type 0 where
  pub edges : edges_of (x ∷ past) q ≡ edges_of past q
  pub wants : (side : Side) → wants_of C (x ∷ past) next q side ≡ wants_of C past s q side
  pub pending : (side : Side) → pending_of (x ∷ past) next q side ≡ pending_of past s q side
  pub queue : (side : Side) → queue_of (x ∷ past) next q side ≡ queue_of past s q side

abbrev pub OnlyItsOwnChanges : Type 0
OnlyItsOwnChanges =
    (C : Config) (past : Past) (s : State) (x : Happened) (next : State) → Moves C past x s next
    → (q : ℕ) → nat_eq (about (kind_of x.event) s) q ≡ false → StaysAsItWas C past s x next q
