-- What a loop knows of a core: the questions that it may ask, each with its answer, and that events
-- with their notes lead from one state to the next.
use Rattle.std.specs.Prelude.{ℕ, ◌≤◌, List, length, Bool, Option}
use Rattle.px_bytes.specs.declared.addr.Side.{Side}
use Rattle.px_bytes.specs.declared.addr.Side.TheVariants.{Client, Server}
use Rattle.px_bytes.specs.declared.addr.Addr.{Addr}
use Rattle.core_events.specs.declared.note.Note.{Note}
use Rattle.core_events.specs.declared.event.Event.{Event}
use Rattle.core_events.specs.declared.event.Event.TheVariants as event

pub record Face (S : Type 0) : Type 1 where
  -- what holds of it from its start on
  pub stands : S → Type 0
  -- an event with its notes leads from here to there
  pub moved : S → Event → List Note → S → Type 0
  -- the event isn't refused
  pub takes : S → Event → Type 0
  -- the number of the next connection, where one more may be accepted
  pub next : S → Option ℕ → Type 0
  -- how many connections are live
  pub live : S → ℕ → Type 0
  -- the name of the virtual server at a place
  pub name : S → ℕ → Option (List ℕ) → Type 0
  -- how many virtual servers listen, and where
  pub slots : S → ℕ → Type 0
  pub listens : S → ℕ → Option Addr → Type 0
  -- so many bytes of a side may come; none where it sends no more
  pub wants : S → ℕ → Side → ℕ → Type 0
  -- whether it waits for the answer to its connect
  pub connecting : S → ℕ → Bool → Type 0
  -- the bytes that are pending to a side
  pub queue : S → ℕ → Side → List ℕ → Type 0
  -- whether nothing is ready
  pub settled : S → Bool → Type 0
  -- the connection that is ready for the longest time
  pub ready : S → Option ℕ → Type 0
  pub moment : S → ℕ → Type 0
  -- until when nothing is due by time alone
  pub due : S → ℕ → Type 0

abbrev pub from_event : Side → ℕ → List ℕ → Event
from_event Client c bytes = event.FromClient c bytes
from_event Server c bytes = event.FromServer c bytes

abbrev pub end_event : Side → ℕ → Event
end_event Client c = event.ClientEnd c
end_event Server c = event.ServerEnd c

abbrev pub reset_event : Side → ℕ → Event
reset_event Client c = event.ClientReset c
reset_event Server c = event.ServerReset c

abbrev pub took_event : Side → ℕ → ℕ → Event
took_event Client c n = event.ClientTook c n
took_event Server c n = event.ServerTook c n

-- of that side so many bytes, an end and a reset may come
pub record MayCome (takes : Event → Type 0) (c : ℕ) (side : Side) (n : ℕ) : Type 0 where
  pub bytes : (b : List ℕ) → length b ≤ n → takes (from_event side c b)
  pub ended : takes (end_event side c)
  pub reset : takes (reset_event side c)

-- that side may take up to so many bytes, or reset
pub record MayTake (takes : Event → Type 0) (c : ℕ) (side : Side) (n : ℕ) : Type 0 where
  pub took : (k : ℕ) → k ≤ n → takes (took_event side c k)
  pub broken : takes (reset_event side c)

-- the answer to a connect may come
pub record MayAnswer (takes : Event → Type 0) (c : ℕ) : Type 0 where
  pub made : takes (event.Connected c)
  pub refused : takes (event.Refused c)
