-- All that happened so far, as one list of events with their groups of notes, the newest first, and
-- what it tells of one connection and of all.
use Rattle.std.specs.Prelude.{ℕ, List, [], ◌∷◌, ◌++◌, if◌then◌else◌}
use Rattle.core_events.specs.declared.note.Note.{Note}
use Rattle.core_events.specs.declared.event_kind.EventKind.{EventKind}
use Rattle.core_events.specs.declared.event_kind.EventKind.TheVariants.{Accepts, Ticks}
use Rattle.core_events.specs.Kinds.{kind_of}
use Rattle.conn_trace.specs.Heard.{Heard, hears, nothing_heard}
use Rattle.conn_trace.specs.Tellings.{tells, conn_of}
use Rattle.core_events.specs.declared.event.Event.{Event}
use Rattle.index_lists.specs.Ring.{without}

-- an event that was accepted, with the notes that came of it
pub record Happened : Type 0 where
  pub event : Event
  pub group : List Note

abbrev pub Past : Type 0
Past = List Happened

-- what was heard of a connection
abbrev pub heard : ℕ → Past → Heard
heard c [] = nothing_heard
heard c (x ∷ past) = hears c (heard c past) (kind_of x.event) x.group

-- the connections of which notes say that they are over
abbrev pub ended_in : List Note → List ℕ
ended_in [] = []
ended_in (n ∷ group) = if (tells n).ends then conn_of n ∷ ended_in group else ended_in group

abbrev pub without_all : List ℕ → List ℕ → List ℕ
without_all [] live = live
without_all (c ∷ ended) live = without_all ended (without c live)

abbrev pub with_accepted : EventKind → List ℕ → List ℕ
with_accepted (Accepts c vs from) live = live ++ c ∷ []
with_accepted other live = live

abbrev pub last_after : EventKind → ℕ → ℕ
last_after (Accepts c vs from) last = c
last_after other last = last

abbrev pub moment_after : EventKind → ℕ → ℕ
moment_after (Ticks moment) now = moment
moment_after other now = now

-- what all connections share: the greatest number that was accepted; the moment of the last Tick, 0
-- at the start; and the numbers of the live ones, which were accepted and not ended, in this order
pub record Shared : Type 0 where
  pub last : ℕ
  pub moment : ℕ
  pub live : List ℕ

abbrev pub shared_after : EventKind → List Note → Shared → Shared
shared_after v group a = record {
  last = last_after v a.last;
  moment = moment_after v a.moment;
  live = without_all (ended_in group) (with_accepted v a.live);
}

abbrev pub shared : Past → Shared
shared [] = record { last = 0; moment = 0; live = [] }
shared (x ∷ past) = shared_after (kind_of x.event) x.group (shared past)
