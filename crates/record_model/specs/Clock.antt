-- The time of one connection, a function of the past apart from what was heard of it: its trace
-- rests on no moment.
use Rattle.std.specs.Prelude.{◌≡◌, ℕ, ◌+◌, ◌-◌, ◌^◌, ◌≤◌, ◌<◌, min, List, [], ◌∷◌, ◌++◌}
use Rattle.std.specs.Prelude.{Bool, ◌&&◌, nat_eq, nat_le, nat_lt, if◌then◌else◌}
use Rattle.std.specs.Prelude.{Option, Some, None}
use Rattle.core_events.specs.declared.event_kind.EventKind.{EventKind}
use Rattle.core_events.specs.declared.event_kind.EventKind.TheVariants.{Accepts, Ticks, Runs}
use Rattle.core_events.specs.declared.note.Note.{Note}
use Rattle.core_events.specs.declared.note.Note.TheVariants as note
use Rattle.core_events.specs.Kinds.{kind_of}
use Rattle.conn_trace.specs.Item.{calls_in}
use Rattle.conn_trace.specs.Trace.{trace}
use Rattle.shared_store.specs.Calls.{sleeps_for}
use Rattle.record_model.specs.History.{Entry, called_in, entries_in}
use Rattle.record_model.specs.Past.{Happened, Past, heard, shared}
use Rattle.record_model.specs.Setup.{begins_at, setup_of}
use Rattle.run_config.specs.declared.config.Config.{Config}

-- the moment of the last Tick, 0 at the start; and until when its call sleeps or slept, where it has
-- one that wasn't answered yet and that did
pub record Clock : Type 0 where
  pub moment : ℕ
  pub sleeps : Option ℕ

abbrev pub first_clock : Clock
first_clock = record { moment = 0; sleeps = None }

-- an event sets the moment, and nothing sleeps of one that is accepted
abbrev pub event_clock : ℕ → EventKind → Clock → Clock
event_clock c (Accepts d vs from) k = if nat_eq d c then record k { sleeps = None } else k
event_clock c (Ticks moment) k = record k { moment = moment }
event_clock c other k = k

-- its call falls asleep, or is answered
abbrev pub note_clock : ℕ → Note → Clock → Clock
note_clock c (note.Sleep d until) k = if nat_eq d c then record k { sleeps = Some until } else k
note_clock c (note.History d moment call r) k =
    if nat_eq d c then record k { sleeps = None } else k
note_clock c other k = k

abbrev pub notes_clock : ℕ → List Note → Clock → Clock
notes_clock c [] k = k
notes_clock c (n ∷ notes) k = notes_clock c notes (note_clock c n k)

-- the event comes before its notes
abbrev pub clock_after : ℕ → EventKind → List Note → Clock → Clock
clock_after c v group k = notes_clock c group (event_clock c v k)

abbrev pub clock : ℕ → Past → Clock
clock c [] = first_clock
clock c (x ∷ past) = clock_after c (kind_of x.event) x.group (clock c past)

-- ---- calls that sleep

-- Moments have 64 bits. The greatest stands for all above too, and a call that sleeps until then
-- never wakes.
abbrev pub never : ℕ
never = 2 ^ 64 - 1

-- until when a call that is asked at a moment sleeps
abbrev pub wakes_at : (moment : ℕ) → List (List ℕ) → ℕ
wakes_at moment call = min (moment + sleeps_for call) never

-- whether one that sleeps until then wakes at a moment
abbrev pub is_due : (moment due : ℕ) → Bool
is_due moment due = nat_le due moment && nat_lt due never

-- a call of a connection is answered behind its time alone, and one that never slept where it
-- doesn't have to
abbrev pub HasSlept : List (List ℕ) → (sleeps : Option ℕ) → (moment : ℕ) → Type 0
HasSlept call None moment = sleeps_for call ≡ 0
HasSlept call (Some due) moment = due ≤ moment

abbrev pub AllSlept : Past → List Entry → Type 0
AllSlept past [] = Unit {0}
AllSlept past (e ∷ es) =
    HasSlept e.call (clock e.conn past).sleeps (shared past).moment × AllSlept past es

-- each entry of the history stands where its call has slept
abbrev pub EntriesAwake : Past → Type 0
EntriesAwake [] = Unit {0}
EntriesAwake (x ∷ past) = EntriesAwake past × AllSlept past (entries_in x.group)

-- A note that the call of a connection sleeps until then: it stands in the group of a Run, and is
-- the first of its call, which is the one that follows the connection's entries in its trace; it
-- sleeps for as long as it says, from the moment of the last Tick.
pub record IsSleep (C : Config) (past : Past) (x : Happened) (c until : ℕ) : Type 0 where
  pub runs : kind_of x.event ≡ Runs
  pub first : (clock c past).sleeps ≡ None
  pub call : List (List ℕ)
  pub items : ℕ
  pub follows :
      let h = heard c (x ∷ past) in
      calls_in (trace items (setup_of C h) (begins_at C h)) ≡ called_in h.notes ++ call ∷ []
  pub long : 0 < sleeps_for call
  pub until_is : until ≡ wakes_at (shared past).moment call

abbrev pub AreSleeps : Config → Past → Happened → List Note → Type 0
AreSleeps C past x [] = Unit {0}
AreSleeps C past x (note.Sleep c until ∷ notes) =
    IsSleep C past x c until × AreSleeps C past x notes
AreSleeps C past x (other ∷ notes) = AreSleeps C past x notes

-- all such notes of a past
abbrev pub SleepsTold : Config → Past → Type 0
SleepsTold C [] = Unit {0}
SleepsTold C (x ∷ past) = SleepsTold C past × AreSleeps C past x x.group
