-- What a connection may be sent, and what it owes, by where its trace stands.
use Rattle.std.specs.Prelude.{◌≡◌, ℕ, ◌-◌, List, [], ◌∷◌, length, min, Bool, true, false, ◌&&◌, not}
use Rattle.std.specs.Prelude.{Option, Some, None, option_map, is_none, nat_eq, unwrap_or}
use Rattle.std.specs.Prelude.{if◌then◌else◌}
use Rattle.px_bytes.specs.declared.addr.Side.{Side}
use Rattle.px_bytes.specs.declared.addr.Side.TheVariants.{Client, Server}
use Rattle.event_order.specs.declared.event.EventName.TheVariants.{ClientAccepted, ClientData}
use Rattle.event_order.specs.declared.event.EventName.TheVariants.{ServerConnected, ServerData}
use Rattle.conn_trace.specs.Gates.{Counts, TakenCounts, other, taken_of, to_take}
use Rattle.irule_net.specs.State.{collected}
use Rattle.irule_net.specs.declared.state.Asks.{Asks}
use Rattle.irule_net.specs.declared.state.Asks.TheVariants.{NotAsked, Stated}
use Rattle.conn_trace.specs.State.{Phase, InEvent, Relaying, Stream, ServerSide, NoServer}
use Rattle.conn_trace.specs.State.{Sought, There, Leaving, Retired, TraceState, stream_of, link_of}
use Rattle.conn_trace.specs.State.{Link, Up}
use Rattle.conn_trace.specs.Further.{Further, longer_stream, longer, coming_from}

-- the last connection that was made and wasn't taken yet
abbrev pub last_made : List (Option Stream) → Option Stream
last_made [] = None
last_made (None ∷ more) = last_made more
last_made (Some s ∷ more) = Some (unwrap_or (last_made more) s)

abbrev pub own_stream : ServerSide → Option Stream
own_stream NoServer = None
own_stream Sought = None
own_stream (There s) = Some s
own_stream (Leaving b s) = Some s
own_stream (Retired s) = Some s

abbrev pub first_some : Option Stream → Option Stream → Option Stream
first_some None later = later
first_some (Some s) later = Some s

-- where bytes that come from a side are put, if there is such a place
abbrev pub arriving : Side → TraceState → Option Stream
arriving Client l = Some l.client
arriving Server l = first_some (last_made l.answers.connects) (own_stream l.server)

abbrev pub unread_at : Option Stream → List ℕ
unread_at None = []
unread_at (Some s) = s.unread

-- the bodies of an event of this side run
abbrev pub in_event_of : Side → Phase → Bool
in_event_of Client (InEvent ClientAccepted bodies) = true
in_event_of Client (InEvent ClientData bodies) = true
in_event_of Server (InEvent ServerConnected bodies) = true
in_event_of Server (InEvent ServerData bodies) = true
in_event_of side other = false

abbrev pub held_under : Asks → ℕ → ℕ
held_under NotAsked unread = 0
held_under (Stated n) unread = min n unread

-- unread bytes that count as held by a collect in force
abbrev pub counted_held : Side → TraceState → ℕ
counted_held side l =
    if in_event_of side l.phase then 0
    else held_under (collected side l.host.net).asks (length (unread_at (arriving side l)))

-- the most bytes that may lie unread of a side
abbrev pub unread_limit : ℕ
unread_limit = 65536

-- how many more bytes of a side may come
abbrev pub wanted : Side → TraceState → ℕ
wanted side l =
    if l.finished then unread_limit
    else unread_limit - (length (unread_at (arriving side l)) - counted_held side l)

abbrev pub is_empty : List ℕ → Bool
is_empty [] = true
is_empty (b ∷ bs) = false

-- bytes are passed on both ways
abbrev pub relays_at : Phase → Link → Bool
relays_at Relaying Up = true
relays_at (InEvent ClientData bodies) Up = true
relays_at (InEvent ServerData bodies) Up = true
relays_at phase link = false

abbrev pub is_reset : Counts → TakenCounts → Side → Bool
is_reset sent took Client = is_none took.client
is_reset sent took Server = is_none (taken_of took.servers sent.number)

-- nothing more comes of this stream, on a connection that relays
abbrev pub is_spent : Stream → TraceState → Side → Bool
is_spent s l side =
    (s.ended && is_empty s.unread)
    && (is_empty (collected (other side) l.host.net).held && is_empty l.host.net.loose)

abbrev pub took_all : TraceState → TakenCounts → Side → Bool
took_all l took side = nat_eq (to_take l.sent took side) 0 && not (is_reset l.sent took side)

abbrev pub due_by : Link → Stream → TraceState → TakenCounts → Side → Bool
due_by link s l took side =
    (relays_at l.phase link && not l.finished) && (is_spent s l side && took_all l took side)

-- nothing more comes for this side, and it took all that was sent to it
abbrev pub half_close_due : TraceState → TakenCounts → Side → Bool
half_close_due l took side =
    due_by (link_of l.server) (stream_of (other side) l) l took side

-- what is owed stays owed, whatever comes
abbrev pub HalfCloseStays : Type 0
HalfCloseStays =
    (l : TraceState) (f : Further) (took : TakenCounts) (side : Side)
    → half_close_due l took side ≡ true → half_close_due (longer f l) took side ≡ true

-- bytes that come lengthen the stream where they arrive, and nothing else
abbrev pub ComesWhereItArrives : Type 0
ComesWhereItArrives =
    (l : TraceState) (f : Further) (side : Side) → f.connects ≡ []
    → arriving side (longer f l)
    ≡ option_map (longer_stream (coming_from side f)) (arriving side l)
