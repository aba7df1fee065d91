-- The trace of a connection: what it does on its uncut streams and recorded answers, as the
-- unfolding of one function from where it stands to its next item (iRules reference: events run in
-- the order of the connection's phases, and all bodies of an event in the order of their priority).
use Rattle.std.specs.Prelude.{◌≡◌, ℕ, zero, suc, List, [], ◌∷◌, take, Bool, true, false}
use Rattle.std.specs.Prelude.{◌-◌, ◌||◌, not, Option, Some, None, option_map}
use Rattle.std.specs.Prelude.{if◌then◌else◌}
use Rattle.px_bytes.specs.declared.addr.Addr.{Addr}
use Rattle.px_bytes.specs.declared.addr.Side.{Side}
use Rattle.px_bytes.specs.declared.addr.Side.TheVariants.{Client, Server}
use Rattle.px_bytes.specs.declared.fault.Reply.{Reply}
use Rattle.px_bytes.specs.declared.fault.Reply.TheVariants as reply
use Rattle.tcl_vars.specs.Scopes.{no_scopes}
use Rattle.event_order.specs.declared.event.EventName.TheVariants.{ClientAccepted, ServerConnected}
use Rattle.event_order.specs.declared.event.EventName.TheVariants.{LbSelected, LbFailed}
use Rattle.core_events.specs.declared.note.CutReason.{CutReason}
use Rattle.core_events.specs.declared.note.CutReason.TheVariants.{ServerReset}
use Rattle.conn_trace.specs.Item.{ToServer, Closed, CutBy}
use Rattle.conn_trace.specs.Item.{Choice, Item}
use Rattle.conn_trace.specs.Item.{Resumed, Answered, Moved, Passed, Fired, Called}
use Rattle.conn_trace.specs.Item.{Connected}
use Rattle.conn_trace.specs.Gates.{Counts, no_bytes, TakenCounts, other, has_room, may_give}
use Rattle.conn_trace.specs.Gates.{sent_after}
use Rattle.irule_net.specs.Steps.{target_pool}
use Rattle.irule_net.specs.declared.state.Asks.{Asks}
use Rattle.irule_net.specs.declared.state.Asks.TheVariants.{NotAsked, Stated}
use Rattle.irule_net.specs.declared.state.Target.{Target}
use Rattle.irule_net.specs.declared.state.Target.TheVariants.{Default, PoolOf, MemberOf, NodeAt}
use Rattle.conn_trace.specs.Setup.{Setup}
use Rattle.conn_trace.specs.Host.{HostState, first_host, with_loose, with_selected}
use Rattle.conn_trace.specs.Selected.{any_member, only_member, select_call, addr_of}
use Rattle.conn_trace.specs.State.{Phase, InEvent, Choosing}
use Rattle.conn_trace.specs.State.{AtHead, Continuing, Gathering, AtReuse}
use Rattle.conn_trace.specs.State.{GivingUp, Retiring, Heading, Forwarding, Dropping, AtResponse}
use Rattle.http_heads.specs.Fronts.{head_part}
use Rattle.http_frames.specs.Parts.{part_of}
use Rattle.irule_http.specs.declared.state.Http.{Http}
use Rattle.conn_trace.specs.State.{Selecting, Connecting, Answering, Releasing, Relaying}
use Rattle.conn_trace.specs.State.{Collecting, Finishing, Draining, Stream, NoServer, Sought}
use Rattle.conn_trace.specs.State.{There, Absent, Up, link_of, Cut, Answers, TraceState}
use Rattle.conn_trace.specs.State.{Ready, Nothing, Passable, IsMet, WaitKind, ForBytes}
use Rattle.conn_trace.specs.State.{ForConnect, ForReply, ForRelay, ForReuse, ForCut}
use Rattle.conn_trace.specs.State.{Next, Does, Waits, Over, stream_of, read_side}
use Rattle.conn_trace.specs.State.{with_choices, with_replies, with_connects}
use Rattle.conn_trace.specs.Places.{place, at, closed, enter, data_event, finish}
use Rattle.conn_trace.specs.Messages.{answer_next, continuing_next, dropping_next, gathering_next}
use Rattle.conn_trace.specs.Messages.{giving_up_next, head_next, heading_next, retiring_next}
use Rattle.conn_trace.specs.Messages.{reuse_next, sending_next}
use Rattle.conn_trace.specs.Routing.{chosen}
use Rattle.conn_trace.specs.Bodies.{peer_of, bodies_next}
use Rattle.conn_trace.specs.Relay.{incoming, ready_of, RelayAct, BothDone, Passing, Firing}
use Rattle.conn_trace.specs.Relay.{Resting, relay_act, fired_host, behind_fires, collect_act}

-- no server is selected, or this one, of a pool or by itself
abbrev pub failed_next : Setup → TraceState → HostState → Next
failed_next g l h = Does Resumed (at (enter g LbFailed (link_of l.server) h) l)

abbrev pub chosen_next : Setup → TraceState → HostState → (pool : List ℕ) → Addr → Next
chosen_next g l h pool a =
    let chosen = with_selected (Some (record { pool = pool; addr = a })) h in
    Does Resumed (at (enter g LbSelected (link_of l.server) chosen) l)

-- it is asked which member of a pool is selected
abbrev pub asking_next :
    Setup → TraceState → HostState → (pool : List ℕ) → (wanted : List (List ℕ)) → Next
asking_next g l h pool wanted =
    let call = select_call g pool wanted in
    Does (Called call) (record l { phase = Selecting call; host = h })

-- where no rule chose, by the pool of the virtual server, if it has one
abbrev pub default_next : Setup → TraceState → HostState → (pool : List ℕ) → Next
default_next g l h [] = failed_next g l h
default_next g l h (b ∷ bs) = asking_next g l h (b ∷ bs) any_member

-- a server is selected by what the rules chose last
abbrev pub choosing_next : Setup → TraceState → HostState → Target → Next
choosing_next g l h Default = default_next g l h h.net.pool
choosing_next g l h (PoolOf pool) = asking_next g l h pool any_member
choosing_next g l h (MemberOf pool a) = asking_next g l h pool (only_member a)
choosing_next g l h (NodeAt a) = chosen_next g l h [] a

abbrev pub selected_next : Setup → TraceState → List Reply → Option Addr → Next
selected_next g l more None = failed_next g (with_replies more l) l.host
selected_next g l more (Some a) =
    let pool = target_pool l.host.net.pool l.host.net.target in
    chosen_next g (with_replies more l) l.host pool a

-- a reply that is no address, or a fault, selects nothing
abbrev pub selecting_next : Setup → List (List ℕ) → TraceState → List Reply → Next
selecting_next g call l [] = Waits (ForReply call)
selecting_next g call l (reply.Ok v ∷ more) = selected_next g l more (addr_of v)
selecting_next g call l (reply.Fault f ∷ more) = selected_next g l more None

-- the choice by which the server connection was made
abbrev pub served_by : Target → Http → Http
served_by target http = record http { serves = Some target }

abbrev pub serving : HostState → HostState
serving h = record h { http = option_map (served_by (chosen h)) h.http }

abbrev pub answering_next : Setup → TraceState → List (Option Stream) → Next
answering_next g l [] = Waits ForConnect
answering_next g l (Some s ∷ more) =
    let made = with_connects more (record l { server = There s }) in
    Does (Answered true) (at (enter g ServerConnected Up (serving l.host)) made)
answering_next g l (None ∷ more) =
    let refused = with_connects more (record l { server = NoServer }) in
    Does (Answered false) (at (enter g LbFailed Absent l.host) refused)

-- n bytes of a side are collected, and its event is entered
abbrev pub fired_next : Setup → TraceState → Side → ℕ → List Choice → Next
fired_next g l side n more =
    let held = fired_host side (take n (stream_of side l).unread) l.host in
    let entered = enter g (data_event side) (link_of l.server) held in
    Does (Fired side n) (at entered (with_choices more (read_side side n l)))

abbrev pub relay_next : Setup → TraceState → RelayAct → Next
relay_next g l BothDone = finish g Closed l
relay_next g l (Passing side n more) =
    let bytes = take n (stream_of side l).unread in
    Does (Passed side (peer_of l.sent.number (other side)) bytes)
    (record (with_choices more (read_side side n l)) { phase = Relaying })
relay_next g l (Firing side n more) = fired_next g l side n more
relay_next g l Resting =
    Waits (ForRelay (ready_of (incoming Client l)) (ready_of (incoming Server l)))

abbrev pub collect_next : Setup → TraceState → RelayAct → Next
collect_next g l BothDone = finish g Closed l
collect_next g l (Passing side n more) = Waits ForCut
collect_next g l (Firing side n more) = fired_next g l side n more
collect_next g l Resting = Waits (ForRelay (ready_of (incoming Client l)) Nothing)

-- with no collect in force only a cut goes on from here
abbrev pub collecting_next : Setup → TraceState → Asks → Next
collecting_next g l NotAsked = Waits ForCut
collecting_next g l (Stated n) =
    collect_next g l (collect_act n l.client.unread (behind_fires l.answers.choices))

-- the client's released bytes go to the server before any that it sends later
abbrev pub releasing_next : TraceState → Next
releasing_next l =
    Does (Moved Client 0 (ToServer l.sent.number) l.host.net.loose)
    (record l { phase = Relaying; host = with_loose [] l.host })

abbrev pub phase_next : Setup → Phase → TraceState → Next
phase_next g (InEvent e bodies) l = bodies_next g e bodies l
phase_next g AtHead l = head_next g l (head_part l.client.unread l.client.ended)
phase_next g Continuing l = continuing_next g l
phase_next g (Gathering side wanted s) l =
    gathering_next g l side wanted s
    (part_of s (stream_of side l).unread (stream_of side l).ended)
phase_next g AtReuse l = reuse_next g l l.answers.choices
phase_next g (GivingUp b) l = giving_up_next g l b
phase_next g (Retiring b) l = retiring_next l b
phase_next g (Heading side) l = heading_next g l side
phase_next g (Forwarding side s standing) l =
    sending_next g l side s standing
    (part_of s (stream_of side l).unread (stream_of side l).ended)
phase_next g (Dropping s) l = dropping_next g l s (part_of s l.client.unread l.client.ended)
phase_next g AtResponse l =
    answer_next g l (head_part (stream_of Server l).unread (stream_of Server l).ended)
phase_next g Choosing l = choosing_next g l (with_selected None l.host) l.host.net.target
phase_next g (Selecting call) l = selecting_next g call l l.answers.replies
phase_next g (Connecting a) l =
    Does (Connected a) (record l { phase = Answering a; server = Sought })
phase_next g (Answering a) l = answering_next g l l.answers.connects
phase_next g Releasing l = releasing_next l
phase_next g Relaying l =
    relay_next g l (relay_act (incoming Client l) (incoming Server l) l.answers.choices)
phase_next g Collecting l = collecting_next g l l.host.net.client.asks
phase_next g (Finishing r) l = finish g r l
phase_next g Draining l = Over

-- Whether a cut for this reason is taken: at a closed gate (None), or at a wait. With HTTP a
-- server's reset ends a wait for the server alone.
abbrev pub cut_takes : (http : Bool) → CutReason → Option WaitKind → Bool
cut_takes http reason (Some (ForReply call)) = false
cut_takes http reason (Some ForReuse) = false
cut_takes true ServerReset None = false
cut_takes true ServerReset (Some (ForBytes Client)) = false
cut_takes true ServerReset (Some ForConnect) = false
cut_takes true ServerReset (Some (ForRelay c s)) = false
cut_takes true ServerReset (Some ForCut) = false
cut_takes http reason place = true

abbrev pub uncut : TraceState → TraceState
uncut l = record l { answers = record l.answers { cut = None } }

-- a cut is taken where nothing else comes on its counts
abbrev pub cut_open : Setup → Cut → TraceState → Next → Next
cut_open g c l (Does i m) =
    if may_give i l.sent c.took || not (cut_takes g.http c.reason None) then Does i m
    else finish g (CutBy c.reason) (uncut l)
cut_open g c l (Waits k) =
    if cut_takes g.http c.reason (Some k) then finish g (CutBy c.reason) (uncut l) else Waits k
cut_open g c l Over = Over

-- and only where the connection hasn't finished
abbrev pub cut_next : Setup → Option Cut → TraceState → Next → Next
cut_next g None l o = o
cut_next g (Some c) l o = if l.finished then o else cut_open g c l o

-- what was sent is counted
abbrev pub counted : Counts → Next → Next
counted sent (Does i m) = Does i (record m { sent = sent_after i sent })
counted sent (Waits k) = Waits k
counted sent Over = Over

-- what comes next of a connection on this setup
unfoldable pub next_item : Setup → TraceState → Next
next_item g l = counted l.sent (cut_next g l.answers.cut l (phase_next g l.phase l))

-- from l these items come, one after another, and then it stands at l'
abbrev pub Unfolds : Setup → TraceState → List Item → TraceState → Type 0
Unfolds g l [] l' = l ≡ l'
Unfolds g l (i ∷ items) l' =
    (mid : TraceState) × (next_item g l ≡ Does i mid) × Unfolds g mid items l'

abbrev pub trace_from : ℕ → Setup → Next → List Item
trace_from zero g o = []
trace_from (suc n) g (Does i l) = i ∷ trace_from n g (next_item g l)
trace_from (suc n) g (Waits kind) = []
trace_from (suc n) g Over = []

-- the first n items of the trace from l
abbrev pub trace : ℕ → Setup → TraceState → List Item
trace n g l = trace_from n g (next_item g l)

abbrev pub behind_from : ℕ → Setup → TraceState → Next → TraceState
behind_from zero g l o = l
behind_from (suc n) g l (Does i m) = behind_from n g m (next_item g m)
behind_from (suc n) g l (Waits kind) = l
behind_from (suc n) g l Over = l

-- where it stands behind the first n items
abbrev pub behind : ℕ → Setup → TraceState → TraceState
behind n g l = behind_from n g l (next_item g l)

-- an accepted connection, on its client's stream and its recorded answers
abbrev pub start : Setup → Stream → Answers → TraceState
start g client answers = at (enter g ClientAccepted Absent (first_host g)) (record {
  phase = Draining;
  vars = no_scopes;
  host = first_host g;
  finished = false;
  client = client;
  server = NoServer;
  sent = no_bytes;
  answers = answers;
})

abbrev pub may_relay : Ready → Bool → Bool
may_relay Nothing room = false
may_relay Passable room = room
may_relay IsMet room = true

-- The waits at which a connection may rest, with nothing of it ready or queued: not at a call that
-- doesn't sleep, nor at a choice of the proxy's own, nor at a relay that has bytes and room for
-- them, or a collect that is met.
abbrev pub rests : (asleep : Bool) → WaitKind → Counts → TakenCounts → Bool
rests asleep (ForReply call) sent took = asleep
rests asleep ForReuse sent took = false
rests asleep (ForRelay c s) sent took =
    not (may_relay c (has_room sent took Server) || may_relay s (has_room sent took Client))
rests asleep other sent took = true

-- no item may be given: a gate is closed, it rests at a wait, or it is over
abbrev pub GivesNoMore : (asleep : Bool) → Counts → TakenCounts → Next → Type 0
GivesNoMore asleep sent took (Does i l) = may_give i sent took ≡ false
GivesNoMore asleep sent took (Waits kind) = rests asleep kind sent took ≡ true
GivesNoMore asleep sent took Over = Unit {0}
