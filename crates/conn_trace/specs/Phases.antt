-- The phases of a trace go in the order of `event_order`, and it finishes once.
use Rattle.std.specs.Prelude.{◌≡◌, ◌≤◌, ◌⊎◌, List, length, Bool, true, false, ◌||◌, is_some}
use Rattle.std.specs.Prelude.{Option, Some, None}
use Rattle.event_order.specs.Phase.{MayFollow}
use Rattle.event_order.specs.declared.phase.Phase.{Phase as Name}
use Rattle.event_order.specs.declared.phase.Phase.TheVariants as name
use Rattle.event_order.specs.declared.event.EventName.{EventName}
use Rattle.event_order.specs.declared.event.EventName.TheVariants.{ClientAccepted, ClientData}
use Rattle.event_order.specs.declared.event.EventName.TheVariants.{ClientClosed, ServerConnected}
use Rattle.event_order.specs.declared.event.EventName.TheVariants.{ServerData, ServerClosed}
use Rattle.event_order.specs.declared.event.EventName.TheVariants.{LbSelected, LbFailed}
use Rattle.event_order.specs.declared.event.EventName.TheVariants.{HttpRequest, HttpRequestData}
use Rattle.event_order.specs.declared.event.EventName.TheVariants.{HttpResponse, HttpResponseData}
use Rattle.px_bytes.specs.declared.addr.Side.{Side}
use Rattle.px_bytes.specs.declared.addr.Side.TheVariants.{Client, Server}
use Rattle.conn_trace.specs.Item.{Item, Reason, shown, reasons_in}
use Rattle.conn_trace.specs.Setup.{Setup}
use Rattle.conn_trace.specs.State.{Gated, Running, Failing, Phase, InEvent, AtHead, Continuing}
use Rattle.conn_trace.specs.State.{Gathering, AtReuse, GivingUp, Retiring, Heading, Forwarding}
use Rattle.conn_trace.specs.State.{Dropping, AtResponse, Behind, BeforeSelect, BehindMessage, Left}
use Rattle.conn_trace.specs.State.{Choosing, Selecting, Connecting, Answering, Releasing}
use Rattle.conn_trace.specs.State.{Relaying, Collecting, Finishing, Draining}
use Rattle.conn_trace.specs.State.{Stream, Answers, Link, Up, link_of, TraceState, Does}
use Rattle.conn_trace.specs.Places.{is_closing, is_up}
use Rattle.conn_trace.specs.Trace.{next_item, Unfolds, start}
use Rattle.conn_trace.specs.Further.{is_some_of}

abbrev pub data_name : Link → Name
data_name Up = name.Relay
data_name other = name.Collect

-- a server connection closes with the client's, or before another is chosen
abbrev pub left_phase : Behind → Name
left_phase BeforeSelect = name.Select
left_phase BehindMessage = name.Response

abbrev pub closed_phase : (finished : Bool) → Link → Name
closed_phase true link = name.Finish
closed_phase false (Left b) = left_phase b
closed_phase false link = name.Select

abbrev pub message_phase : Side → Name
message_phase Client = name.Passing
message_phase Server = name.Response

abbrev pub gather_phase : Side → Name
gather_phase Client = name.Gather
gather_phase Server = name.Response

-- the phase in which the bodies of an event run
abbrev pub event_phase : EventName → (finished : Bool) → Link → Name
event_phase ClientData finished link = data_name link
event_phase ServerData finished link = name.Relay
event_phase LbSelected finished link = name.Select
event_phase LbFailed finished link = name.Select
event_phase ServerConnected finished link = name.Connect
event_phase ServerClosed finished link = closed_phase finished link
event_phase ClientClosed finished link = name.Finish
event_phase HttpRequest finished link = name.Request
event_phase HttpRequestData finished link = name.Gather
event_phase HttpResponse finished link = name.Response
event_phase HttpResponseData finished link = name.Response
event_phase other finished link = name.Accepted

abbrev pub phase_name : Phase → (finished : Bool) → Link → Name
phase_name (InEvent e bodies) finished link = event_phase e finished link
phase_name AtHead finished link = name.Request
phase_name Continuing finished link = name.Request
phase_name (Gathering side wanted s) finished link = gather_phase side
phase_name AtReuse finished link = name.Reuse
phase_name (GivingUp b) finished link = left_phase b
phase_name (Retiring b) finished link = left_phase b
phase_name (Heading side) finished link = message_phase side
phase_name (Forwarding side s standing) finished link = message_phase side
phase_name (Dropping s) finished link = name.Answered
phase_name AtResponse finished link = name.Response
phase_name Choosing finished link = name.Select
phase_name (Selecting call) finished link = name.Select
phase_name (Connecting a) finished link = name.Connect
phase_name (Answering a) finished link = name.Connect
phase_name Releasing finished link = name.Relay
phase_name Relaying finished link = name.Relay
phase_name Collecting finished link = name.Collect
phase_name (Finishing r) finished link = name.Finish
phase_name Draining finished link = name.Drain

-- the phase of event_order in which a connection is
abbrev pub phase_of : TraceState → Name
phase_of l = phase_name l.phase l.finished (link_of l.server)

abbrev pub Follows : Name → Name → Type 0
Follows p q = (p ≡ q) ⊎ MayFollow p q

-- an item keeps the phase or leads to one that may follow; a Finish leads there, and perhaps on
abbrev pub LeadsBy : Option Reason → Name → Name → Type 0
LeadsBy None p q = Follows p q
LeadsBy (Some r) p q = Follows p name.Finish × Follows name.Finish q

abbrev pub Leads : Item → Name → Name → Type 0
Leads i p q = LeadsBy (shown i).reason p q

abbrev pub finishes : Item → Bool
finishes i = is_some (shown i).reason

-- the events of a server connection run where there is one
abbrev pub Fits : EventName → Link → Type 0
Fits ClientAccepted link = is_up link ≡ false
Fits LbSelected link = is_up link ≡ false
Fits LbFailed link = is_up link ≡ false
Fits ServerConnected link = is_up link ≡ true
Fits ServerData link = is_up link ≡ true
Fits HttpResponse link = is_up link ≡ true
Fits HttpResponseData link = is_up link ≡ true
Fits other link = Unit {0}

-- whether a connection has finished while the bodies of an event run
abbrev pub RunsIn : EventName → (finished : Bool) → Type 0
RunsIn ServerClosed finished = Unit {0}
RunsIn ClientClosed finished = finished ≡ true
RunsIn other finished = finished ≡ false

-- a server connection whose closing event runs before the connection has finished is being given up
abbrev pub is_leaving : Link → Bool
is_leaving (Left b) = true
is_leaving other = false

abbrev pub Leaves : EventName → (finished : Bool) → Link → Type 0
Leaves ServerClosed false link = is_leaving link ≡ true
Leaves e finished link = Unit {0}

-- whether there must be a server: for its own message there must
abbrev pub SideThere : Side → Link → Type 0
SideThere Client link = Unit {0}
SideThere Server link = is_up link ≡ true

-- what holds in each phase of whether it has finished and of the server
abbrev pub OrderlyIn : Phase → (finished : Bool) → Link → Type 0
OrderlyIn (InEvent e (Gated b bs)) finished link =
    (finished ≡ false) × (is_closing e ≡ false) × Fits e link
OrderlyIn (InEvent e (Running b bs n)) finished link =
    RunsIn e finished × (Fits e link × Leaves e finished link)
OrderlyIn (InEvent e (Failing kind line bs)) finished link =
    RunsIn e finished × (Fits e link × Leaves e finished link)
OrderlyIn Choosing finished link = (finished ≡ false) × (is_up link ≡ false)
OrderlyIn (Selecting call) finished link = (finished ≡ false) × (is_up link ≡ false)
OrderlyIn (Connecting a) finished link = (finished ≡ false) × (is_up link ≡ false)
OrderlyIn (Answering a) finished link = (finished ≡ false) × (is_up link ≡ false)
OrderlyIn Releasing finished link = (finished ≡ false) × (is_up link ≡ true)
OrderlyIn Relaying finished link = (finished ≡ false) × (is_up link ≡ true)
OrderlyIn Collecting finished link = (finished ≡ false) × (is_up link ≡ false)
OrderlyIn (Gathering side wanted s) finished link = (finished ≡ false) × SideThere side link
OrderlyIn AtReuse finished link = (finished ≡ false) × (is_up link ≡ true)
OrderlyIn (GivingUp b) finished link = (finished ≡ false) × (is_up link ≡ true)
OrderlyIn (Retiring b) finished link = (finished ≡ false) × (link ≡ Left b)
OrderlyIn (Heading side) finished link = (finished ≡ false) × (is_up link ≡ true)
OrderlyIn (Forwarding side s standing) finished link = (finished ≡ false) × (is_up link ≡ true)
OrderlyIn AtResponse finished link = (finished ≡ false) × (is_up link ≡ true)
OrderlyIn Draining finished link = finished ≡ true
OrderlyIn other finished link = finished ≡ false

abbrev pub Orderly : TraceState → Type 0
Orderly l = OrderlyIn l.phase l.finished (link_of l.server)

-- one item
pub record Steps (l : TraceState) (i : Item) (m : TraceState) : Type 0 where
  pub orderly : Orderly m
  pub phases : Leads i (phase_of l) (phase_of m)
  pub finished : m.finished ≡ (finishes i || l.finished)
  pub once : finishes i ≡ true → l.finished ≡ false

abbrev pub StartIsOrderly : Type 0
StartIsOrderly =
    (g : Setup) (client : Stream) (answers : Answers) → Orderly (start g client answers)

abbrev pub PhasesFollow : Type 0
PhasesFollow =
    (g : Setup) (l m : TraceState) (i : Item)
    → Orderly l → next_item g l ≡ Does i m → Steps l i m

-- no trace finishes twice, and it has finished where an item says so
pub record Finishes (m : TraceState) (items : List Item) : Type 0 where
  pub once : length (reasons_in items) ≤ 1
  pub finished : m.finished ≡ is_some_of (reasons_in items)
  pub orderly : Orderly m

abbrev pub FinishesOnce : Type 0
FinishesOnce =
    (g : Setup) (client : Stream) (answers : Answers) (m : TraceState) (items : List Item)
    → Unfolds g (start g client answers) items m → Finishes m items
