-- Where a connection goes when an event is entered and when its bodies have ended: the phase and
-- the host's state, from the host's state and whether there is a server. Nothing here reads a
-- stream.
use Rattle.std.specs.Prelude.{List, [], ◌∷◌, Bool, true, false, Option, Some, None}
use Rattle.std.specs.Prelude.{◌||◌, option_map, if◌then◌else◌}
use Rattle.px_bytes.specs.declared.addr.Side.{Side}
use Rattle.px_bytes.specs.declared.addr.Side.TheVariants.{Client, Server}
use Rattle.px_bytes.specs.declared.fault.FaultKind.{FaultKind}
use Rattle.px_bytes.specs.declared.fault.TclFault.{TclFault}
use Rattle.event_order.specs.declared.event.EventName.{EventName}
use Rattle.event_order.specs.declared.event.EventName.TheVariants.{ClientAccepted, ClientData}
use Rattle.event_order.specs.declared.event.EventName.TheVariants.{ClientClosed, ServerConnected}
use Rattle.event_order.specs.declared.event.EventName.TheVariants.{ServerData, ServerClosed}
use Rattle.event_order.specs.declared.event.EventName.TheVariants.{LbSelected, LbFailed}
use Rattle.event_order.specs.declared.event.EventName.TheVariants.{HttpRequest, HttpRequestData}
use Rattle.event_order.specs.declared.event.EventName.TheVariants.{HttpResponse, HttpResponseData}
use Rattle.irule_http.specs.declared.state.Http.{Http}
use Rattle.irule_net.specs.declared.state.NetState.{NetState}
use Rattle.conn_trace.specs.Item.{Reason, Finished, Closed, Tcl, Unselected, Rejected}
use Rattle.conn_trace.specs.Setup.{Handler, Setup, uncaught_line}
use Rattle.irule_net.specs.State as network
use Rattle.irule_http.specs.State as messages
use Rattle.irule_net.specs.declared.state.Ending.{Ending}
use Rattle.irule_net.specs.declared.state.Ending.TheVariants.{Rejects, Closes}
use Rattle.irule_net.specs.declared.state.Selected.{Selected}
use Rattle.conn_trace.specs.Host.{HostState, http_of, speaks_http}
use Rattle.conn_trace.specs.State.{Gated, Running, Failing, Link, Absent, Asked, Up, Left, GivenUp}
use Rattle.conn_trace.specs.Routing.{behind_accept, behind_connect, behind_failed}
use Rattle.conn_trace.specs.Routing.{behind_request, behind_request_data, behind_response}
use Rattle.conn_trace.specs.State.{Behind, Retiring, Next, Does, link_of}
use Rattle.conn_trace.specs.State.{TraceState, Phase, InEvent, Choosing, Connecting}
use Rattle.conn_trace.specs.State.{Relaying, Collecting, Finishing, Draining}

pub record Place : Type 0 where
  pub phase : Phase
  pub host : HostState

abbrev pub place : Phase → HostState → Place
place phase host = record { phase = phase; host = host }

-- it stands there
abbrev pub at : Place → TraceState → TraceState
at p l = record l { phase = p.phase; host = p.host }

-- an event that runs once a side is closed
abbrev pub is_closing : EventName → Bool
is_closing ServerClosed = true
is_closing ClientClosed = true
is_closing other = false

abbrev pub is_up : Link → Bool
is_up Up = true
is_up other = false

-- that an event before gave the server connection up isn't forgotten
abbrev pub http_begun : NetState → Http → Http
http_begun net h = record (messages.begun h) { detaches = h.detaches || net.wishes.detaches }

-- an event begins: its bodies have done nothing yet
abbrev pub begun : EventName → Link → HostState → HostState
begun e link h =
    record {
      event = e;
      net = record (network.begun h.net) { relays = is_up link };
      http = option_map (http_begun h.net) h.http;
    }

-- the bodies of an event one after another, and then this
abbrev pub bodies_left : EventName → List Handler → HostState → Place → Place
bodies_left e [] h after = after
bodies_left e (b ∷ bs) h after = place (InEvent e (Running b bs 0)) h

-- The closing events' bodies have no gate. CLIENT_CLOSED:
abbrev pub closed_client : Setup → Link → HostState → Place
closed_client g link h =
    let h' = begun ClientClosed link h in
    bodies_left ClientClosed (g.handlers ClientClosed) h' (place Draining h')

-- SERVER_CLOSED, where a server was asked for or is there, and then CLIENT_CLOSED
abbrev pub closed_server : Setup → Link → HostState → Place
closed_server g link h =
    bodies_left ServerClosed (g.handlers ServerClosed) (begun ServerClosed link h)
    (closed_client g link h)

abbrev pub closed : Setup → Link → HostState → Place
closed g Absent h = closed_client g Absent h
closed g Asked h = closed_server g Asked h
closed g Up h = closed_server g Up h
closed g (Left b) h = closed_client g (Left b) h
closed g GivenUp h = closed_client g GivenUp h

abbrev pub connecting : Option Selected → Phase
connecting None = Finishing Unselected
connecting (Some s) = Connecting s.addr

abbrev pub behind_data : Link → Bool → Phase
behind_data Up released = Relaying
behind_data other released = if released then Choosing else Collecting

-- the closing event of a server connection that is given up, and then this
abbrev pub giving_up : Setup → Behind → HostState → Place
giving_up g b h =
    bodies_left ServerClosed (g.handlers ServerClosed) (begun ServerClosed (Left b) h)
    (place (Retiring b) (begun ServerClosed (Left b) h))

-- the phase after an event that nothing ended
abbrev pub goes_on : EventName → Link → HostState → Phase
goes_on ClientAccepted link h = behind_accept (speaks_http h) h
goes_on ClientData link h = behind_data link h.net.wishes.released
goes_on LbSelected link h = connecting h.net.selected
goes_on LbFailed link h = behind_failed (http_of h).answer h
goes_on ServerConnected link h = behind_connect (speaks_http h) h
goes_on HttpRequest link h = behind_request (http_of h).answer link h
goes_on HttpRequestData link h = behind_request_data (http_of h).answer link h
goes_on HttpResponse link h = behind_response (http_of h).answer h
goes_on HttpResponseData link h = behind_response (http_of h).answer h
goes_on ServerData link h = Relaying
goes_on other link h = Finishing Closed

abbrev pub unless_ended : Option Ending → Phase → Phase
unless_ended None phase = phase
unless_ended (Some Rejects) phase = Finishing Rejected
unless_ended (Some Closes) phase = Finishing Closed

-- SERVER_CLOSED of a connection that has finished is followed by CLIENT_CLOSED; of one that goes
-- on, by the choice of another server
abbrev pub after_server : Setup → (finished : Bool) → Link → HostState → Place
after_server g true link h = closed_client g link h
after_server g false (Left b) h = place (Retiring b) h
after_server g false link h = place Choosing h

-- where all bodies of an event have ended
abbrev pub after_event : Setup → EventName → (finished : Bool) → Link → HostState → Place
after_event g ServerClosed finished link h = after_server g finished link h
after_event g ClientClosed finished link h = place Draining h
after_event g e finished link h = place (unless_ended h.net.wishes.ends (goes_on e link h)) h

abbrev pub entered : Setup → EventName → Link → List Handler → HostState → Place
entered g e link [] h = after_event g e false link h
entered g e link (b ∷ bs) h = place (InEvent e (Gated b bs)) h

-- where an event is entered; an event without bodies has no gate
abbrev pub enter : Setup → EventName → Link → HostState → Place
enter g e link h = entered g e link (g.handlers e) (begun e link h)

abbrev pub next_body :
    Setup → EventName → (finished : Bool) → Link → List Handler → HostState → Place
next_body g e finished link bs h = bodies_left e bs h (after_event g e finished link h)

-- an uncaught fault finishes the connection; in a closing event it only ends its body
abbrev pub after_fault :
    Setup → EventName → (finished : Bool) → Link → FaultKind → List Handler → HostState → Place
after_fault g e finished link kind bs h =
    if is_closing e then next_body g e finished link bs h else place (Finishing (Tcl kind)) h

-- where a body of an event ended so
abbrev pub after_body : Setup → EventName → (finished : Bool) → Link → Handler → List Handler
    → Option TclFault → HostState → Place
after_body g e finished link b bs None h = next_body g e finished link bs h
after_body g e finished link b bs (Some fault) h =
    place (InEvent e (Failing fault.kind (uncaught_line b.rule e fault.text) bs)) h

-- the event of the bytes that a collect of a side asked for
abbrev pub data_event : Side → EventName
data_event Client = ClientData
data_event Server = ServerData

-- the event of the bytes of a body that a rule collects
abbrev pub gather_event : Side → EventName
gather_event Client = HttpRequestData
gather_event Server = HttpResponseData

-- it finishes
abbrev pub finish : Setup → Reason → TraceState → Next
finish g r l =
    Does (Finished r) (at (closed g (link_of l.server) l.host) (record l { finished = true }))
