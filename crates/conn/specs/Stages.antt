-- Where a connection goes.
use Rattle.std.specs.Prelude.{◌≡◌, ℕ, zero, suc, List, [], ◌∷◌, Bool, true, false, ◌&&◌, not}
use Rattle.std.specs.Prelude.{Option, Some, None, is_some}
use Rattle.std.specs.Prelude.{if◌then◌else◌}
use Rattle.px_bytes.specs.declared.addr.Addr.{Addr}
use Rattle.px_bytes.specs.declared.addr.Side.{Side}
use Rattle.px_bytes.specs.declared.addr.Side.TheVariants.{Client, Server}
use Rattle.px_bytes.specs.declared.fault.Reply.{Reply}
use Rattle.px_bytes.specs.declared.fault.Reply.TheVariants as reply
use Rattle.irule_net.specs.declared.state.Asks.{Asks}
use Rattle.irule_net.specs.declared.state.Asks.TheVariants.{NotAsked, Stated}
use Rattle.irule_net.specs.declared.state.Ending.{Ending}
use Rattle.irule_net.specs.declared.state.Ending.TheVariants.{Rejects, Closes}
use Rattle.irule_net.specs.declared.state.Selected.{Selected}
use Rattle.irule_http.specs.Sent.{client_closes}
use Rattle.irule_http.specs.State.{expects_by}
use Rattle.irule_http.specs.declared.state.Http.{Http}
use Rattle.conn_trace.specs.Host.{http_known}
use Rattle.conn_trace.specs.Http.{wanted_more}
use Rattle.conn_trace.specs.Item.{Reason}
use Rattle.conn_trace.specs.Item as reason
use Rattle.conn_trace.specs.Routing.{is_left, is_spent_link}
use Rattle.conn_trace.specs.Selected.{addr_of}
use Rattle.conn_trace.specs.SentBodies.{opens}
use Rattle.core_events.specs.declared.note.Cause.{Cause}
use Rattle.core_events.specs.declared.note.Cause.TheVariants as cause
use Rattle.conn.specs.declared.ends.Behind.{Behind}
use Rattle.conn.specs.declared.ends.Behind.TheVariants as behind
use Rattle.conn.specs.declared.ends.Link.{Link}
use Rattle.conn.specs.declared.ends.Link.TheVariants as link
use Rattle.conn.specs.declared.events.At.{At}
use Rattle.conn.specs.declared.events.At.TheVariants as at
use Rattle.conn.specs.declared.host.RuleHost.{RuleHost}
use Rattle.conn.specs.declared.stage.Finish.{Finish}
use Rattle.conn.specs.declared.stage.Finish.TheVariants as finish
use Rattle.conn.specs.declared.stage.Stage.{Stage}
use Rattle.conn.specs.declared.stage.Stage.TheVariants as stage
use Rattle.conn.specs.declared.setup.Place.{Place}
use Rattle.conn.specs.declared.setup.Setup.{Setup}
use Rattle.conn.specs.Ends.{is_leaving, is_settled, is_sought, is_up}
use Rattle.conn.specs.Events.{event_of, gathered_at, is_closed, is_closing, is_data, is_event_of}
use Rattle.conn.specs.Hosts.{seen_host}
use Rattle.conn.specs.Setups.{places_at}

abbrev pub reason_for : Finish → Reason
reason_for finish.Closed = reason.Closed
reason_for finish.Rejected = reason.Rejected
reason_for finish.Unselected = reason.Unselected
reason_for (finish.Fault kind) = reason.Tcl kind
reason_for (finish.Http fault) = reason.Http fault
reason_for (finish.Cut cut) = reason.CutBy cut

abbrev pub cause_for : Finish → Cause
cause_for finish.Closed = cause.Closed
cause_for finish.Rejected = cause.Rejected
cause_for finish.Unselected = cause.Unselected
cause_for (finish.Fault kind) = cause.Tcl kind
cause_for (finish.Http fault) = cause.Http fault
cause_for (finish.Cut cut) = cause.Cut cut

-- the address that a reply selects
abbrev pub selects : Reply → Option Addr
selects (reply.Ok text) = addr_of text
selects (reply.Fault fault) = None

abbrev pub ended_stage : Ending → Stage
ended_stage Rejects = stage.Finishing finish.Rejected
ended_stage Closes = stage.Finishing finish.Closed

abbrev pub connecting_stage : Option Selected → Stage
connecting_stage None = stage.Finishing finish.Unselected
connecting_stage (Some s) = stage.Connecting s.addr

-- behind CLIENT_ACCEPTED, by whether it speaks HTTP, and by the client's collect
abbrev pub collect_stage : Asks → Stage
collect_stage NotAsked = stage.Choosing
collect_stage (Stated n) = stage.Collecting

abbrev pub accepted_stage : (http : Bool) → Asks → Stage
accepted_stage true asks = stage.AtHead
accepted_stage false asks = collect_stage asks

-- Behind CLIENT_DATA, by whether there is a server, and whether its bodies released. The sides of a
-- relay take turns.
abbrev pub data_stage : (up released : Bool) → Stage
data_stage true released = stage.Relaying Server
data_stage false released = if released then stage.Choosing else stage.Collecting

-- behind SERVER_CONNECTED, by whether it speaks HTTP, and by the bytes that were released before
abbrev pub loose_stage : (loose : List ℕ) → Stage
loose_stage [] = stage.Relaying Client
loose_stage (b ∷ bs) = stage.Releasing

abbrev pub connected_stage : (http : Bool) → (loose : List ℕ) → Stage
connected_stage true loose = stage.Heading Client
connected_stage false loose = loose_stage loose

-- behind LB_FAILED, where a rule may have answered a request
abbrev pub failed_stage : Option Bool → (reselects : Bool) → Http → Stage
failed_stage (Some closing) reselects http = stage.Dropping http.reader
failed_stage None reselects http =
    if reselects then stage.Choosing else stage.Finishing finish.Unselected

abbrev pub http_in : RuleHost → Http
http_in h = http_known h.http

-- a request goes to the server that is there, unless that is given up first, or another is selected
abbrev pub routed_stage : (up left : Bool) → Stage
routed_stage false left = stage.Choosing
routed_stage true true = stage.GivingUp behind.BeforeSelect
routed_stage true false = stage.AtReuse

-- its body is gathered first, where so much of it is wanted
abbrev pub gathering_stage : Side → ℕ → Http → Stage → Stage
gathering_stage side zero http st = st
gathering_stage side (suc n) http st = stage.Gathering side (suc n) http.reader

abbrev pub asked_stage : Link → RuleHost → Stage
asked_stage link h =
    gathering_stage Client (wanted_more (http_in h)) (http_in h)
    (routed_stage (is_up link) (is_left (seen_host h)))

-- A rule answered, or the client is told first to go on where it waits for that. The body of one that
-- was answered and waits never comes.
abbrev pub request_stage : Option Bool → (expects : Bool) → Link → RuleHost → Stage
request_stage (Some closing) true link h = stage.Finishing finish.Closed
request_stage (Some closing) false link h = stage.Dropping (http_in h).reader
request_stage None true link h = stage.Continuing
request_stage None false link h = asked_stage link h

-- so much of a request's body was gathered: a rule answered, or it goes on
abbrev pub request_data_stage : Option Bool → Link → RuleHost → Stage
request_data_stage (Some closing) link h = stage.Dropping (http_in h).reader
request_data_stage None link h = asked_stage link h

-- a rule answered in place of the response, or that is sent on, its body gathered first
abbrev pub response_stage : Option Bool → Http → Stage
response_stage (Some closing) http = stage.GivingUp behind.BehindMessage
response_stage None http = gathering_stage Server (wanted_more http) http (stage.Heading Server)

-- behind a request that was answered the next one is read, or the connection closes
abbrev pub next_by : (closes : Bool) → Stage
next_by true = stage.Finishing finish.Closed
next_by false = stage.AtHead

abbrev pub next_stage : Http → Stage
next_stage http = next_by (client_closes http)

-- a message of a side was sent on whole
abbrev pub spent_stage : (spent : Bool) → Http → Stage
spent_stage true http = stage.GivingUp behind.BehindMessage
spent_stage false http = next_stage http

abbrev pub message_stage : Side → RuleHost → Stage
message_stage Client h = stage.AtResponse
message_stage Server h = spent_stage (is_spent_link (seen_host h)) (http_in h)

-- behind a head and what was gathered
abbrev pub headed_stage : Side → RuleHost → (whole : Bool) → Stage
headed_stage side h true = message_stage side h
headed_stage side h false = stage.Forwarding side (http_in h).reader (opens (http_in h))

-- the closing event of a server connection that is given up has run
abbrev pub leaving_stage : Link → Stage
leaving_stage (link.Leaving b) = stage.Retiring b
leaving_stage other = stage.Choosing

-- it was given up
abbrev pub retired_stage : Behind → Http → Stage
retired_stage behind.BeforeSelect http = stage.Choosing
retired_stage behind.BehindMessage http = next_stage http

-- where it goes behind an event that nothing ended
abbrev pub goes_on_stage : At → Link → RuleHost → Stage
goes_on_stage at.Accepted link h = accepted_stage (is_some h.http) h.net.client.asks
goes_on_stage at.ClientData link h = data_stage (is_up link) h.net.wishes.released
goes_on_stage at.Selected link h = connecting_stage h.net.selected
goes_on_stage at.Failed link h =
    failed_stage (http_in h).answer h.net.wishes.reselects (http_in h)
goes_on_stage at.Connected link h = connected_stage (is_some h.http) h.net.loose
goes_on_stage at.Request link h =
    request_stage (http_in h).answer (expects_by (http_in h).came) link h
goes_on_stage at.RequestData link h = request_data_stage (http_in h).answer link h
goes_on_stage at.ServerData link h = stage.Relaying Client
goes_on_stage at.Response link h = response_stage (http_in h).answer (http_in h)
goes_on_stage at.ResponseData link h = response_stage (http_in h).answer (http_in h)
goes_on_stage at.Leaving link h = leaving_stage link
goes_on_stage at.ServerClosed link h = stage.Draining
goes_on_stage at.Closed link h = stage.Draining

abbrev pub unless_ended : Option Ending → Stage → Stage
unless_ended None st = st
unless_ended (Some ending) st = ended_stage ending

-- where all bodies of an event have ended that leaves it going on; what they wish as its server
-- connection is given up ends nothing
abbrev pub open_stage : At → Link → RuleHost → Stage
open_stage at.Leaving link h = leaving_stage link
open_stage other link h = unless_ended h.net.wishes.ends (goes_on_stage other link h)

-- where all bodies of an event have ended; behind the one that closes its server another comes
abbrev pub after_stage : At → Link → RuleHost → Stage
after_stage at link h = if is_closed at then stage.Draining else open_stage at link h

-- where an event is entered
abbrev pub entered_by : At → Link → RuleHost → List Place → Stage
entered_by at link h [] = after_stage at link h
entered_by at link h (p ∷ ps) = stage.Gated at

abbrev pub entered_stage : Setup → At → Link → RuleHost → Stage
entered_stage s at link h = entered_by at link h (places_at s at)

-- it waits for the reply to a shared call
abbrev pub is_asking : Stage → Bool
is_asking (stage.Asking at number) = true
is_asking stage.Selecting = true
is_asking other = false

abbrev pub is_draining : Stage → Bool
is_draining stage.Draining = true
is_draining other = false

-- bytes are passed on both ways, also at the gate of an event of collected bytes
abbrev pub is_relaying : Stage → Link → Bool
is_relaying (stage.Relaying first) link = is_up link
is_relaying (stage.Gated at) link = is_data at && is_up link
is_relaying other link = false

abbrev pub is_running : Stage → Bool
is_running (stage.Running at n) = true
is_running other = false

-- a body runs or waits for a reply
abbrev pub has_body : Stage → Bool
has_body (stage.Running at n) = true
has_body (stage.Asking at n) = true
has_body other = false

-- a body runs, or left a fault
abbrev pub is_in_body : Stage → Bool
is_in_body (stage.Running at n) = true
is_in_body (stage.Asking at n) = true
is_in_body (stage.Failing at n kind line) = true
is_in_body other = false

-- the bodies of an event run at which bytes of this side are collected, or are to
abbrev pub in_event_of : Side → Stage → Bool
in_event_of side (stage.Gated at) = is_event_of side at
in_event_of side (stage.Running at n) = is_event_of side at
in_event_of side (stage.Asking at n) = is_event_of side at
in_event_of side (stage.Failing at n kind line) = is_event_of side at
in_event_of side other = false

-- where memory was refused; a connection that is over stays so
abbrev pub failed : Stage → Stage
failed (stage.Dropped n) = stage.Dropped n
failed other = stage.OutOfMemory

-- how many bytes were dropped
abbrev pub dropped_in : Stage → ℕ
dropped_in (stage.Dropped n) = n
dropped_in other = 0

abbrev pub has_finished : Stage → Bool
has_finished (stage.Running at n) = is_closed at
has_finished (stage.Asking at n) = is_closed at
has_finished (stage.Failing at n kind line) = is_closed at
has_finished stage.Draining = true
has_finished stage.OutOfMemory = true
has_finished (stage.Dropped n) = true
has_finished other = false

-- the host has the event whose bodies run, or are to
abbrev pub InEvent : Stage → At → Type 0
InEvent (stage.Gated at) event = event_of event ≡ event_of at
InEvent (stage.Running at n) event = event_of event ≡ event_of at
InEvent (stage.Asking at n) event = event_of event ≡ event_of at
InEvent (stage.Failing at n kind line) event = event_of event ≡ event_of at
InEvent other event = Unit {0}

-- Where there may be a server connection: it is selected and asked for while there is none, and there
-- once it was made. The client's bytes are collected but while a server is asked for. The closing
-- events have no gate, and a cut finishes at once.
abbrev pub at_fits : At → Link → Bool
at_fits at.ClientData link = is_settled link
at_fits at.Connected link = is_up link
at_fits at.ServerData link = is_up link
at_fits at.Request link = is_settled link
at_fits at.RequestData link = is_settled link
at_fits at.Response link = is_up link
at_fits at.ResponseData link = is_up link
at_fits at.Leaving link = is_leaving link
at_fits at.ServerClosed link = true
at_fits at.Closed link = true
at_fits other link = not (is_sought link)

abbrev pub fits : Stage → Link → Bool
fits (stage.Gated at) link = not (is_closing at) && at_fits at link
fits (stage.Running at n) link = at_fits at link
fits (stage.Asking at n) link = at_fits at link
fits (stage.Failing at n kind line) link = at_fits at link
fits stage.Choosing link = not (is_sought link)
fits stage.Selecting link = not (is_sought link)
fits (stage.Chosen addr) link = not (is_sought link)
fits (stage.Connecting to) link = not (is_sought link)
fits (stage.Answering to) link = is_sought link && not (is_up link)
fits stage.Collecting link = not (is_sought link)
fits stage.AtHead link = is_settled link
fits stage.Continuing link = is_settled link
fits (stage.Gathering side wanted reader) link = at_fits (gathered_at side) link
fits (stage.Dropping reader) link = is_settled link
fits stage.AtReuse link = is_up link
fits (stage.GivingUp b) link = is_up link
fits (stage.Retiring b) link = is_leaving link
fits (stage.Heading side) link = is_up link
fits (stage.Forwarding side reader standing) link = is_up link
fits stage.AtResponse link = is_up link
fits stage.Releasing link = is_up link
fits (stage.Relaying first) link = is_up link
fits (stage.Finishing (finish.Cut reason)) link = false
fits other link = true
