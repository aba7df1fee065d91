-- Where an event leads what is held fits, and the bytes that are pending fit what was sent in the event.
use Rattle.std.proofs.Common.{◌≡◌, refl, sym, ◌∙◌, ℕ, ◌+◌, ◌≤◌, List, [], ◌∷◌, Bool, true, false, true≢false, if◌then◌else◌, Option, Some, None}
use Rattle.px_bytes.specs.declared.addr.Side.{Side}
use Rattle.px_bytes.specs.declared.fault.FaultKind.{FaultKind}
use Rattle.px_bytes.specs.declared.fault.TclFault.{TclFault}
use Rattle.event_order.specs.declared.event.EventName.{EventName}
use Rattle.event_order.specs.declared.event.EventName.TheVariants.{ClientAccepted, ClientData, ClientClosed, ServerConnected, ServerData, ServerClosed, LbSelected, LbFailed}
use Rattle.irule_net.specs.declared.state.Asks.{Asks}
use Rattle.irule_net.specs.declared.state.Asks.TheVariants.{NotAsked, Stated}
use Rattle.irule_net.specs.declared.state.Ending.{Ending}
use Rattle.irule_net.specs.declared.state.Ending.TheVariants.{Rejects, Closes}
use Rattle.irule_net.specs.declared.state.Selected.{Selected}
use Rattle.conn_trace.specs.Gates.{Counts, TakenCounts, to_take}
use Rattle.conn_trace.specs.Host.{HostState, http_of, speaks_http}
use Rattle.conn_trace.specs.Item.{Tcl, Unselected}
use Rattle.conn_trace.specs.Routing.{behind_accepted, behind_connected}
use Rattle.conn_trace.specs.Places.{Place, place, is_closing, begun, bodies_left, closed_client, closed_server, closed, connecting, behind_data, goes_on, unless_ended, after_server, after_event, entered, enter, next_body, after_fault, after_body}
use Rattle.conn_trace.specs.Setup.{Handler, Setup}
use Rattle.conn_trace.specs.State.{Gated, Running, Failing, Phase, InEvent, Choosing, Finishing, Draining, Link, Absent, Asked, Up, GivenUp}
use Rattle.std.proofs.Common.{zero, suc, ◌-◌, length, min, arith}
use Rattle.px_bytes.specs.declared.addr.Side.TheVariants.{Client, Server}
use Rattle.event_order.specs.declared.event.EventName.TheVariants.{HttpRequest, HttpRequestData, HttpResponse, HttpResponseData}
use Rattle.conn_trace.specs.Item.{Closed}
use Rattle.conn_trace.specs.Http.{wanted_more, client_goes_on}
use Rattle.irule_http.specs.Payload.{payload_limit}
use Rattle.irule_http.specs.State.{expects_by}
use Rattle.conn_trace.specs.State.{AtHead, Gathering, AtReuse, GivingUp, Retiring, Heading, Behind, BeforeSelect, BehindMessage, Left}
use Rattle.conn_trace.specs.Routing.{behind_accept, behind_failed, behind_connect, routed, is_left, next_request, behind_message, is_spent_link, gathering, behind_asked, behind_request, behind_answer, behind_told, behind_request_data, behind_response}
use Rattle.conn_trace.specs.Places.{giving_up}
use Rattle.conn_trace.proofs.HostFits.{HostFits, begun_fits, credit}

-- ---- places

-- the most that is pending behind an open gate
abbrev pub at_gate : ℕ
at_gate = 65535

-- no bodies run
abbrev pub Outside : Phase → Type 0
Outside (InEvent e bodies) = ⊥
Outside other = Unit {0}

-- Where so much was sent and taken: the event that runs is the host's, and but for the closing events no
-- more is pending than was at the gate and was sent in the event.
abbrev pub PhaseFits : TakenCounts → Counts → Phase → HostState → Type 0
PhaseFits took sent (InEvent e (Gated b bs)) h = h.event ≡ e
PhaseFits took sent (InEvent e (Running b bs n)) h = (h.event ≡ e) × (is_closing e ≡ false → (side : Side) → to_take sent took side ≤ at_gate + credit e side h)
PhaseFits took sent (InEvent e (Failing kind line bs)) h = h.event ≡ e
PhaseFits took sent (Gathering side wanted s) h = (length (http_of h).payload + wanted ≤ payload_limit) × (1 ≤ wanted)
PhaseFits took sent other h = Unit {0}

pub record PlaceFits (took : TakenCounts) (sent : Counts) (p : Place) : Type 0 where
  pub phase : PhaseFits took sent p.phase p.host
  pub host : HostFits p.host

-- no bodies run, and what is gathered there fits
abbrev pub Gathers : Phase → HostState → Type 0
Gathers (Gathering side wanted s) h = (length (http_of h).payload + wanted ≤ payload_limit) × (1 ≤ wanted)
Gathers other h = Unit {0}

abbrev pub Idle : Phase → HostState → Type 0
Idle p h = Outside p × Gathers p h

accept_out : (h : HostState) (http : Bool) → Idle (behind_accept http h) h
accept_out h true = (tt, tt)
accept_out h false = by_asks h.net.client.asks
  where
    by_asks : (asks : Asks) → Idle (behind_accepted asks) h
    by_asks NotAsked = (tt, tt)
    by_asks (Stated n) = (tt, tt)

failed_out : (h : HostState) (answer : Option Bool) → Idle (behind_failed answer h) h
failed_out h (Some closing) = (tt, tt)
failed_out h None = by_again h.net.wishes.reselects
  where
    by_again : (b : Bool) → Idle (if b then Choosing else Finishing Unselected) h
    by_again true = (tt, tt)
    by_again false = (tt, tt)

connect_out : (h : HostState) (http : Bool) → Idle (behind_connect http h) h
connect_out h true = (tt, tt)
connect_out h false = by_loose h.net.loose
  where
    by_loose : (loose : List ℕ) → Idle (behind_connected loose) h
    by_loose [] = (tt, tt)
    by_loose (b ∷ bs) = (tt, tt)

routed_out : (link : Link) (h : HostState) → Idle (routed link h) h
routed_out Up h = by_left (is_left h)
  where
    by_left : (b : Bool) → Idle (if b then GivingUp BeforeSelect else AtReuse) h
    by_left true = (tt, tt)
    by_left false = (tt, tt)
routed_out Absent h = (tt, tt)
routed_out Asked h = (tt, tt)
routed_out (Left b) h = (tt, tt)
routed_out GivenUp h = (tt, tt)

pub next_request_out : (h k : HostState) → Idle (next_request h) k
next_request_out h k = by_test (client_goes_on (http_of h))
  where
    by_test : (b : Bool) → Idle (if b then AtHead else Finishing Closed) k
    by_test true = (tt, tt)
    by_test false = (tt, tt)

pub message_out : (side : Side) (h : HostState) → Idle (behind_message side h) h
message_out Client h = (tt, tt)
message_out Server h = by_test (is_spent_link h)
  where
    by_test : (b : Bool) → Idle (if b then GivingUp BehindMessage else next_request h) h
    by_test true = (tt, tt)
    by_test false = next_request_out h h

gathering_out : (side : Side) (n : ℕ) (h : HostState) (other : Phase) → length (http_of h).payload + n ≤ payload_limit → Idle other h → Idle (gathering side n h other) h
gathering_out side zero h other few out = out
gathering_out side (suc n) h other few out = (tt, (few, omega arith))

wanted_fits : (h : HostState) → length (http_of h).payload ≤ payload_limit → length (http_of h).payload + wanted_more (http_of h) ≤ payload_limit
wanted_fits h few = by_whole (http_of h).whole
  where
    by_whole : (b : Bool) → length (http_of h).payload + (if b then 0 else min (http_of h).collect (payload_limit - length (http_of h).payload)) ≤ payload_limit
    by_whole true = omega (arith, few)
    by_whole false = omega (arith, few)

pub asked_out : (link : Link) (h : HostState) → length (http_of h).payload ≤ payload_limit → Idle (behind_asked link h) h
asked_out link h few = gathering_out Client (wanted_more (http_of h)) h (routed link h) (wanted_fits h few) (routed_out link h)

request_out : (link : Link) (h : HostState) (answer : Option Bool) → length (http_of h).payload ≤ payload_limit → Idle (behind_request answer link h) h
request_out link h (Some closing) few = by_expects (expects_by (http_of h).came)
  where
    by_expects : (b : Bool) → Idle (behind_answer b h) h
    by_expects true = (tt, tt)
    by_expects false = (tt, tt)
request_out link h None few = by_expects (expects_by (http_of h).came)
  where
    by_expects : (b : Bool) → Idle (behind_told b link h) h
    by_expects true = (tt, tt)
    by_expects false = asked_out link h few

request_data_out : (link : Link) (h : HostState) (answer : Option Bool) → length (http_of h).payload ≤ payload_limit → Idle (behind_request_data answer link h) h
request_data_out link h (Some closing) few = (tt, tt)
request_data_out link h None few = asked_out link h few

response_out : (h : HostState) (answer : Option Bool) → length (http_of h).payload ≤ payload_limit → Idle (behind_response answer h) h
response_out h (Some closing) few = (tt, tt)
response_out h None few = gathering_out Server (wanted_more (http_of h)) h (Heading Server) (wanted_fits h few) (tt, tt)

data_idle : (link : Link) (released : Bool) (h : HostState) → Idle (behind_data link released) h
data_idle Up released h = (tt, tt)
data_idle Absent true h = (tt, tt)
data_idle Absent false h = (tt, tt)
data_idle Asked true h = (tt, tt)
data_idle Asked false h = (tt, tt)
data_idle (Left b) true h = (tt, tt)
data_idle (Left b) false h = (tt, tt)
data_idle GivenUp true h = (tt, tt)
data_idle GivenUp false h = (tt, tt)

selected_idle : (s : Option Selected) (h : HostState) → Idle (connecting s) h
selected_idle None h = (tt, tt)
selected_idle (Some s) h = (tt, tt)

pub goes_idle : (e : EventName) (link : Link) (h : HostState) → length (http_of h).payload ≤ payload_limit → Idle (goes_on e link h) h
goes_idle ClientAccepted link h few = accept_out h (speaks_http h)
goes_idle ClientData link h few = data_idle link h.net.wishes.released h
goes_idle LbSelected link h few = selected_idle h.net.selected h
goes_idle LbFailed link h few = failed_out h (http_of h).answer
goes_idle ServerConnected link h few = connect_out h (speaks_http h)
goes_idle ServerData link h few = (tt, tt)
goes_idle HttpRequest link h few = request_out link h (http_of h).answer few
goes_idle HttpRequestData link h few = request_data_out link h (http_of h).answer few
goes_idle HttpResponse link h few = response_out h (http_of h).answer few
goes_idle HttpResponseData link h few = response_out h (http_of h).answer few
goes_idle other link h few = (tt, tt)

ended_idle : (ends : Option Ending) (p : Phase) (h : HostState) → Idle p h → Idle (unless_ended ends p) h
ended_idle None p h o = o
ended_idle (Some Rejects) p h o = (tt, tt)
ended_idle (Some Closes) p h o = (tt, tt)

-- the phase after an event that has ended
pub on_idle : (e : EventName) (link : Link) (h : HostState) → length (http_of h).payload ≤ payload_limit → Idle (unless_ended h.net.wishes.ends (goes_on e link h)) h
on_idle e link h few = ended_idle h.net.wishes.ends (goes_on e link h) h (goes_idle e link h few)

module _ (took : TakenCounts) (sent : Counts) where
  pub outside : (p : Phase) (h : HostState) → Idle p h → PhaseFits took sent p h
  outside (InEvent e bodies) h o = absurd o.0
  outside (Gathering side wanted s) h o = o.1
  outside other h o = tt

  closed_client_fits : (g : Setup) (link : Link) (h : HostState) → HostFits h → PlaceFits took sent (closed_client g link h)
  closed_client_fits g link h u = by_bodies (g.handlers ClientClosed)
    where
      by_bodies : (bs : List Handler) → PlaceFits took sent (bodies_left ClientClosed bs (begun ClientClosed link h) (place Draining (begun ClientClosed link h)))
      by_bodies [] = record { phase = tt; host = begun_fits ClientClosed link h u }
      by_bodies (b ∷ bs) = record { phase = (refl, λ e. absurd (true≢false e)); host = begun_fits ClientClosed link h u }

  closed_server_fits : (g : Setup) (link : Link) (h : HostState) → HostFits h → PlaceFits took sent (closed_server g link h)
  closed_server_fits g link h u = by_bodies (g.handlers ServerClosed)
    where
      by_bodies : (bs : List Handler) → PlaceFits took sent (bodies_left ServerClosed bs (begun ServerClosed link h) (closed_client g link h))
      by_bodies [] = closed_client_fits g link h u
      by_bodies (b ∷ bs) = record { phase = (refl, λ e. absurd (true≢false e)); host = begun_fits ServerClosed link h u }

  pub giving_up_fits : (g : Setup) (b : Behind) (h : HostState) → HostFits h → PlaceFits took sent (giving_up g b h)
  giving_up_fits g b h u = by_bodies (g.handlers ServerClosed)
    where
      by_bodies : (bs : List Handler) → PlaceFits took sent (bodies_left ServerClosed bs (begun ServerClosed (Left b) h) (place (Retiring b) (begun ServerClosed (Left b) h)))
      by_bodies [] = record { phase = tt; host = begun_fits ServerClosed (Left b) h u }
      by_bodies (body ∷ bs) = record { phase = (refl, λ e. absurd (true≢false e)); host = begun_fits ServerClosed (Left b) h u }

  pub closed_fits : (g : Setup) (link : Link) (h : HostState) → HostFits h → PlaceFits took sent (closed g link h)
  closed_fits g Absent h u = closed_client_fits g Absent h u
  closed_fits g Asked h u = closed_server_fits g Asked h u
  closed_fits g Up h u = closed_server_fits g Up h u
  closed_fits g (Left b) h u = closed_client_fits g (Left b) h u
  closed_fits g GivenUp h u = closed_client_fits g GivenUp h u

  after_server_fits : (g : Setup) (finished : Bool) (link : Link) (h : HostState) → HostFits h → PlaceFits took sent (after_server g finished link h)
  after_server_fits g true link h u = closed_client_fits g link h u
  after_server_fits g false Absent h u = record { phase = tt; host = u }
  after_server_fits g false Asked h u = record { phase = tt; host = u }
  after_server_fits g false Up h u = record { phase = tt; host = u }
  after_server_fits g false (Left b) h u = record { phase = tt; host = u }
  after_server_fits g false GivenUp h u = record { phase = tt; host = u }

  on_fits : (e : EventName) (link : Link) (h : HostState) → HostFits h → PlaceFits took sent (place (unless_ended h.net.wishes.ends (goes_on e link h)) h)
  on_fits e link h u = record { phase = outside _ h (on_idle e link h u.payload); host = u }

  after_event_fits : (g : Setup) (e : EventName) (finished : Bool) (link : Link) (h : HostState) → HostFits h → PlaceFits took sent (after_event g e finished link h)
  after_event_fits g ServerClosed finished link h u = after_server_fits g finished link h u
  after_event_fits g ClientClosed finished link h u = record { phase = tt; host = u }
  after_event_fits g other finished link h u = on_fits other link h u

  -- where the event's bodies begin on such a host
  pub enter_begun : (g : Setup) (e : EventName) (link : Link) (h : HostState) → HostFits (begun e link h) → PlaceFits took sent (enter g e link h)
  enter_begun g e link h u = by_bodies (g.handlers e)
    where
      by_bodies : (bs : List Handler) → PlaceFits took sent (entered g e link bs (begun e link h))
      by_bodies [] = after_event_fits g e false link (begun e link h) u
      by_bodies (b ∷ bs) = record { phase = refl; host = u }

  pub enter_fits : (g : Setup) (e : EventName) (link : Link) (h : HostState) → HostFits h → PlaceFits took sent (enter g e link h)
  enter_fits g e link h u = enter_begun g e link h (begun_fits e link h u)

  -- behind a body
  pub next_fits : (g : Setup) (e : EventName) (finished : Bool) (link : Link) (bs : List Handler) (h : HostState) → HostFits h → h.event ≡ e
      → (is_closing e ≡ false → (side : Side) → to_take sent took side ≤ at_gate + credit e side h) → PlaceFits took sent (next_body g e finished link bs h)
  next_fits g e finished link [] h u is few = after_event_fits g e finished link h u
  next_fits g e finished link (b ∷ bs) h u is few = record { phase = (is, few); host = u }

  pub fault_fits : (g : Setup) (e : EventName) (finished : Bool) (link : Link) (kind : FaultKind) (bs : List Handler) (h : HostState) → HostFits h → h.event ≡ e → PlaceFits took sent (after_fault g e finished link kind bs h)
  fault_fits g e finished link kind bs h u is = by_closing (is_closing e) refl
    where
      by_closing : (b : Bool) → is_closing e ≡ b → PlaceFits took sent (if b then next_body g e finished link bs h else place (Finishing (Tcl kind)) h)
      by_closing true c = next_fits g e finished link bs h u is (λ n. absurd (true≢false (sym c ∙ n)))
      by_closing false c = record { phase = tt; host = u }

  pub body_fits : (g : Setup) (e : EventName) (finished : Bool) (link : Link) (b : Handler) (bs : List Handler) (fault : Option TclFault) (h : HostState) → HostFits h → h.event ≡ e
      → (is_closing e ≡ false → (side : Side) → to_take sent took side ≤ at_gate + credit e side h) → PlaceFits took sent (after_body g e finished link b bs fault h)
  body_fits g e finished link b bs None h u is few = next_fits g e finished link bs h u is few
  body_fits g e finished link b bs (Some fault) h u is few = record { phase = is; host = u }
