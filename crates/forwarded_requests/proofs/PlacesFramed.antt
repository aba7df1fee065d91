-- Where an event leads a request that is on its way isn't answered yet, and goes by what its head says.
use Rattle.std.proofs.Common.{◌≡◌, refl, ℕ, zero, suc, List, [], ◌∷◌, Bool, true, false, Option, Some, None}
use Rattle.std.specs.Prelude.{if◌then◌else◌}
use Rattle.px_bytes.specs.declared.addr.Side.TheVariants.{Client, Server}
use Rattle.px_bytes.specs.declared.fault.FaultKind.{FaultKind}
use Rattle.px_bytes.specs.declared.fault.TclFault.{TclFault}
use Rattle.event_order.specs.declared.event.EventName.{EventName}
use Rattle.event_order.specs.declared.event.EventName.TheVariants.{ClientAccepted, ClientData, ClientClosed, ServerConnected, ServerData}
use Rattle.event_order.specs.declared.event.EventName.TheVariants.{ServerClosed, LbSelected, LbFailed}
use Rattle.event_order.specs.declared.event.EventName.TheVariants.{HttpRequest, HttpRequestData, HttpResponse, HttpResponseData}
use Rattle.irule_net.specs.declared.state.Asks.{Asks}
use Rattle.irule_net.specs.declared.state.Asks.TheVariants.{NotAsked, Stated}
use Rattle.irule_net.specs.declared.state.Ending.{Ending}
use Rattle.irule_net.specs.declared.state.Ending.TheVariants.{Rejects, Closes}
use Rattle.irule_net.specs.declared.state.Selected.{Selected}
use Rattle.irule_http.specs.State.{expects_by}
use Rattle.conn_trace.specs.Host.{HostState, http_of, speaks_http}
use Rattle.conn_trace.specs.Http.{client_goes_on, wanted_more}
use Rattle.conn_trace.specs.Item.{Closed, Tcl, Unselected}
use Rattle.conn_trace.specs.Places.{place, begun, bodies_left, closed_client, closed_server, closed, connecting, behind_data, goes_on}
use Rattle.conn_trace.specs.Places.{unless_ended, after_server, after_event, entered, enter, next_body, after_fault, after_body, is_closing}
use Rattle.conn_trace.specs.Routing.{behind_accept, behind_accepted, behind_answer, behind_asked, behind_connect, behind_connected, behind_failed}
use Rattle.conn_trace.specs.Routing.{behind_request, behind_request_data, behind_response, behind_told, gathering, is_left}
use Rattle.conn_trace.specs.Routing.{next_request, routed}
use Rattle.conn_trace.specs.Setup.{Handler, Setup}
use Rattle.conn_trace.specs.State.{Phase, AtHead, AtReuse, GivingUp, Heading}
use Rattle.conn_trace.specs.State.{Choosing, Finishing, Draining, BeforeSelect, BehindMessage}
use Rattle.conn_trace.specs.State.{Link, Absent, Asked, Up, Left, GivenUp}
use Rattle.forwarded_requests.proofs.GatherFramed.{gather_begins}
use Rattle.forwarded_requests.proofs.HostFramed.{Awaits, UnlessAnswered, begun_kept, framed_kept}
use Rattle.forwarded_requests.proofs.PhasesFramed.{Answered, Enters, FramedPlace, InPhase, MayClose, Runs, enters_kept, enters_runs}

-- ---- where an event leads

module _ (finished : Bool) (link : Link) where
  abbrev At : Phase → HostState → Type 0
  At p h = InPhase finished link p (http_of h)

  accept_at : (h : HostState) (http : Bool) → Awaits (http_of h) → At (behind_accept http h) h
  accept_at h true is = tt
  accept_at h false is = by_asks h.net.client.asks
    where
      by_asks : (asks : Asks) → At (behind_accepted asks) h
      by_asks NotAsked = is
      by_asks (Stated n) = is

  connect_at : (h : HostState) (http : Bool) → Awaits (http_of h) → At (behind_connect http h) h
  connect_at h true is = is
  connect_at h false is = by_loose h.net.loose
    where
      by_loose : (loose : List ℕ) → At (behind_connected loose) h
      by_loose [] = is
      by_loose (b ∷ bs) = is

  failed_at : (h : HostState) (answer : Option Bool) → Awaits (http_of h) → At (behind_failed answer h) h
  failed_at h (Some closing) is = tt
  failed_at h None is = by_again h.net.wishes.reselects
    where
      by_again : (b : Bool) → At (if b then Choosing else Finishing Unselected) h
      by_again true = is
      by_again false = tt

  data_at : (to : Link) (released : Bool) (h : HostState) → Awaits (http_of h) → At (behind_data to released) h
  data_at Up released h is = is
  data_at Absent true h is = is
  data_at Absent false h is = is
  data_at Asked true h is = is
  data_at Asked false h is = is
  data_at (Left b) true h is = is
  data_at (Left b) false h is = is
  data_at GivenUp true h is = is
  data_at GivenUp false h is = is

  selected_at : (s : Option Selected) (h : HostState) → Awaits (http_of h) → At (connecting s) h
  selected_at None h is = tt
  selected_at (Some s) h is = is

  routed_at : (to : Link) (h : HostState) → Awaits (http_of h) → At (routed to h) h
  routed_at Up h is = by_left (is_left h)
    where
      by_left : (b : Bool) → At (if b then GivingUp BeforeSelect else AtReuse) h
      by_left true = is
      by_left false = is
  routed_at Absent h is = is
  routed_at Asked h is = is
  routed_at (Left b) h is = is
  routed_at GivenUp h is = is

  pub asked_at : (to : Link) (h : HostState) → UnlessAnswered (http_of h) → Awaits (http_of h) → At (behind_asked to h) h
  asked_at to h framed is = by_wanted (wanted_more (http_of h)) refl
    where
      by_wanted : (n : ℕ) → wanted_more (http_of h) ≡ n → At (gathering Client n h (routed to h)) h
      by_wanted zero e = routed_at to h is
      by_wanted (suc n) e = gather_begins (http_of h) n (framed is) is e

  request_at : (to : Link) (h : HostState) (answer : Option Bool) → UnlessAnswered (http_of h) → Awaits (http_of h)
      → At (behind_request answer to h) h
  request_at to h (Some closing) framed is = by_expects (expects_by (http_of h).came)
    where
      by_expects : (b : Bool) → At (behind_answer b h) h
      by_expects true = tt
      by_expects false = tt
  request_at to h None framed is = by_expects (expects_by (http_of h).came)
    where
      by_expects : (b : Bool) → At (behind_told b to h) h
      by_expects true = is
      by_expects false = asked_at to h framed is

  request_data_at : (to : Link) (h : HostState) (answer : Option Bool) → UnlessAnswered (http_of h) → Awaits (http_of h)
      → At (behind_request_data answer to h) h
  request_data_at to h (Some closing) framed is = tt
  request_data_at to h None framed is = asked_at to h framed is

  response_at : (h : HostState) (answer : Option Bool) → Answered (http_of h) → At (behind_response answer h) h
  response_at h (Some closing) is = tt
  response_at h None is = by_wanted (wanted_more (http_of h))
    where
      by_wanted : (n : ℕ) → At (gathering Server n h (Heading Server)) h
      by_wanted zero = tt
      by_wanted (suc n) = is

  pub next_request_at : (h k : HostState) → At (next_request h) k
  next_request_at h k = by_test (client_goes_on (http_of h))
    where
      by_test : (b : Bool) → At (if b then AtHead else Finishing Closed) k
      by_test true = tt
      by_test false = tt

  goes_at : (e : EventName) (to : Link) (h : HostState) → UnlessAnswered (http_of h) → Enters e (http_of h) → At (goes_on e to h) h
  goes_at ClientAccepted to h framed is = accept_at h (speaks_http h) is
  goes_at ClientData to h framed is = data_at to h.net.wishes.released h is
  goes_at LbSelected to h framed is = selected_at h.net.selected h is
  goes_at LbFailed to h framed is = failed_at h (http_of h).answer is
  goes_at ServerConnected to h framed is = connect_at h (speaks_http h) is
  goes_at HttpRequest to h framed is = request_at to h (http_of h).answer framed is
  goes_at HttpRequestData to h framed is = request_data_at to h (http_of h).answer framed is
  goes_at HttpResponse to h framed is = response_at h (http_of h).answer is
  goes_at HttpResponseData to h framed is = response_at h (http_of h).answer is
  goes_at ServerData to h framed is = is
  goes_at other to h framed is = tt

  ends_at : (ends : Option Ending) (p : Phase) (h : HostState) → At p h → At (unless_ended ends p) h
  ends_at None p h is = is
  ends_at (Some Rejects) p h is = tt
  ends_at (Some Closes) p h is = tt

  on_framed : (e : EventName) (to : Link) (h : HostState) → UnlessAnswered (http_of h) → Enters e (http_of h)
      → FramedPlace finished link (place (unless_ended h.net.wishes.ends (goes_on e to h)) h)
  on_framed e to h framed is = record { phase = ends_at h.net.wishes.ends (goes_on e to h) h (goes_at e to h framed is); host = framed }

  -- ---- closing events

  abbrev begun_framed : (e : EventName) (to : Link) (h : HostState) → UnlessAnswered (http_of h) → UnlessAnswered (http_of (begun e to h))
  begun_framed e to h framed = framed_kept (http_of h) (http_of (begun e to h)) (begun_kept e to h) framed

  client_framed : (g : Setup) (to : Link) (h : HostState) → UnlessAnswered (http_of h) → FramedPlace finished link (closed_client g to h)
  client_framed g to h framed = by_bodies (g.handlers ClientClosed)
    where
      by_bodies : (bs : List Handler)
          → FramedPlace finished link (bodies_left ClientClosed bs (begun ClientClosed to h) (place Draining (begun ClientClosed to h)))
      by_bodies [] = record { phase = tt; host = begun_framed ClientClosed to h framed }
      by_bodies (b ∷ bs) = record { phase = tt; host = begun_framed ClientClosed to h framed }

  server_framed : (g : Setup) (finishes : Bool) (to : Link) (h : HostState) → MayClose finishes to (http_of h) → UnlessAnswered (http_of h)
      → FramedPlace finished link (after_server g finishes to h)
  server_framed g true to h is framed = client_framed g to h framed
  server_framed g false Absent h is framed = record { phase = is; host = framed }
  server_framed g false Asked h is framed = record { phase = is; host = framed }
  server_framed g false Up h is framed = record { phase = is; host = framed }
  server_framed g false (Left BeforeSelect) h is framed = record { phase = is; host = framed }
  server_framed g false (Left BehindMessage) h is framed = record { phase = tt; host = framed }
  server_framed g false GivenUp h is framed = record { phase = is; host = framed }

  pub after_framed : (g : Setup) (e : EventName) (finishes : Bool) (to : Link) (h : HostState) → UnlessAnswered (http_of h)
      → Runs e finishes to (http_of h) → FramedPlace finished link (after_event g e finishes to h)
  after_framed g ServerClosed finishes to h framed is = server_framed g finishes to h is framed
  after_framed g ClientClosed finishes to h framed is = record { phase = tt; host = framed }
  after_framed g e finishes to h framed is = on_framed e to h framed is

  -- ---- where an event is entered

  pub enter_framed : (g : Setup) (e : EventName) (to : Link) (h : HostState) → UnlessAnswered (http_of h) → Enters e (http_of h)
      → FramedPlace finished link (enter g e to h)
  enter_framed g e to h framed is = by_bodies (g.handlers e)
    where
      enters : Enters e (http_of (begun e to h))
      enters = enters_kept e (http_of h) (http_of (begun e to h)) (begun_kept e to h) is

      by_bodies : (bs : List Handler) → FramedPlace finished link (entered g e to bs (begun e to h))
      by_bodies [] =
          after_framed g e false to (begun e to h) (begun_framed e to h framed) (enters_runs e false to (http_of (begun e to h)) enters)
      by_bodies (b ∷ bs) = record { phase = enters_runs e finished link (http_of (begun e to h)) enters; host = begun_framed e to h framed }

both_framed : (g : Setup) (link to : Link) (h : HostState) → UnlessAnswered (http_of h) → FramedPlace true link (closed_server g to h)
both_framed g link to h framed = by_bodies (g.handlers ServerClosed)
  where
    by_bodies : (bs : List Handler) → FramedPlace true link (bodies_left ServerClosed bs (begun ServerClosed to h) (closed_client g to h))
    by_bodies [] = client_framed true link g to h framed
    by_bodies (b ∷ bs) = record { phase = tt; host = begun_framed true link ServerClosed to h framed }

-- it finishes
pub closed_framed : (g : Setup) (link to : Link) (h : HostState) → UnlessAnswered (http_of h) → FramedPlace true link (closed g to h)
closed_framed g link Absent h framed = client_framed true link g Absent h framed
closed_framed g link Asked h framed = both_framed g link Asked h framed
closed_framed g link Up h framed = both_framed g link Up h framed
closed_framed g link (Left b) h framed = client_framed true link g (Left b) h framed
closed_framed g link GivenUp h framed = client_framed true link g GivenUp h framed

-- ---- behind a body

module _ (g : Setup) (e : EventName) (finished : Bool) (link : Link) where
  pub next_framed : (bs : List Handler) (h : HostState) → UnlessAnswered (http_of h) → Runs e finished link (http_of h)
      → FramedPlace finished link (next_body g e finished link bs h)
  next_framed [] h framed is = after_framed finished link g e finished link h framed is
  next_framed (b ∷ bs) h framed is = record { phase = is; host = framed }

  pub fault_framed : (kind : FaultKind) (bs : List Handler) (h : HostState) → UnlessAnswered (http_of h) → Runs e finished link (http_of h)
      → FramedPlace finished link (after_fault g e finished link kind bs h)
  fault_framed kind bs h framed is = by_closing (is_closing e)
    where
      by_closing : (c : Bool) → FramedPlace finished link (if c then next_body g e finished link bs h else place (Finishing (Tcl kind)) h)
      by_closing true = next_framed bs h framed is
      by_closing false = record { phase = tt; host = framed }

  pub ended_framed : (b : Handler) (bs : List Handler) (fault : Option TclFault) (h : HostState) → UnlessAnswered (http_of h)
      → Runs e finished link (http_of h) → FramedPlace finished link (after_body g e finished link b bs fault h)
  ended_framed b bs None h framed is = next_framed bs h framed is
  ended_framed b bs (Some fault) h framed is = record { phase = is; host = framed }
