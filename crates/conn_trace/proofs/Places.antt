-- Where events lead is orderly, and in the order of the phases.
use Rattle.std.proofs.Common.{true≢false, sym, ◌≡◌, inl, inr, refl, ℕ, List, [], ◌∷◌, Bool, true, false, if◌then◌else◌, Option, Some, None, arith, IsTrue}
use Rattle.event_order.specs.Phase.{is_live}
use Rattle.event_order.specs.declared.phase.Phase.{Phase as Name}
use Rattle.event_order.specs.declared.phase.Phase.TheVariants as name
use Rattle.event_order.specs.declared.event.EventName.{EventName}
use Rattle.event_order.specs.declared.event.EventName.TheVariants.{ClientAccepted, ClientData, ClientClosed, ServerConnected, ServerData, ServerClosed, LbSelected, LbFailed}
use Rattle.conn_trace.specs.Item.{Unselected}
use Rattle.conn_trace.specs.Setup.{Handler, Setup}
use Rattle.irule_net.specs.declared.state.Asks.{Asks}
use Rattle.irule_net.specs.declared.state.Asks.TheVariants.{NotAsked, Stated}
use Rattle.irule_net.specs.declared.state.Ending.{Ending}
use Rattle.irule_net.specs.declared.state.Ending.TheVariants.{Rejects, Closes}
use Rattle.irule_net.specs.declared.state.Selected.{Selected}
use Rattle.conn_trace.specs.Host.{HostState, http_of, speaks_http}
use Rattle.conn_trace.specs.State.{Phase, Choosing, Finishing, Draining, Link, Absent, Asked}
use Rattle.conn_trace.specs.State.{Up, GivenUp}
use Rattle.conn_trace.specs.Places.{Place, place, is_up, is_closing, begun, bodies_left}
use Rattle.conn_trace.specs.Routing.{behind_accepted}
use Rattle.conn_trace.specs.Places.{closed_client, closed, connecting, behind_data}
use Rattle.conn_trace.specs.Routing.{behind_connected}
use Rattle.conn_trace.specs.Places.{unless_ended, after_event, entered, enter}
use Rattle.conn_trace.specs.Routing.{behind_failed, next_request, is_left, routed}
use Rattle.conn_trace.specs.Places.{next_body}
use Rattle.conn_trace.specs.Routing.{gathering, behind_asked, behind_told, behind_answer}
use Rattle.conn_trace.specs.Routing.{behind_request, behind_request_data, behind_response}
use Rattle.conn_trace.specs.Routing.{behind_message, is_spent_link, behind_retired}
use Rattle.conn_trace.specs.Places.{giving_up}
use Rattle.conn_trace.specs.Routing.{behind_accept, behind_connect}
use Rattle.conn_trace.specs.Http.{client_goes_on, wanted_more}
use Rattle.irule_http.specs.State.{expects_by}
use Rattle.conn_trace.specs.Item.{Closed}
use Rattle.conn_trace.specs.State.{AtHead, Gathering, AtReuse, GivingUp, Retiring, Heading, Dropping, Behind, BeforeSelect, BehindMessage, Left}
use Rattle.conn_trace.specs.Phases.{Leaves, gather_phase, message_phase, left_phase, SideThere}
use Rattle.px_bytes.specs.declared.addr.Side.{Side}
use Rattle.px_bytes.specs.declared.addr.Side.TheVariants.{Client, Server}
use Rattle.event_order.specs.declared.event.EventName.TheVariants.{HttpRequest, HttpRequestData, HttpResponse, HttpResponseData}
use Rattle.std.proofs.Common.{zero, suc}
use Rattle.conn_trace.specs.Phases.{data_name, RunsIn, event_phase, phase_name, Follows, Fits}
use Rattle.conn_trace.specs.Phases.{OrderlyIn}

pub same : (p : Name) → Follows p p
same p = inl refl

pub finishing : (p : Name) → IsTrue (is_live p) → Follows p name.Finish
finishing p live = inr (inr (refl, live))

pub drains : Follows name.Finish name.Drain
drains = inr (inl (0, omega arith, refl))

-- a place is orderly, and follows a phase
pub record PlaceOk (finished : Bool) (link : Link) (from : Name) (p : Place) : Type 0 where
  pub orderly : OrderlyIn p.phase finished link
  pub follows : Follows from (phase_name p.phase finished link)

pub closed_client_ok : (g : Setup) (link : Link) (h : HostState) → PlaceOk true link name.Finish (closed_client g link h)
closed_client_ok g link h = by_handlers (g.handlers ClientClosed) where
  by_handlers : (bs : List Handler) → PlaceOk true link name.Finish (bodies_left ClientClosed bs (begun ClientClosed link h) (place Draining (begun ClientClosed link h)))
  by_handlers [] = record { orderly = refl; follows = drains }
  by_handlers (b ∷ bs) = record { orderly = (refl, (tt, tt)); follows = same name.Finish }

server_closed_ok : (g : Setup) (link : Link) (h h' : HostState) (bs : List Handler) → PlaceOk true link name.Finish (bodies_left ServerClosed bs h' (closed_client g link h))
server_closed_ok g link h h' [] = closed_client_ok g link h
server_closed_ok g link h h' (b ∷ bs) = record { orderly = (tt, (tt, tt)); follows = same name.Finish }

pub closed_ok : (g : Setup) (link : Link) (h : HostState) → PlaceOk true link name.Finish (closed g link h)
closed_ok g Absent h = closed_client_ok g Absent h
closed_ok g Asked h = server_closed_ok g Asked h (begun ServerClosed Asked h) (g.handlers ServerClosed)
closed_ok g Up h = server_closed_ok g Up h (begun ServerClosed Up h) (g.handlers ServerClosed)
closed_ok g (Left b) h = closed_client_ok g (Left b) h
closed_ok g GivenUp h = closed_client_ok g GivenUp h

unless_ok : (link : Link) (from : Name) (phase : Phase) (h : HostState) (ends : Option Ending) → IsTrue (is_live from) → PlaceOk false link from (place phase h)
    → PlaceOk false link from (place (unless_ended ends phase) h)
unless_ok link from phase h None live ok = ok
unless_ok link from phase h (Some Rejects) live ok = record { orderly = refl; follows = finishing from live }
unless_ok link from phase h (Some Closes) live ok = record { orderly = refl; follows = finishing from live }

accepted_ok : (link : Link) (h : HostState) (asks : Asks) → is_up link ≡ false → PlaceOk false link name.Accepted (place (behind_accepted asks) h)
accepted_ok link h NotAsked fits = record { orderly = (refl, fits); follows = inr (inl (1, omega arith, refl)) }
accepted_ok link h (Stated n) fits = record { orderly = (refl, fits); follows = inr (inl (0, omega arith, refl)) }

data_ok : (link : Link) (h : HostState) (out : Bool) → PlaceOk false link (data_name link) (place (behind_data link out) h)
data_ok Up h out = record { orderly = (refl, refl); follows = same name.Relay }
data_ok Absent h true = record { orderly = (refl, refl); follows = inr (inl (1, omega arith, refl)) }
data_ok Absent h false = record { orderly = (refl, refl); follows = same name.Collect }
data_ok Asked h true = record { orderly = (refl, refl); follows = inr (inl (1, omega arith, refl)) }
data_ok Asked h false = record { orderly = (refl, refl); follows = same name.Collect }
data_ok (Left b) h true = record { orderly = (refl, refl); follows = inr (inl (1, omega arith, refl)) }
data_ok (Left b) h false = record { orderly = (refl, refl); follows = same name.Collect }
data_ok GivenUp h true = record { orderly = (refl, refl); follows = inr (inl (1, omega arith, refl)) }
data_ok GivenUp h false = record { orderly = (refl, refl); follows = same name.Collect }

connecting_ok : (link : Link) (h : HostState) (a : Option Selected) → is_up link ≡ false → PlaceOk false link name.Select (place (connecting a) h)
connecting_ok link h None down = record { orderly = refl; follows = finishing name.Select refl }
connecting_ok link h (Some a) down = record { orderly = (refl, down); follows = inr (inl (0, omega arith, refl)) }

failed_ok : (link : Link) (h : HostState) (again : Bool) → is_up link ≡ false → PlaceOk false link name.Select (place (if again then Choosing else Finishing Unselected) h)
failed_ok link h true down = record { orderly = (refl, down); follows = same name.Select }
failed_ok link h false down = record { orderly = refl; follows = finishing name.Select refl }

unserved_ok : (link : Link) (h : HostState) (answer : Option Bool) → is_up link ≡ false → PlaceOk false link name.Select (place (behind_failed answer h) h)
unserved_ok link h None down = failed_ok link h h.net.wishes.reselects down
unserved_ok link h (Some closing) down = record { orderly = refl; follows = inr (inl (2, omega arith, refl)) }

-- ---- HTTP

-- a place that follows one phase by its row
leads : (link : Link) (from : Name) (phase : Phase) (h : HostState) → OrderlyIn phase false link → Follows from (phase_name phase false link) → PlaceOk false link from (place phase h)
leads link from phase h orderly follows = record { orderly = orderly; follows = follows }

-- the next request, or the end, behind a message
pub next_request_ok : (link : Link) (from : Name) (h k : HostState) → Follows from name.Request → Follows from name.Finish → PlaceOk false link from (place (next_request h) k)
next_request_ok link from h k request finish = by_test (client_goes_on (http_of h))
  where
    by_test : (b : Bool) → PlaceOk false link from (place (if b then AtHead else Finishing Closed) k)
    by_test true = record { orderly = refl; follows = request }
    by_test false = record { orderly = refl; follows = finish }

-- a request goes on to its server
pub record Routes (from : Name) : Type 0 where
  pub select : Follows from name.Select
  pub reuse : Follows from name.Reuse

routed_ok : (link : Link) (from : Name) (h k : HostState) → Routes from → PlaceOk false link from (place (routed link h) k)
routed_ok Up from h k to = by_test (is_left h)
  where
    by_test : (b : Bool) → PlaceOk false Up from (place (if b then GivingUp BeforeSelect else AtReuse) k)
    by_test true = record { orderly = (refl, refl); follows = to.select }
    by_test false = record { orderly = (refl, refl); follows = to.reuse }
routed_ok Absent from h k to = record { orderly = (refl, refl); follows = to.select }
routed_ok Asked from h k to = record { orderly = (refl, refl); follows = to.select }
routed_ok (Left b) from h k to = record { orderly = (refl, refl); follows = to.select }
routed_ok GivenUp from h k to = record { orderly = (refl, refl); follows = to.select }

gathering_ok : (link : Link) (from : Name) (side : Side) (n : ℕ) (h k : HostState) (other : Phase) → SideThere side link → Follows from (gather_phase side) → PlaceOk false link from (place other k)
    → PlaceOk false link from (place (gathering side n h other) k)
gathering_ok link from side zero h k other there gathers ok = ok
gathering_ok link from side (suc n) h k other there gathers ok = record { orderly = (refl, there); follows = gathers }

pub asked_ok : (link : Link) (from : Name) (h k : HostState) → Routes from → Follows from name.Gather → PlaceOk false link from (place (behind_asked link h) k)
asked_ok link from h k to gathers = gathering_ok link from Client (wanted_more (http_of h)) h k (routed link h) tt gathers (routed_ok link from h k to)

of_request : Routes name.Request
of_request = record { select = inr (inl (2, omega arith, refl)); reuse = inr (inl (3, omega arith, refl)) }

of_gather : Routes name.Gather
of_gather = record { select = inr (inl (2, omega arith, refl)); reuse = inr (inl (3, omega arith, refl)) }

pub told_ok : (link : Link) (h k : HostState) → PlaceOk false link name.Request (place (behind_asked link h) k)
told_ok link h k = asked_ok link name.Request h k of_request (inr (inl (0, omega arith, refl)))

request_ok : (link : Link) (h : HostState) (answer : Option Bool) → PlaceOk false link name.Request (place (behind_request answer link h) h)
request_ok link h (Some closing) = by_expects (expects_by (http_of h).came)
  where
    by_expects : (b : Bool) → PlaceOk false link name.Request (place (behind_answer b h) h)
    by_expects true = record { orderly = refl; follows = finishing name.Request refl }
    by_expects false = record { orderly = refl; follows = inr (inl (1, omega arith, refl)) }
request_ok link h None = by_expects (expects_by (http_of h).came)
  where
    by_expects : (b : Bool) → PlaceOk false link name.Request (place (behind_told b link h) h)
    by_expects true = record { orderly = refl; follows = same name.Request }
    by_expects false = told_ok link h h

request_data_ok : (link : Link) (h : HostState) (answer : Option Bool) → PlaceOk false link name.Gather (place (behind_request_data answer link h) h)
request_data_ok link h (Some closing) = record { orderly = refl; follows = inr (inl (1, omega arith, refl)) }
request_data_ok link h None = asked_ok link name.Gather h h of_gather (same name.Gather)

response_ok : (link : Link) (h : HostState) (answer : Option Bool) → is_up link ≡ true → PlaceOk false link name.Response (place (behind_response answer h) h)
response_ok link h (Some closing) up = record { orderly = (refl, up); follows = same name.Response }
response_ok link h None up = gathering_ok link name.Response Server (wanted_more (http_of h)) h h (Heading Server) up (same name.Response) (record { orderly = (refl, up); follows = same name.Response })

-- behind a message that was sent on whole
pub message_ok : (side : Side) (link : Link) (h k : HostState) → is_up link ≡ true → PlaceOk false link (message_phase side) (place (behind_message side h) k)
message_ok Client link h k up = record { orderly = (refl, up); follows = inr (inl (0, omega arith, refl)) }
message_ok Server link h k up = by_test (is_spent_link h)
  where
    by_test : (b : Bool) → PlaceOk false link name.Response (place (if b then GivingUp BehindMessage else next_request h) k)
    by_test true = record { orderly = (refl, up); follows = same name.Response }
    by_test false = next_request_ok link name.Response h k (inr (inl (0, omega arith, refl))) (finishing name.Response refl)

-- the closing event of a server connection that is given up
pub giving_up_ok : (g : Setup) (b : Behind) (h : HostState) → PlaceOk false (Left b) (left_phase b) (giving_up g b h)
giving_up_ok g b h = by_bodies (g.handlers ServerClosed)
  where
    by_bodies : (bs : List Handler) → PlaceOk false (Left b) (left_phase b) (bodies_left ServerClosed bs (begun ServerClosed (Left b) h) (place (Retiring b) (begun ServerClosed (Left b) h)))
    by_bodies [] = record { orderly = (refl, refl); follows = same (left_phase b) }
    by_bodies (body ∷ bs) = record { orderly = (tt, (tt, refl)); follows = same (left_phase b) }

pub retired_ok : (b : Behind) (link : Link) (h k : HostState) → is_up link ≡ false → PlaceOk false link (left_phase b) (place (behind_retired b h) k)
retired_ok BeforeSelect link h k down = record { orderly = (refl, down); follows = same name.Select }
retired_ok BehindMessage link h k down = next_request_ok link name.Response h k (inr (inl (0, omega arith, refl))) (finishing name.Response refl)

released_ok : (link : Link) (h : HostState) (loose : List ℕ) → is_up link ≡ true → PlaceOk false link name.Connect (place (behind_connected loose) h)
released_ok link h [] fits = record { orderly = (refl, fits); follows = inr (inl (0, omega arith, refl)) }
released_ok link h (b ∷ bs) fits = record { orderly = (refl, fits); follows = inr (inl (0, omega arith, refl)) }

accept_ok : (link : Link) (h : HostState) (http : Bool) → is_up link ≡ false → PlaceOk false link name.Accepted (place (behind_accept http h) h)
accept_ok link h true fits = record { orderly = refl; follows = inr (inl (2, omega arith, refl)) }
accept_ok link h false fits = accepted_ok link h h.net.client.asks fits

connected_ok : (link : Link) (h : HostState) (http : Bool) → is_up link ≡ true → PlaceOk false link name.Connect (place (behind_connect http h) h)
connected_ok link h true fits = record { orderly = (refl, fits); follows = inr (inl (1, omega arith, refl)) }
connected_ok link h false fits = released_ok link h h.net.loose fits

-- where the bodies of an event lead
after_open : (g : Setup) (e : EventName) (link : Link) (h : HostState) → RunsIn e false → Fits e link → Leaves e false link → PlaceOk false link (event_phase e false link) (after_event g e false link h)
after_open g ServerClosed (Left b) h runs fits leaves = record { orderly = (refl, refl); follows = same (left_phase b) }
after_open g ServerClosed Absent h runs fits leaves = absurd (true≢false (sym leaves))
after_open g ServerClosed Asked h runs fits leaves = absurd (true≢false (sym leaves))
after_open g ServerClosed Up h runs fits leaves = absurd (true≢false (sym leaves))
after_open g ServerClosed GivenUp h runs fits leaves = absurd (true≢false (sym leaves))
after_open g ClientClosed link h runs fits leaves = absurd (true≢false (sym runs))
after_open g ClientAccepted link h runs fits leaves = unless_ok link name.Accepted _ h h.net.wishes.ends refl (accept_ok link h (speaks_http h) fits)
after_open g ClientData Up h runs fits leaves = unless_ok Up name.Relay _ h h.net.wishes.ends refl (data_ok Up h h.net.wishes.released)
after_open g ClientData Absent h runs fits leaves = unless_ok Absent name.Collect _ h h.net.wishes.ends refl (data_ok Absent h h.net.wishes.released)
after_open g ClientData Asked h runs fits leaves = unless_ok Asked name.Collect _ h h.net.wishes.ends refl (data_ok Asked h h.net.wishes.released)
after_open g ClientData (Left b) h runs fits leaves = unless_ok (Left b) name.Collect _ h h.net.wishes.ends refl (data_ok (Left b) h h.net.wishes.released)
after_open g ClientData GivenUp h runs fits leaves = unless_ok GivenUp name.Collect _ h h.net.wishes.ends refl (data_ok GivenUp h h.net.wishes.released)
after_open g LbSelected link h runs fits leaves = unless_ok link name.Select _ h h.net.wishes.ends refl (connecting_ok link h h.net.selected fits)
after_open g LbFailed link h runs fits leaves = unless_ok link name.Select _ h h.net.wishes.ends refl (unserved_ok link h (http_of h).answer fits)
after_open g ServerConnected link h runs fits leaves = unless_ok link name.Connect _ h h.net.wishes.ends refl (connected_ok link h (speaks_http h) fits)
after_open g HttpRequest link h runs fits leaves = unless_ok link name.Request _ h h.net.wishes.ends refl (request_ok link h (http_of h).answer)
after_open g HttpRequestData link h runs fits leaves = unless_ok link name.Gather _ h h.net.wishes.ends refl (request_data_ok link h (http_of h).answer)
after_open g HttpResponse link h runs fits leaves = unless_ok link name.Response _ h h.net.wishes.ends refl (response_ok link h (http_of h).answer fits)
after_open g HttpResponseData link h runs fits leaves = unless_ok link name.Response _ h h.net.wishes.ends refl (response_ok link h (http_of h).answer fits)
after_open g ServerData link h runs fits leaves = unless_ok link name.Relay _ h h.net.wishes.ends refl (record { orderly = (refl, fits); follows = same name.Relay })
after_open g other link h runs fits leaves = unless_ok link name.Accepted _ h h.net.wishes.ends refl (record { orderly = refl; follows = finishing name.Accepted refl })

after_finish : (g : Setup) (e : EventName) (link : Link) (h : HostState) → RunsIn e true → PlaceOk true link (event_phase e true link) (after_event g e true link h)
after_finish g ServerClosed link h runs = closed_client_ok g link h
after_finish g ClientClosed link h runs = record { orderly = refl; follows = drains }
after_finish g other link h runs = absurd (true≢false runs)

after_ok : (g : Setup) (e : EventName) (finished : Bool) (link : Link) (h : HostState) → RunsIn e finished → Fits e link → Leaves e finished link → PlaceOk finished link (event_phase e finished link) (after_event g e finished link h)
after_ok g e true link h runs fits leaves = after_finish g e link h runs
after_ok g e false link h runs fits leaves = after_open g e link h runs fits leaves

-- where the next body begins, or the event ends
pub next_body_ok : (g : Setup) (e : EventName) (finished : Bool) (link : Link) (bs : List Handler) (h : HostState) → RunsIn e finished → Fits e link → Leaves e finished link → PlaceOk finished link (event_phase e finished link) (next_body g e finished link bs h)
next_body_ok g e finished link [] h runs fits leaves = after_ok g e finished link h runs fits leaves
next_body_ok g e finished link (b ∷ bs) h runs fits leaves = record { orderly = (runs, (fits, leaves)); follows = same (event_phase e finished link) }

-- an event that isn't a closing one runs before the connection has finished
pub runs_open : (e : EventName) → is_closing e ≡ false → RunsIn e false
runs_open ServerClosed is = tt
runs_open ClientClosed is = absurd (true≢false is)
runs_open other is = refl

pub runs_false : (e : EventName) (finished : Bool) → is_closing e ≡ false → RunsIn e finished → finished ≡ false
runs_false ServerClosed finished is runs = absurd (true≢false is)
runs_false ClientClosed finished is runs = absurd (true≢false is)
runs_false other finished is runs = runs

-- an event that isn't a closing one leaves nothing
pub stays : (e : EventName) (finished : Bool) (link : Link) → is_closing e ≡ false → Leaves e finished link
stays ServerClosed finished link is = absurd (true≢false is)
stays e finished link is = tt

enter_by : (g : Setup) (e : EventName) (link : Link) (bs : List Handler) (h : HostState) → is_closing e ≡ false → Fits e link → PlaceOk false link (event_phase e false link) (entered g e link bs h)
enter_by g e link [] h open_event fits = after_open g e link h (runs_open e open_event) fits (stays e false link open_event)
enter_by g e link (b ∷ bs) h open_event fits = record { orderly = (refl, open_event, fits); follows = same (event_phase e false link) }

-- where an event is entered
pub enter_ok : (g : Setup) (e : EventName) (link : Link) (h : HostState) → is_closing e ≡ false → Fits e link → PlaceOk false link (event_phase e false link) (enter g e link h)
enter_ok g e link h open_event fits = enter_by g e link (g.handlers e) (begun e link h) open_event fits

-- a connection that was refused: LB_FAILED
pub refused_ok : (g : Setup) (h : HostState) → PlaceOk false Absent name.Connect (enter g LbFailed Absent h)
refused_ok g h = by_handlers (g.handlers LbFailed) where
  by_answer : (answer : Option Bool) → PlaceOk false Absent name.Connect (place (behind_failed answer (begun LbFailed Absent h)) (begun LbFailed Absent h))
  by_answer None = record { orderly = refl; follows = finishing name.Connect refl }
  by_answer (Some closing) = record { orderly = refl; follows = inr (inl (4, omega arith, refl)) }

  by_handlers : (bs : List Handler) → PlaceOk false Absent name.Connect (entered g LbFailed Absent bs (begun LbFailed Absent h))
  by_handlers [] = by_answer (http_of (begun LbFailed Absent h)).answer
  by_handlers (b ∷ bs) = record { orderly = (refl, refl, refl); follows = inr (inl (3, omega arith, refl)) }
