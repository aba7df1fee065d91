-- Behind an event or a message no answer of a server is awaited, rules are told of a server connection only where one is up, and one is being given up only where its closing event runs.
use Rattle.std.proofs.Common.{◌≡◌, refl, sym, ◌∙◌, ℕ, zero, suc, List, [], ◌∷◌, Bool, true, false, true≢false, if◌then◌else◌, Option, Some, None}
use Rattle.px_bytes.specs.declared.addr.Side.{Side}
use Rattle.px_bytes.specs.declared.addr.Side.TheVariants.{Client, Server}
use Rattle.px_bytes.specs.declared.fault.FaultKind.{FaultKind}
use Rattle.px_bytes.specs.declared.fault.TclFault.{TclFault}
use Rattle.event_order.specs.declared.event.EventName.{EventName}
use Rattle.event_order.specs.declared.event.EventName.TheVariants.{ClientAccepted, ClientData, ClientClosed, ServerConnected, ServerClosed, LbSelected, LbFailed, HttpRequest, HttpRequestData, HttpResponse, HttpResponseData}
use Rattle.irule_net.specs.declared.state.Asks.{Asks}
use Rattle.irule_net.specs.declared.state.Asks.TheVariants.{NotAsked, Stated}
use Rattle.irule_net.specs.declared.state.Ending.{Ending}
use Rattle.irule_net.specs.declared.state.Ending.TheVariants.{Rejects, Closes}
use Rattle.irule_net.specs.declared.state.Selected.{Selected}
use Rattle.irule_http.specs.State.{expects_by}
use Rattle.conn_trace.specs.Host.{HostState, http_of, speaks_http}
use Rattle.conn_trace.specs.Http.{client_goes_on, wanted_more}
use Rattle.conn_trace.specs.Item.{Closed, Tcl, Unselected}
use Rattle.conn_trace.specs.Messages.{behind_head}
use Rattle.conn_trace.specs.Phases.{is_leaving}
use Rattle.conn_trace.specs.Places.{Place, place, is_closing, is_up, begun, bodies_left, closed_client, closed, connecting, behind_data, giving_up, goes_on, unless_ended, after_event, after_fault, after_body, entered, enter, next_body}
use Rattle.conn_trace.specs.Routing.{behind_accept, behind_accepted, behind_answer, behind_asked, behind_connect, behind_connected, behind_failed, behind_message, behind_request, behind_request_data, behind_response, behind_retired, behind_told, gathering, is_left, is_spent_link, next_request, routed}
use Rattle.conn_trace.specs.Setup.{Handler, Setup}
use Rattle.conn_trace.specs.State.{Phase, Behind, BeforeSelect, BehindMessage, AtHead, AtReuse, GivingUp, Retiring, Heading, InEvent, Choosing, Answering, Collecting, Finishing, Draining, Link, Absent, Asked, Up, Left, GivenUp}
use Rattle.proxy_core.specs.Servers.{awaits}

pub never : {A : Type 0} → false ≡ true → A
never e = absurd (true≢false (sym e))

-- no bodies run, and no answer is awaited
abbrev pub is_calm : Phase → Bool
is_calm (InEvent e bodies) = false
is_calm (Answering a) = false
is_calm other = true

pub calm_waits : (p : Phase) → is_calm p ≡ true → awaits p ≡ false
calm_waits (Answering a) e = never e
calm_waits other e = refl

either : (b : Bool) (p q : Phase) → is_calm p ≡ true → is_calm q ≡ true → is_calm (if b then p else q) ≡ true
either true p q e f = e
either false p q e f = f

ended_calm : (o : Option Ending) (p : Phase) → is_calm p ≡ true → is_calm (unless_ended o p) ≡ true
ended_calm None p e = e
ended_calm (Some Rejects) p e = refl
ended_calm (Some Closes) p e = refl

data_calm : (k : Link) (released : Bool) → is_calm (behind_data k released) ≡ true
data_calm Up r = refl
data_calm Absent r = either r Choosing Collecting refl refl
data_calm Asked r = either r Choosing Collecting refl refl
data_calm (Left b) r = either r Choosing Collecting refl refl
data_calm GivenUp r = either r Choosing Collecting refl refl

accepted_calm : (a : Asks) → is_calm (behind_accepted a) ≡ true
accepted_calm NotAsked = refl
accepted_calm (Stated n) = refl

accept_calm : (http : Bool) (h : HostState) → is_calm (behind_accept http h) ≡ true
accept_calm true h = refl
accept_calm false h = accepted_calm h.net.client.asks

connected_calm : (loose : List ℕ) → is_calm (behind_connected loose) ≡ true
connected_calm [] = refl
connected_calm (b ∷ bs) = refl

connect_calm : (http : Bool) (h : HostState) → is_calm (behind_connect http h) ≡ true
connect_calm true h = refl
connect_calm false h = connected_calm h.net.loose

selected_calm : (o : Option Selected) → is_calm (connecting o) ≡ true
selected_calm None = refl
selected_calm (Some s) = refl

failed_calm : (answer : Option Bool) (h : HostState) → is_calm (behind_failed answer h) ≡ true
failed_calm (Some closing) h = refl
failed_calm None h = either h.net.wishes.reselects Choosing (Finishing Unselected) refl refl

routed_calm : (k : Link) (h : HostState) → is_calm (routed k h) ≡ true
routed_calm Up h = either (is_left h) (GivingUp BeforeSelect) AtReuse refl refl
routed_calm Absent h = refl
routed_calm Asked h = refl
routed_calm (Left b) h = refl
routed_calm GivenUp h = refl

gathering_calm : (side : Side) (n : ℕ) (h : HostState) (p : Phase) → is_calm p ≡ true → is_calm (gathering side n h p) ≡ true
gathering_calm side zero h p e = e
gathering_calm side (suc n) h p e = refl

pub asked_calm : (k : Link) (h : HostState) → is_calm (behind_asked k h) ≡ true
asked_calm k h = gathering_calm Client (wanted_more (http_of h)) h (routed k h) (routed_calm k h)

told_calm : (expects : Bool) (k : Link) (h : HostState) → is_calm (behind_told expects k h) ≡ true
told_calm true k h = refl
told_calm false k h = asked_calm k h

answer_calm : (expects : Bool) (h : HostState) → is_calm (behind_answer expects h) ≡ true
answer_calm true h = refl
answer_calm false h = refl

request_calm : (answer : Option Bool) (k : Link) (h : HostState) → is_calm (behind_request answer k h) ≡ true
request_calm (Some closing) k h = answer_calm (expects_by (http_of h).came) h
request_calm None k h = told_calm (expects_by (http_of h).came) k h

request_data_calm : (answer : Option Bool) (k : Link) (h : HostState) → is_calm (behind_request_data answer k h) ≡ true
request_data_calm (Some closing) k h = refl
request_data_calm None k h = asked_calm k h

response_calm : (answer : Option Bool) (h : HostState) → is_calm (behind_response answer h) ≡ true
response_calm (Some closing) h = refl
response_calm None h = gathering_calm Server (wanted_more (http_of h)) h (Heading Server) refl

pub next_calm : (h : HostState) → is_calm (next_request h) ≡ true
next_calm h = either (client_goes_on (http_of h)) AtHead (Finishing Closed) refl refl

pub message_calm : (side : Side) (h : HostState) → is_calm (behind_message side h) ≡ true
message_calm Client h = refl
message_calm Server h = either (is_spent_link h) (GivingUp BehindMessage) (next_request h) refl (next_calm h)

pub head_calm : (side : Side) (h : HostState) (whole : Bool) → is_calm (behind_head side h whole) ≡ true
head_calm side h true = message_calm side h
head_calm side h false = refl

pub retired_calm : (b : Behind) (h : HostState) → is_calm (behind_retired b h) ≡ true
retired_calm BeforeSelect h = refl
retired_calm BehindMessage h = next_calm h

goes_calm : (e : EventName) (k : Link) (h : HostState) → is_calm (goes_on e k h) ≡ true
goes_calm ClientAccepted k h = accept_calm (speaks_http h) h
goes_calm ClientData k h = data_calm k h.net.wishes.released
goes_calm LbSelected k h = selected_calm h.net.selected
goes_calm LbFailed k h = failed_calm (http_of h).answer h
goes_calm ServerConnected k h = connect_calm (speaks_http h) h
goes_calm HttpRequest k h = request_calm (http_of h).answer k h
goes_calm HttpRequestData k h = request_data_calm (http_of h).answer k h
goes_calm HttpResponse k h = response_calm (http_of h).answer h
goes_calm HttpResponseData k h = response_calm (http_of h).answer h
goes_calm other k h = refl

-- ---- where it stands

-- in the bodies of an event the host is in this event
abbrev pub EventIs : Phase → HostState → Type 0
EventIs (InEvent e bodies) h = h.event ≡ e
EventIs other h = Unit {0}

pub calm_event : (p : Phase) (h : HostState) → is_calm p ≡ true → EventIs p h
calm_event (InEvent e bodies) h c = never c
calm_event other h c = tt

-- its rules are told of a server connection
abbrev pub ToldOf : Link → HostState → Type 0
ToldOf k h = h.net.relays ≡ true → is_up k ≡ true

-- a connection that goes on has a server connection that is being given up only here
abbrev pub leaves_in : EventName → Bool
leaves_in ServerClosed = true
leaves_in other = false

abbrev pub leaves : Phase → Bool
leaves (InEvent e bodies) = leaves_in e
leaves (Retiring b) = true
leaves other = false

abbrev pub LeavesThere : (finished : Bool) → Link → Phase → Type 0
LeavesThere f k p = f ≡ false → is_leaving k ≡ true → leaves p ≡ true

-- so elsewhere it has none
abbrev pub Unleft : (finished : Bool) → Link → Type 0
Unleft f k = f ≡ false → is_leaving k ≡ false

pub not_left : (f : Bool) (k : Link) (p : Phase) → LeavesThere f k p → leaves p ≡ false → Unleft f k
not_left f k p h e x = by (is_leaving k) refl
  where
    by : (b : Bool) → is_leaving k ≡ b → is_leaving k ≡ false
    by true y = absurd (true≢false (sym (h x y) ∙ e))
    by false y = y

pub unleft : (f : Bool) (k : Link) (p : Phase) → Unleft f k → LeavesThere f k p
unleft f k p n x y = absurd (true≢false (sym y ∙ n x))

pub record Stands (f : Bool) (k : Link) (q : Place) : Type 0 where
  pub waits : awaits q.phase ≡ false
  pub event : EventIs q.phase q.host
  pub told : ToldOf k q.host
  pub left : LeavesThere f k q.phase

-- between events
pub calm : (f : Bool) (k : Link) (p : Phase) (h : HostState) → is_calm p ≡ true → ToldOf k h → Unleft f k → Stands f k (place p h)
calm f k p h c t n = record { waits = calm_waits p c; event = calm_event p h c; told = t; left = unleft f k p n }

pub client_goes : (g : Setup) (f : Bool) (k : Link) (h : HostState) → f ≡ true → Stands f k (closed_client g k h)
client_goes g f k h over = by_bodies (g.handlers ClientClosed)
  where
    by_bodies : (bs : List Handler) → Stands f k (bodies_left ClientClosed bs (begun ClientClosed k h) (place Draining (begun ClientClosed k h)))
    by_bodies [] = record { waits = refl; event = tt; told = λ r. r; left = λ x y. absurd (true≢false (sym over ∙ x)) }
    by_bodies (b ∷ bs) = record { waits = refl; event = refl; told = λ r. r; left = λ x y. absurd (true≢false (sym over ∙ x)) }

pub closed_goes : (g : Setup) (k : Link) (h : HostState) → Stands true k (closed g k h)
closed_goes g Absent h = client_goes g true Absent h refl
closed_goes g Asked h = by_bodies Asked (g.handlers ServerClosed)
  where
    by_bodies : (k : Link) (bs : List Handler) → Stands true k (bodies_left ServerClosed bs (begun ServerClosed k h) (closed_client g k h))
    by_bodies k [] = client_goes g true k h refl
    by_bodies k (b ∷ bs) = record { waits = refl; event = refl; told = λ r. r; left = λ x y. refl }
closed_goes g Up h = by_bodies Up (g.handlers ServerClosed)
  where
    by_bodies : (k : Link) (bs : List Handler) → Stands true k (bodies_left ServerClosed bs (begun ServerClosed k h) (closed_client g k h))
    by_bodies k [] = client_goes g true k h refl
    by_bodies k (b ∷ bs) = record { waits = refl; event = refl; told = λ r. r; left = λ x y. refl }
closed_goes g (Left b) h = client_goes g true (Left b) h refl
closed_goes g GivenUp h = client_goes g true GivenUp h refl

server_goes : (g : Setup) (f : Bool) (k : Link) (h : HostState) → ToldOf k h → Stands f k (after_event g ServerClosed f k h)
server_goes g true k h t = client_goes g true k h refl
server_goes g false (Left b) h t = record { waits = refl; event = tt; told = t; left = λ x y. refl }
server_goes g false Absent h t = calm false Absent Choosing h refl t (λ x. refl)
server_goes g false Asked h t = calm false Asked Choosing h refl t (λ x. refl)
server_goes g false Up h t = calm false Up Choosing h refl t (λ x. refl)
server_goes g false GivenUp h t = calm false GivenUp Choosing h refl t (λ x. refl)

after : (g : Setup) (e : EventName) (f : Bool) (k : Link) (h : HostState) → ToldOf k h → (f ≡ false → is_leaving k ≡ true → leaves_in e ≡ true) → Stands f k (after_event g e f k h)
after g ServerClosed f k h t n = server_goes g f k h t
after g ClientClosed f k h t n = record { waits = refl; event = tt; told = t; left = λ x y. never (n x y) }
after g other f k h t n =
    let c = ended_calm h.net.wishes.ends (goes_on other k h) (goes_calm other k h) in
    record { waits = calm_waits _ c; event = calm_event _ h c; told = t; left = λ x y. never (n x y) }

pub next_goes : (g : Setup) (e : EventName) (f : Bool) (k : Link) (bs : List Handler) (h : HostState) → h.event ≡ e → ToldOf k h → (f ≡ false → is_leaving k ≡ true → leaves_in e ≡ true) → Stands f k (next_body g e f k bs h)
next_goes g e f k [] h is t n = after g e f k h t n
next_goes g e f k (b ∷ bs) h is t n = record { waits = refl; event = is; told = t; left = n }

pub fault_goes : (g : Setup) (e : EventName) (f : Bool) (k : Link) (kind : FaultKind) (bs : List Handler) (h : HostState) → h.event ≡ e → ToldOf k h → (f ≡ false → is_leaving k ≡ true → leaves_in e ≡ true) → Stands f k (after_fault g e f k kind bs h)
fault_goes g e f k kind bs h is t n = by_closing (is_closing e) refl
  where
    open_event : (e : EventName) → is_closing e ≡ false → leaves_in e ≡ false
    open_event ServerClosed c = absurd (true≢false c)
    open_event other c = refl

    by_closing : (b : Bool) → is_closing e ≡ b → Stands f k (if b then next_body g e f k bs h else place (Finishing (Tcl kind)) h)
    by_closing true c = next_goes g e f k bs h is t n
    by_closing false c = record { waits = refl; event = tt; told = t; left = λ x y. absurd (true≢false (sym (n x y) ∙ open_event e c)) }

pub body_goes : (g : Setup) (e : EventName) (f : Bool) (k : Link) (b : Handler) (bs : List Handler) (fault : Option TclFault) (h : HostState) → h.event ≡ e → ToldOf k h → (f ≡ false → is_leaving k ≡ true → leaves_in e ≡ true) → Stands f k (after_body g e f k b bs fault h)
body_goes g e f k b bs None h is t n = next_goes g e f k bs h is t n
body_goes g e f k b bs (Some fault) h is t n = record { waits = refl; event = is; told = t; left = n }

pub enter_goes : (g : Setup) (e : EventName) (f : Bool) (k : Link) (h : HostState) → is_leaving k ≡ false → Stands f k (enter g e k h)
enter_goes g e f k h n = by_bodies (g.handlers e)
  where
    by_bodies : (bs : List Handler) → Stands f k (entered g e k bs (begun e k h))
    by_bodies [] = (
        let a = after g e false k (begun e k h) (λ r. r) (λ x y. absurd (true≢false (sym y ∙ n))) in
        record { waits = a.waits; event = a.event; told = a.told; left = λ x y. absurd (true≢false (sym y ∙ n)) }
        )
    by_bodies (b ∷ bs) = record { waits = refl; event = refl; told = λ r. r; left = λ x y. absurd (true≢false (sym y ∙ n)) }

pub giving_goes : (g : Setup) (f : Bool) (b : Behind) (h : HostState) → Stands f (Left b) (giving_up g b h)
giving_goes g f b h = by_bodies (g.handlers ServerClosed)
  where
    by_bodies : (bs : List Handler) → Stands f (Left b) (bodies_left ServerClosed bs (begun ServerClosed (Left b) h) (place (Retiring b) (begun ServerClosed (Left b) h)))
    by_bodies [] = record { waits = refl; event = tt; told = λ r. r; left = λ x y. refl }
    by_bodies (x ∷ xs) = record { waits = refl; event = refl; told = λ r. r; left = λ x y. refl }
