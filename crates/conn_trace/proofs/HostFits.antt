-- What is held of each side fits, in each event and behind its bodies, and what they send and release is within their limits.
use Rattle.std.proofs.Common.{◌≡◌, refl, sym, ap, subst, ◌∙◌, ℕ, ◌+◌, ◌≤◌, List, [], length, Bool, true, false, true≢false, if◌then◌else◌, Option, Some, None, option_map, arith, length-append}
use Rattle.px_bytes.specs.Host.{Effect}
use Rattle.px_bytes.specs.declared.addr.Side.{Side}
use Rattle.px_bytes.specs.declared.addr.Side.TheVariants.{Client, Server}
use Rattle.event_order.specs.declared.event.EventName.{EventName}
use Rattle.event_order.specs.declared.event.EventName.TheVariants.{ClientClosed, ServerClosed}
use Rattle.rule_model.specs.Laws.{state_after}
use Rattle.irule_net.specs.Laws.{Fits, sent_to}
use Rattle.irule_net.specs.State as network
use Rattle.irule_net.specs.State.{asked_bytes, collected, hold_limit, other, respond_limit, side_of}
use Rattle.irule_net.specs.declared.state.Asks.TheVariants.{Stated}
use Rattle.irule_net.specs.declared.state.NetState.{NetState}
use Rattle.irule_net.specs.declared.state.Selected.{Selected}
use Rattle.irule_net.specs.declared.state.Target.{Target}
use Rattle.irule_http.specs.State.{no_http}
use Rattle.irule_http.specs.declared.state.Http.{Http}
use Rattle.conn_trace.specs.Bodies.{run_body}
use Rattle.conn_trace.specs.Host.{HostState, first_host, host_table, with_selected, with_loose, http_known, http_of}
use Rattle.conn_trace.specs.Routing.{chosen}
use Rattle.conn_trace.specs.Places.{begun, http_begun, is_closing}
use Rattle.conn_trace.specs.Relay.{fired_host}
use Rattle.conn_trace.specs.Setup.{Handler, Setup}
use Rattle.conn_trace.specs.State.{Link, TraceState}
use Rattle.conn_trace.proofs.BodyKeeps.{acts_bytes, body_holds}
use Rattle.irule_http.specs.Payload.{payload_limit}
use Rattle.irule_http.specs.declared.state.Request.{Request}
use Rattle.irule_http.specs.declared.state.Response.{Response}
use Rattle.http_frames.specs.declared.state.BodyState.{BodyState}
use Rattle.conn_trace.specs.Http.{with_gathered, with_whole}
use Rattle.conn_trace.specs.Messages.{request_host, response_host, http_at}
use Rattle.conn_trace.specs.Trace.{served_by, serving}
use Rattle.irule_http.specs.Laws.{HeadsWithin, RequestWithin, ResponseWithin}
use Rattle.conn_trace.specs.Bounds.{read_limit}
use Rattle.conn_trace.proofs.HostKeeps.{Commands, credited, flows, left, made}
use Rattle.conn_trace.proofs.HttpKeeps.{table_leaves}

-- ---- the host's state

-- In the event that runs the held bytes of its side, those that were let go and those that its collect asks
-- for fit together; so they do of both sides as another one begins.
pub record HostFits (h : HostState) : Type 0 where
  pub sent : h.net.wishes.sent ≤ respond_limit
  pub made : (http_of h).made ≤ respond_limit
  pub own : Fits (side_of h.event) h.net
  pub begins : (side : Side) → Fits side (network.begun h.net)
  pub payload : length (http_of h).payload ≤ payload_limit
  pub heads : HeadsWithin read_limit (http_of h)

-- what is known of messages fits
record KnownFits (o : Option Http) : Type 0 where
  made : (http_known o).made ≤ respond_limit
  payload : length (http_known o).payload ≤ payload_limit
  heads : HeadsWithin read_limit (http_known o)

known_fits : (h : HostState) → HostFits h → KnownFits h.http
known_fits h u = record { made = u.made; payload = u.payload; heads = u.heads }

-- as an event begins nothing is made yet
begun_known : (net : NetState) (o : Option Http) → KnownFits o → KnownFits (option_map (http_begun net) o)
begun_known net None k = k
begun_known net (Some http) k = record { made = omega arith; payload = k.payload; heads = record { request = k.heads.request; response = k.heads.response } }

served_known : (target : Target) (o : Option Http) → KnownFits o → KnownFits (option_map (served_by target) o)
served_known target None k = k
served_known target (Some http) k = record { made = k.made; payload = k.payload; heads = record { request = k.heads.request; response = k.heads.response } }

begun_fit : (side : Side) (s : NetState) → Fits side s → Fits side (network.begun s)
begun_fit Client s f = omega (arith, f)
begun_fit Server s f = omega (arith, f)

relays_fit : (side : Side) (s : NetState) (relays : Bool) → Fits side s → Fits side (record s { relays = relays })
relays_fit Client s relays f = f
relays_fit Server s relays f = f

pub first_fits : (g : Setup) → HostFits (first_host g)
first_fits g = record { sent = omega arith; own = omega arith; made = knows.made; begins = none; payload = knows.payload; heads = knows.heads }
  where
    knows : KnownFits (if g.http then Some no_http else None)
    knows = by_http g.http
      where
        none_known : KnownFits None
        none_known = record { made = omega arith; payload = omega arith; heads = record { request = tt; response = tt } }

        by_http : (b : Bool) → KnownFits (if b then Some no_http else None)
        by_http true = record { made = omega arith; payload = omega arith; heads = record { request = tt; response = tt } }
        by_http false = none_known

    none : (side : Side) → Fits side (network.begun (first_host g).net)
    none Client = omega arith
    none Server = omega arith

pub begun_fits : (e : EventName) (link : Link) (h : HostState) → HostFits h → HostFits (begun e link h)
begun_fits e link h u = record {
  sent = omega arith;
  own = relays_fit (side_of e) (network.begun h.net) _ (u.begins (side_of e));
  made = knows.made;
  begins = again;
  payload = knows.payload;
  heads = knows.heads;
}
  where
    knows : KnownFits (begun e link h).http
    knows = begun_known h.net h.http (known_fits h u)

    again : (side : Side) → Fits side (network.begun (begun e link h).net)
    again Client = u.begins Client
    again Server = u.begins Server

pub selected_fits : (s : Option Selected) (h : HostState) → HostFits h → HostFits (with_selected s h)
selected_fits s h u = record { sent = u.sent; own = selected (side_of h.event) u.own; made = u.made; begins = again; payload = u.payload; heads = u.heads }
  where
    selected : (side : Side) → Fits side h.net → Fits side (with_selected s h).net
    selected Client f = f
    selected Server f = f

    again : (side : Side) → Fits side (network.begun (with_selected s h).net)
    again Client = u.begins Client
    again Server = u.begins Server

pub loose_few : (h : HostState) → HostFits h → length h.net.loose ≤ hold_limit
loose_few h u = let f = u.begins Client in omega (arith, f)

pub unloosed_fits : (h : HostState) → HostFits h → HostFits (with_loose [] h)
unloosed_fits h u = record { sent = u.sent; own = less (side_of h.event) u.own; made = u.made; begins = again; payload = u.payload; heads = u.heads }
  where
    less : (side : Side) → Fits side h.net → Fits side (with_loose [] h).net
    less Client f = omega (arith, f)
    less Server f = f

    again : (side : Side) → Fits side (network.begun (with_loose [] h).net)
    again Client = let f = u.begins Client in omega (arith, f)
    again Server = u.begins Server

-- the bytes of a met collect are held, and its event begins
pub fired_fits : (side : Side) (n : ℕ) (bytes : List ℕ) (e : EventName) (link : Link) (h : HostState) → HostFits h → (collected side h.net).asks ≡ Stated n → length bytes ≤ n → HostFits (begun e link (fired_host side bytes h))
fired_fits side n bytes e link h u asks few = record {
  sent = omega arith;
  own = relays_fit (side_of e) (network.begun (fired_host side bytes h).net) _ (held side asks (side_of e));
  made = knows.made;
  begins = again;
  payload = knows.payload;
  heads = knows.heads;
}
  where
    held : (to : Side) → (collected to h.net).asks ≡ Stated n → (side : Side) → Fits side (network.begun (fired_host to bytes h).net)
    held Client e Client = let f = u.begins Client in let a = ap asked_bytes e in let l = length-append h.net.client.held bytes in omega (arith, f, a, l, few)
    held Client e Server = u.begins Server
    held Server e Client = u.begins Client
    held Server e Server = let f = u.begins Server in let a = ap asked_bytes e in let l = length-append h.net.server.held bytes in omega (arith, f, a, l, few)

    knows : KnownFits (begun e link (fired_host side bytes h)).http
    knows = begun_known (fired_host side bytes h).net h.http (known_fits h u)

    again : (to : Side) → Fits to (network.begun (begun e link (fired_host side bytes h)).net)
    again Client = held side asks Client
    again Server = held side asks Server

-- ---- commands

over_fits : (side : Side) (s t : NetState) → Fits side (network.begun t) → collected (other side) t ≡ collected (other side) s → (side ≡ Server → t.loose ≡ s.loose) → ((to : Side) → Fits to (network.begun s)) → (to : Side) → Fits to (network.begun t)
over_fits Client s t own same loose begins Client = own
over_fits Client s t own same loose begins Server =
    let f = begins Server in
    let h = ap (λ c. length c.held) same in
    let a = ap (λ c. asked_bytes c.asks) same in omega (arith, f, h, a)
over_fits Server s t own same loose begins Server = own
over_fits Server s t own same loose begins Client =
    let f = begins Client in
    let h = ap (λ c. length c.held) same in
    let a = ap (λ c. asked_bytes c.asks) same in
    let l = ap length (loose refl) in omega (arith, f, h, a, l)

commands_fit : (h t : HostState) (effects : List Effect) → Commands h t effects → HostFits h → HostFits t
commands_fit h t effects c u = record {
  sent = c.within u.sent;
  made = c.answers u.made;
  own = subst (λ e. Fits (side_of e) t.net) (sym c.event) (c.fits u.own);
  begins = over_fits (side_of h.event) h.net t.net (begun_fit (side_of h.event) t.net (c.fits u.own)) c.others c.loose u.begins;
  payload = c.payload u.payload;
  heads = c.heads read_limit (omega arith) u.heads;
}

-- ---- how much an event sends

abbrev pub credit : EventName → Side → HostState → ℕ
credit e side h = if is_closing e then 0 else credited (side_of e) side h

-- what an event sends by both kinds of commands
abbrev pub sent_limit : ℕ
sent_limit = 2228224

pub credit_few : (side : Side) (h : HostState) → HostFits h → credit h.event side h ≤ sent_limit
credit_few side h u = by_event (is_closing h.event)
  where
    by_side : (own to : Side) → Fits own h.net → credited own to h ≤ sent_limit
    by_side Client Client f = let a = u.sent in let b = u.made in omega (arith, a, b)
    by_side Client Server f = omega (arith, f)
    by_side Server Client f = let b = u.made in omega (arith, f, b)
    by_side Server Server f = let a = u.sent in omega (arith, a)

    by_event : (b : Bool) → (if b then 0 else credited (side_of h.event) side h) ≤ sent_limit
    by_event false = by_side (side_of h.event) side u.own
    by_event true = omega arith

credit_step : (e : EventName) (side : Side) (s t : HostState) (effects : List Effect) → credited (side_of e) side s + sent_to side effects ≤ credited (side_of e) side t
    → (is_closing e ≡ true → sent_to side effects ≡ 0) → credit e side s + sent_to side effects ≤ credit e side t
credit_step e side s t effects more silent = by_event (is_closing e) refl
  where
    by_event : (b : Bool) → is_closing e ≡ b → (if b then 0 else credited (side_of e) side s) + sent_to side effects ≤ (if b then 0 else credited (side_of e) side t)
    by_event false is = more
    by_event true is = let n = silent is in omega (arith, n)

-- behind some commands of a body that began so
record Goes (side : Side) (began h : HostState) (n : ℕ) : Type 0 where
  event : h.event ≡ began.event
  http : h.net.http ≡ began.net.http
  fits : HostFits h
  credits : credit began.event side began + n ≤ credit began.event side h
  silent : is_closing began.event ≡ true → n ≡ 0
  collects : flows began.event began.net.http ≡ false → (to : Side) → collected to h.net ≡ collected to began.net
  others : collected (other (side_of began.event)) h.net ≡ collected (other (side_of began.event)) began.net

command_goes : (side : Side) (began h t : HostState) (effects : List Effect) (n : ℕ) → Commands h t effects → Goes side began h n → Goes side began t (n + sent_to side effects)
command_goes side began h t effects n c k =
    let more = subst (λ e. credited (side_of e) side h + sent_to side effects ≤ credited (side_of e) side t) k.event (c.credits side) in
    let silent = subst (λ e. is_closing e ≡ true → (to : Side) → sent_to to effects ≡ 0) k.event c.silent in
    let outside = subst (λ e. flows e began.net.http ≡ false → (to : Side) → collected to t.net ≡ collected to h.net) k.event (subst (λ b. flows h.event b ≡ false → (to : Side) → collected to t.net ≡ collected to h.net) k.http c.outside) in
    let others = subst (λ e. collected (other (side_of e)) t.net ≡ collected (other (side_of e)) h.net) k.event c.others in
    record {
      event = c.event ∙ k.event;
      http = c.http ∙ k.http;
      fits = commands_fit h t effects c k.fits;
      credits = (let one = credit_step began.event side h t effects more (λ e. silent e side) in let all = k.credits in omega (arith, one, all));
      silent = λ e. (let a = k.silent e in let b = silent e side in omega (arith, a, b));
      collects = λ e to. outside e to ∙ k.collects e to;
      others = others ∙ k.others;
    }

-- what a body leaves of the host's state where it fits
pub record BodyFits (began h : HostState) (sent : Side → ℕ) : Type 0 where
  pub event : h.event ≡ began.event
  pub http : h.net.http ≡ began.net.http
  pub fits : HostFits h
  pub credits : (side : Side) → credit began.event side began + sent side ≤ credit began.event side h
  pub silent : is_closing began.event ≡ true → (side : Side) → sent side ≡ 0
  pub collects : flows began.event began.net.http ≡ false → (to : Side) → collected to h.net ≡ collected to began.net
  pub others : collected (other (side_of began.event)) h.net ≡ collected (other (side_of began.event)) began.net

pub body_fits : (g : Setup) (b : Handler) (l : TraceState) → HostFits l.host → BodyFits l.host (state_after (run_body g b l)).host (λ side. acts_bytes side (state_after (run_body g b l)).acts)
body_fits g b l u = record {
  event = (goes Client).event;
  http = (goes Client).http;
  fits = (goes Client).fits;
  credits = λ side. (goes side).credits;
  silent = λ e side. (goes side).silent e;
  collects = (goes Client).collects;
  others = (goes Client).others;
}
  where
    began : (side : Side) → Goes side l.host l.host 0
    began side = record { event = refl; http = refl; fits = u; credits = omega arith; silent = λ e. refl; collects = λ e to. refl; others = refl }

    goes : (side : Side) → Goes side l.host (state_after (run_body g b l)).host (acts_bytes side (state_after (run_body g b l)).acts)
    goes side =
        body_holds side (Goes side l.host) g b (λ h words n k. command_goes side l.host h (left (host_table g h words)) (made (host_table g h words)) n (table_leaves g h words) k) l (began side)

-- a request and a response begin
pub request_fits : (r : Request) (h : HostState) → RequestWithin read_limit (Some r.head) → HostFits h → HostFits (request_host r h)
request_fits r h few u = record { sent = omega arith; made = omega arith; heads = record { request = few; response = tt }; own = emptied (side_of h.event) (u.begins (side_of h.event)); begins = again; payload = omega arith }
  where
    emptied : (side : Side) → Fits side (network.begun h.net) → Fits side (request_host r h).net
    emptied Client f = f
    emptied Server f = f

    again : (side : Side) → Fits side (network.begun (request_host r h).net)
    again Client = u.begins Client
    again Server = u.begins Server

pub response_fits : (r : Response) (h : HostState) → ResponseWithin read_limit (Some r.head) → HostFits h → HostFits (response_host r h)
response_fits r h few u = record { sent = omega arith; made = u.made; heads = record { request = u.heads.request; response = few }; own = u.begins (side_of h.event); begins = again; payload = omega arith }
  where
    again : (side : Side) → Fits side (network.begun (response_host r h).net)
    again Client = u.begins Client
    again Server = u.begins Server

-- bytes are gathered, and the body may be whole then
pub gather_fits : (bytes : List ℕ) (s : BodyState) (h : HostState) → length (http_of h).payload + length bytes ≤ payload_limit → HostFits h
    → HostFits (http_at (with_gathered bytes s (http_of h)) h)
gather_fits bytes s h few u = record {
  sent = u.sent;
  made = u.made;
  own = u.own;
  begins = u.begins;
  payload = omega (arith, few, length-append (http_of h).payload bytes);
  heads = record { request = u.heads.request; response = u.heads.response };
}

pub whole_fits : (h : HostState) → HostFits h → HostFits (http_at (with_whole (http_of h)) h)
whole_fits h u = record { sent = u.sent; made = u.made; own = u.own; begins = u.begins; payload = u.payload; heads = record { request = u.heads.request; response = u.heads.response } }

-- the choice by which a server was made
pub serving_fits : (h : HostState) → HostFits h → HostFits (serving h)
serving_fits h u =
    let k = served_known (chosen h) h.http (known_fits h u) in
    record { sent = u.sent; made = k.made; own = u.own; begins = u.begins; payload = k.payload; heads = k.heads }
