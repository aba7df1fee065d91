-- The host of a connection's rules: what its commands see of it, and what is done of what they made.
use Rattle.std.specs.Prelude.{◌≡◌, ℕ, List, [], ◌∷◌, ◌++◌, Bool, true, false, Option, Some, None}
use Rattle.std.specs.Prelude.{is_some, option_map, if◌then◌else◌}
use Rattle.px_bytes.specs.Host.{Effect, Logged, Sent}
use Rattle.px_bytes.specs.declared.addr.Side.{Side}
use Rattle.px_bytes.specs.declared.addr.Side.TheVariants.{Client, Server}
use Rattle.event_order.specs.declared.event.EventName.{EventName}
use Rattle.irule_net.specs.State.{begun, collected, with_collected}
use Rattle.irule_net.specs.declared.state.Asks.TheVariants.{NotAsked}
use Rattle.irule_net.specs.declared.state.NetState.{NetState}
use Rattle.irule_net.specs.declared.state.Selected.{Selected}
use Rattle.irule_http.specs.State.{no_http}
use Rattle.irule_http.specs.declared.state.Http.{Http}
use Rattle.irule_http.specs.declared.state.Request.{Request}
use Rattle.irule_http.specs.declared.state.Response.{Response}
use Rattle.conn_trace.specs.Host.{HostState, http_known}
use Rattle.conn_trace.specs.Http.{request_begun, response_begun}
use Rattle.conn_trace.specs.Places.{http_begun}
use Rattle.conn_trace.specs.Routing.{chosen}
use Rattle.conn_trace.specs.Setup.{Setup}
use Rattle.conn_trace.specs.Trace.{served_by}
use Rattle.core_events.specs.declared.note.Note.{Note}
use Rattle.core_events.specs.declared.note.Note.TheVariants as note
use Rattle.conn.specs.declared.ends.Link.{Link}
use Rattle.conn.specs.declared.events.At.{At}
use Rattle.conn.specs.declared.events.At.TheVariants.{Accepted}
use Rattle.conn.specs.declared.host.RuleHost.{RuleHost}
use Rattle.conn.specs.Ends.{is_up}
use Rattle.conn.specs.Events.{collects_in, event_of}

abbrev pub seen_at : EventName → NetState → Option Http → HostState
seen_at e net http = record { event = e; net = net; http = http }

-- it speaks no HTTP
abbrev pub seen_net : EventName → NetState → HostState
seen_net e net = seen_at e net None

abbrev pub seen_host : RuleHost → HostState
seen_host h = seen_at (event_of h.event) h.net h.http

-- nothing is known yet of a request
abbrev pub fresh_http : (http : Bool) → Option Http
fresh_http http = if http then Some no_http else None

abbrev pub fresh_host : NetState → (http : Bool) → RuleHost
fresh_host net http = record {
  event = Accepted;
  net = net;
  http = fresh_http http;
  made = [];
  answer = None;
}

-- an event begins, where there is a server connection or none
abbrev pub begun_host : At → (up : Bool) → RuleHost → RuleHost
begun_host at up h = record h {
  event = at;
  net = record (begun h.net) { relays = up };
  http = option_map (http_begun h.net) h.http;
}

-- A request begins: of the one before only its number and the server connection's choice are left, and
-- of what rules wished nothing.
abbrev pub requested_host : Request → RuleHost → RuleHost
requested_host r h = record h {
  net = record (begun h.net) { reselects = 0 };
  http = Some (request_begun r (http_known h.http));
}

-- a response begins, and nothing was wished in its events
abbrev pub responded_host : Response → RuleHost → RuleHost
responded_host r h = record h {
  net = begun h.net;
  http = Some (response_begun r (http_known h.http));
}

-- the server connection was made by the choice of the rules
abbrev pub serving_host : RuleHost → RuleHost
serving_host h = record h { http = option_map (served_by (chosen (seen_host h))) h.http }

abbrev pub selected_host : Option Selected → RuleHost → RuleHost
selected_host selected h = record h { net = record h.net { selected = selected } }

-- the first bytes of a side are held, and its collect is over
abbrev pub fired_host : Side → List ℕ → RuleHost → RuleHost
fired_host side bytes h = record h {
  net = with_collected side
      (record { asks = NotAsked; held = (collected side h.net).held ++ bytes }) h.net;
}

-- no released bytes wait for the server any more
abbrev pub released_host : RuleHost → RuleHost
released_host h = record h { net = record h.net { loose = [] } }

-- the same with nothing left to be done
abbrev pub cleared_host : RuleHost → RuleHost
cleared_host h = record h { made = []; answer = None }

-- what was made and isn't done yet: the answer of a rule to its request behind what network commands made
abbrev pub answer_made : Option (List ℕ) → List Effect
answer_made None = []
answer_made (Some bytes) = Sent Client bytes ∷ []

abbrev pub made_in : RuleHost → List Effect
made_in h = h.made ++ answer_made h.answer

-- the bytes that effects send to the client, and to the server
abbrev pub client_bytes : List Effect → List ℕ
client_bytes [] = []
client_bytes (Logged text ∷ es) = client_bytes es
client_bytes (Sent Client bytes ∷ es) = bytes ++ client_bytes es
client_bytes (Sent Server bytes ∷ es) = client_bytes es

abbrev pub server_bytes : List Effect → List ℕ
server_bytes [] = []
server_bytes (Logged text ∷ es) = server_bytes es
server_bytes (Sent Client bytes ∷ es) = server_bytes es
server_bytes (Sent Server bytes ∷ es) = bytes ++ server_bytes es

-- the notes of the lines that effects log
abbrev pub logs_of : ℕ → List Effect → List Note
logs_of c [] = []
logs_of c (Logged text ∷ es) = note.Log c text ∷ logs_of c es
logs_of c (Sent side bytes ∷ es) = logs_of c es

-- bytes are sent to a server connection only where one is up
abbrev pub SendsWhere : (up : Bool) → List Effect → Type 0
SendsWhere up [] = Unit {0}
SendsWhere up (Logged text ∷ es) = SendsWhere up es
SendsWhere up (Sent Client bytes ∷ es) = SendsWhere up es
SendsWhere up (Sent Server bytes ∷ es) = (up ≡ true) × SendsWhere up es

-- one effect at most
abbrev pub OneAtMost : List Effect → Type 0
OneAtMost [] = Unit {0}
OneAtMost (e ∷ []) = Unit {0}
OneAtMost (e ∷ (f ∷ es)) = ⊥

-- the effects were made, and aren't done yet
abbrev pub Made : RuleHost → List Effect → RuleHost → Type 0
Made a es b = made_in b ≡ made_in a ++ es

-- What the bodies of an event leave as it was: the client's address, whether there is a server
-- connection, and each collect but that of the event's own side.
pub record KeepsCollects (e : EventName) (s t : NetState) : Type 0 where
  pub from : t.from ≡ s.from
  pub relays : t.relays ≡ s.relays
  pub kept : (side : Side) → collects_in side e ≡ false → collected side t ≡ collected side s

-- What its rules are told of a connection: the client's address, that there is a server connection
-- only where one is, and of requests where its virtual server speaks HTTP.
pub record Told (g : Setup) (k : Link) (h : RuleHost) : Type 0 where
  pub from : h.net.from ≡ g.from
  pub relays : h.net.relays ≡ true → is_up k ≡ true
  pub spoken : is_some h.http ≡ g.http
