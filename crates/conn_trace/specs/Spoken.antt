-- HTTP is spoken by a connection throughout, or never: with it no collect of a side is asked, and without it no
-- phase of HTTP is reached and no server connection is given up.
use Rattle.std.specs.Prelude.{◌≡◌, List, Bool, true, false, is_some}
use Rattle.px_bytes.specs.declared.addr.Side.{Side}
use Rattle.event_order.specs.declared.event.EventName.{EventName}
use Rattle.event_order.specs.declared.event.EventName.TheVariants.{HttpRequest, HttpRequestData}
use Rattle.event_order.specs.declared.event.EventName.TheVariants.{HttpResponse, HttpResponseData}
use Rattle.irule_net.specs.State.{collected}
use Rattle.irule_net.specs.declared.state.Asks.TheVariants.{NotAsked}
use Rattle.conn_trace.specs.Host.{HostState, speaks_http}
use Rattle.conn_trace.specs.Item.{Item}
use Rattle.conn_trace.specs.Setup.{Setup}
use Rattle.conn_trace.specs.State.{Phase, InEvent, Choosing, Selecting, Connecting, Answering}
use Rattle.conn_trace.specs.State.{Releasing, Relaying, Collecting, Finishing, Draining}
use Rattle.conn_trace.specs.State.{Link, Left, GivenUp, link_of, Stream, Answers, TraceState}
use Rattle.conn_trace.specs.Trace.{Unfolds, start}

abbrev pub is_http_event : EventName → Bool
is_http_event HttpRequest = true
is_http_event HttpRequestData = true
is_http_event HttpResponse = true
is_http_event HttpResponseData = true
is_http_event e = false

abbrev pub is_http_phase : Phase → Bool
is_http_phase (InEvent e bodies) = is_http_event e
is_http_phase Choosing = false
is_http_phase (Selecting call) = false
is_http_phase (Connecting a) = false
is_http_phase (Answering a) = false
is_http_phase Releasing = false
is_http_phase Relaying = false
is_http_phase Collecting = false
is_http_phase (Finishing r) = false
is_http_phase Draining = false
is_http_phase other = true

-- its server connection was given up
abbrev pub is_given_up : Link → Bool
is_given_up (Left b) = true
is_given_up GivenUp = true
is_given_up other = false

-- where HTTP is spoken something is known of messages, and no collect of a side is asked
pub record HostSpeaks (spoken : Bool) (h : HostState) : Type 0 where
  pub same : h.net.http ≡ spoken
  pub knows : speaks_http h ≡ spoken
  pub quiet : spoken ≡ true → (side : Side) → (collected side h.net).asks ≡ NotAsked

pub record Speaks (spoken : Bool) (l : TraceState) : Type 0 where
  pub host : HostSpeaks spoken l.host
  pub plain : spoken ≡ false → is_http_phase l.phase ≡ false
  pub link : spoken ≡ false → is_given_up (link_of l.server) ≡ false

abbrev pub HttpIsSpoken : Type 0
HttpIsSpoken =
    (g : Setup) (client : Stream) (answers : Answers) (m : TraceState) (items : List Item)
    → Unfolds g (start g client answers) items m → Speaks g.http m
