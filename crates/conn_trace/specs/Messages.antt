-- What comes next of a connection that speaks HTTP, in each of its phases (RFC 9112): a request's head is read and
-- its body gathered or sent on; the server connection is used again or given up; so the response goes back.
use Rattle.std.specs.Prelude.{ℕ, zero, suc, List, ◌∷◌, ◌++◌, take, Bool, true, false}
use Rattle.std.specs.Prelude.{Option, Some, None, Result, Ok, Err, nat_lt, nat_eq}
use Rattle.px_bytes.specs.declared.addr.Side.{Side}
use Rattle.px_bytes.specs.declared.addr.Side.TheVariants.{Client, Server}
use Rattle.px_bytes.specs.declared.fault.HttpFault.{HttpFault}
use Rattle.px_bytes.specs.declared.fault.HttpFault.TheVariants as fault
use Rattle.event_order.specs.declared.event.EventName.TheVariants.{HttpRequest, HttpResponse}
use Rattle.irule_net.specs.State as network
use Rattle.http_heads.specs.declared.line.Version.{Version}
use Rattle.http_heads.specs.declared.line.Version.TheVariants.{Http10, Http11}
use Rattle.http_heads.specs.declared.response.ResponseHead.{ResponseHead}
use Rattle.http_frames.specs.Parts.{Part, Byte, Chunk, End, Pending, Bad}
use Rattle.http_frames.specs.declared.state.BodyState.{BodyState}
use Rattle.http_frames.specs.declared.state.BodyState.TheVariants as body
use Rattle.irule_http.specs.declared.state.Http.{Http}
use Rattle.irule_http.specs.declared.state.Request.{Request}
use Rattle.irule_http.specs.declared.state.Response.{Response}
use Rattle.conn_trace.specs.Bodies.{peer_of}
use Rattle.http_heads.specs.declared.front.HeadPart.{HeadPart}
use Rattle.http_heads.specs.declared.front.HeadPart.TheVariants.{HeadOf, StreamEnds, Faulty, NoHead}
use Rattle.conn_trace.specs.Fronts.{after_byte}
use Rattle.conn_trace.specs.Fronts.{is_at_end, one_less}
use Rattle.conn_trace.specs.Gates.{other}
use Rattle.conn_trace.specs.Host.{HostState, http_of}
use Rattle.conn_trace.specs.Http.{request_begun, response_begun, with_gathered, with_whole}
use Rattle.conn_trace.specs.Item.{Closed, Http as HttpReason, Choice, Reuses, ToClient, Sent, Retires}
use Rattle.conn_trace.specs.Item.{Reused, Resumed, Read, Moved}
use Rattle.conn_trace.specs.Places.{Place, place, at, enter, finish, gather_event, giving_up}
use Rattle.conn_trace.specs.Routing.{behind_asked, behind_message, behind_retired, next_request}
use Rattle.conn_trace.specs.SentBodies.{payload_part, opens, chunk_line, last_line, continue_text}
use Rattle.conn_trace.specs.SentBodies.{is_answered}
use Rattle.conn_trace.specs.Setup.{Setup}
use Rattle.conn_trace.specs.State.{Phase, Gathering, GivingUp, Heading, Forwarding, Dropping}
use Rattle.conn_trace.specs.State.{AtResponse, Finishing, Behind, BeforeSelect, Link, link_of}
use Rattle.conn_trace.specs.State.{TraceState, ForBytes, ForReuse, Next, Does, Waits}
use Rattle.conn_trace.specs.State.{stream_of, read_side, with_choices, leaving, retired}

-- a request that can't be read is answered, and the connection finishes; a fault of a server, or a
-- body that is cut short, has no answer
abbrev pub fault_by : Setup → TraceState → HttpFault → (answered : Bool) → Next
fault_by g l f true =
    Does (Sent ToClient (g.heads.refusal f)) (record l { phase = Finishing (HttpReason f) })
fault_by g l f false = finish g (HttpReason f) l

abbrev pub fault_next : Setup → TraceState → Side → HttpFault → Next
fault_next g l side f = fault_by g l f (is_answered side f)

-- n bytes of a side are read, and this is where it goes then
abbrev pub reads_next : TraceState → Side → ℕ → Place → Next
reads_next l side n p = Does (Read side n) (at p (read_side side n l))

abbrev pub request_host : Request → HostState → HostState
request_host r h = record h {
  net = record (network.begun h.net) { reselects = 0 };
  http = Some (request_begun r (http_of h));
}

abbrev pub response_host : Response → HostState → HostState
response_host r h = record h { net = network.begun h.net; http = Some (response_begun r (http_of h)) }

-- a head is one unit
abbrev pub request_next : Setup → TraceState → ℕ → Result Request HttpFault → Next
request_next g l n (Err f) = fault_next g l Client f
request_next g l n (Ok r) =
    reads_next l Client n (enter g HttpRequest (link_of l.server) (request_host r l.host))

abbrev pub head_next : Setup → TraceState → HeadPart → Next
head_next g l (HeadOf n) = request_next g l n (g.heads.request (take n l.client.unread))
head_next g l StreamEnds = finish g Closed l
head_next g l (Faulty f) = fault_next g l Client f
head_next g l NoHead = Waits (ForBytes Client)

abbrev pub is_interim : ResponseHead → Bool
is_interim head = nat_lt head.status 200

-- the version of the request at hand
abbrev pub asked_version : Option Request → Version
asked_version None = Http10
asked_version (Some r) = r.head.version

-- a response before the final one is passed on without an event, but not to a client of 1.0
abbrev pub interim_next : Setup → TraceState → ℕ → Response → Version → Next
interim_next g l n r Http10 = reads_next l Server n (place AtResponse l.host)
interim_next g l n r Http11 =
    Does (Moved Server n ToClient (g.heads.interim r))
    (record (read_side Server n l) { phase = AtResponse })

abbrev pub final_next : Setup → TraceState → ℕ → Response → Next
final_next g l n r =
    reads_next l Server n (enter g HttpResponse (link_of l.server) (response_host r l.host))

abbrev pub status_next : Setup → TraceState → ℕ → Response → (switches interim : Bool) → Next
status_next g l n r true interim = finish g (HttpReason fault.Switching) l
status_next g l n r false true = interim_next g l n r (asked_version (http_of l.host).came)
status_next g l n r false false = final_next g l n r

abbrev pub response_next : Setup → TraceState → ℕ → Result Response HttpFault → Next
response_next g l n (Err f) = finish g (HttpReason f) l
response_next g l n (Ok r) =
    status_next g l n r (nat_eq r.head.status 101) (is_interim r.head)

-- a server that ends before a byte of its response cuts it short
abbrev pub answer_next : Setup → TraceState → HeadPart → Next
answer_next g l (HeadOf n) =
    response_next g l n
    (g.heads.response (http_of l.host).came (take n (stream_of Server l).unread))
answer_next g l StreamEnds = finish g (HttpReason fault.ShortBody) l
answer_next g l (Faulty f) = finish g (HttpReason f) l
answer_next g l NoHead = Waits (ForBytes Server)

abbrev pub continuing_next : Setup → TraceState → Next
continuing_next g l =
    Does (Moved Server 0 ToClient continue_text)
    (record l { phase = behind_asked (link_of l.server) l.host })

-- whether the server connection is used again was recorded
abbrev pub reuse_next : Setup → TraceState → List Choice → Next
reuse_next g l (Reuses true ∷ more) =
    Does (Reused true) (record (with_choices more l) { phase = Heading Client })
reuse_next g l (Reuses false ∷ more) =
    Does (Reused false) (record (with_choices more l) { phase = GivingUp BeforeSelect })
reuse_next g l other = Waits ForReuse

abbrev pub giving_up_next : Setup → TraceState → Behind → Next
giving_up_next g l b =
    Does Resumed (at (giving_up g b l.host) (record l { server = leaving b l.server }))

-- from here on nothing more is sent to it, and it closes once it took all
abbrev pub retiring_next : TraceState → Behind → Next
retiring_next l b =
    Does Retires (record l { phase = behind_retired b l.host; server = retired l.server })

-- a head goes with what was gathered, at once
abbrev pub head_bytes : Setup → Side → Http → List ℕ
head_bytes g side h = g.heads.sent side h ++ payload_part h

abbrev pub behind_head : Side → HostState → (whole : Bool) → Phase
behind_head side h true = behind_message side h
behind_head side h false = Forwarding side (http_of h).reader (opens (http_of h))

abbrev pub heading_next : Setup → TraceState → Side → Next
heading_next g l side =
    Does (Moved side 0 (peer_of l.sent.number (other side)) (head_bytes g side (http_of l.host)))
    (record l { phase = behind_head side l.host (http_of l.host).whole })

-- so many bytes of a side go over as these
abbrev pub moves_next : TraceState → Side → ℕ → List ℕ → Phase → Next
moves_next l side n bytes phase =
    Does (Moved side n (peer_of l.sent.number (other side)) bytes)
    (record (read_side side n l) { phase = phase })

-- the end of a body: in a chunked one it is sent
abbrev pub is_counted : BodyState → Bool
is_counted (body.Left n) = true
is_counted body.ToEnd = true
is_counted s = false

abbrev pub body_end_next : TraceState → Side → ℕ → (counted standing : Bool) → Next
body_end_next l side n true standing =
    reads_next l side n (place (behind_message side l.host) l.host)
body_end_next l side n false standing =
    moves_next l side n (last_line standing) (behind_message side l.host)

abbrev pub sending_next : Setup → TraceState → Side → BodyState → (standing : Bool) → Part → Next
sending_next g l side s standing Byte =
    moves_next l side 1 (take 1 (stream_of side l).unread) (Forwarding side (after_byte s) standing)
sending_next g l side s standing (Chunk n size) =
    moves_next l side n (chunk_line standing size) (Forwarding side (body.Chunk size) true)
sending_next g l side s standing (End n) = body_end_next l side n (is_counted s) standing
sending_next g l side s standing Pending = Waits (ForBytes side)
sending_next g l side s standing (Bad f) = fault_next g l side f

abbrev pub http_at : Http → HostState → HostState
http_at http h = record h { http = Some http }

-- the event of what was gathered
abbrev pub gathered_place : Setup → Side → Link → HostState → Place
gathered_place g side link h = enter g (gather_event side) link h

-- so many bytes are wanted still
abbrev pub gathered_on : Setup → Side → Link → ℕ → BodyState → (whole : Bool) → HostState → Place
gathered_on g side link wanted s true h = gathered_place g side link h
gathered_on g side link zero s false h = gathered_place g side link h
gathered_on g side link (suc n) s false h = place (Gathering side (suc n) s) h

abbrev pub byte_gathered : Setup → Side → Link → ℕ → BodyState → List ℕ → HostState → Place
byte_gathered g side link wanted s bytes h =
    gathered_on g side link (one_less wanted) s (is_at_end s) (http_at (with_gathered bytes s (http_of h)) h)

abbrev pub gathering_next : Setup → TraceState → Side → ℕ → BodyState → Part → Next
gathering_next g l side wanted s Byte =
    reads_next l side 1
    (byte_gathered g side (link_of l.server) wanted (after_byte s)
    (take 1 (stream_of side l).unread) l.host)
gathering_next g l side wanted s (Chunk n size) =
    reads_next l side n (place (Gathering side wanted (body.Chunk size)) l.host)
gathering_next g l side wanted s (End n) =
    reads_next l side n
    (gathered_place g side (link_of l.server) (http_at (with_whole (http_of l.host)) l.host))
gathering_next g l side wanted s Pending = Waits (ForBytes side)
gathering_next g l side wanted s (Bad f) = fault_next g l side f

abbrev pub dropping_next : Setup → TraceState → BodyState → Part → Next
dropping_next g l s Byte = reads_next l Client 1 (place (Dropping (after_byte s)) l.host)
dropping_next g l s (Chunk n size) =
    reads_next l Client n (place (Dropping (body.Chunk size)) l.host)
dropping_next g l s (End n) = reads_next l Client n (place (next_request l.host) l.host)
dropping_next g l s Pending = Waits (ForBytes Client)
dropping_next g l s (Bad f) = fault_next g l Client f
