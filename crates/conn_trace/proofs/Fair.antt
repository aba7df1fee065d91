-- What each item keeps: the recorded cut; it sends to the client or to the present server alone, and reads what it says.
use Rattle.std.proofs.Common.{◌≡◌, refl, sym, ap, ℕ, zero, suc, List, [], ◌∷◌, length, take, drop, slice_get, Bool, true, false, Option, Some, None}
use Rattle.px_bytes.specs.declared.addr.Addr.{Addr}
use Rattle.px_bytes.specs.declared.addr.Side.{Side}
use Rattle.px_bytes.specs.declared.addr.Side.TheVariants.{Client, Server}
use Rattle.px_bytes.specs.declared.fault.Reply.{Reply}
use Rattle.px_bytes.specs.declared.fault.Reply.TheVariants as reply
use Rattle.rule_model.specs.Host as effect
use Rattle.rule_model.specs.Outcome as act
use Rattle.rule_model.specs.Outcome.{Act, Did, Outcome, Ends, Waits as Stops}
use Rattle.rule_model.specs.Laws.{state_after}
use Rattle.event_order.specs.declared.event.EventName.{EventName}
use Rattle.conn_trace.specs.Item.{Item, Peer, ToClient, ToServer, Sending, shown}
use Rattle.conn_trace.specs.Gates.{other}
use Rattle.irule_net.specs.declared.state.Asks.{Asks}
use Rattle.irule_net.specs.declared.state.Asks.TheVariants.{NotAsked, Stated}
use Rattle.irule_net.specs.declared.state.Target.{Target}
use Rattle.irule_net.specs.declared.state.Target.TheVariants.{Default, PoolOf, MemberOf, NodeAt}
use Rattle.conn_trace.specs.Setup.{Handler, Setup}
use Rattle.conn_trace.specs.Host.{HostState, with_selected, http_of}
use Rattle.conn_trace.specs.Selected.{addr_of}
use Rattle.conn_trace.specs.State.{Bodies, Gated, Running, Failing}
use Rattle.conn_trace.specs.State.{Phase, InEvent, Choosing, Selecting, Connecting}
use Rattle.conn_trace.specs.State.{Answering, Releasing, Relaying, Collecting, Finishing}
use Rattle.conn_trace.specs.State.{Draining, Stream, Cut, TraceState, Next, Does, Waits, Over}
use Rattle.conn_trace.specs.State.{stream_of, read_side, read_of, read_part}
use Rattle.conn_trace.specs.Bodies.{act_item, peer_of, run_body, ended_next, act_next}
use Rattle.conn_trace.specs.Bodies.{bodies_next}
use Rattle.conn_trace.specs.Relay.{incoming, RelayAct, BothDone, Passing, Firing, Resting}
use Rattle.conn_trace.specs.Relay.{relay_act, collect_act, behind_fires}
use Rattle.std.proofs.Common.{Result, Ok, Err, nat_eq}
use Rattle.px_bytes.specs.declared.fault.HttpFault.{HttpFault}
use Rattle.http_frames.specs.declared.state.BodyState.{BodyState}
use Rattle.conn_trace.specs.Item.{Choice, PassesOn, Fires, Reuses}
use Rattle.http_heads.specs.Fronts.{head_part}
use Rattle.http_heads.specs.declared.front.HeadPart.{HeadPart}
use Rattle.http_heads.specs.declared.front.HeadPart.TheVariants.{HeadOf, StreamEnds, Faulty, NoHead}
use Rattle.conn_trace.specs.SentBodies.{is_answered}
use Rattle.http_frames.specs.Parts.{Part, Byte, Chunk, End, Pending, Bad, part_of}
use Rattle.irule_http.specs.declared.state.Request.{Request}
use Rattle.irule_http.specs.declared.state.Response.{Response}
use Rattle.conn_trace.specs.State.{AtHead, Continuing, Gathering, AtReuse, GivingUp, Retiring, Heading, Forwarding, Dropping, AtResponse}
use Rattle.conn_trace.specs.Places.{Place}
use Rattle.http_heads.specs.declared.line.Version.{Version}
use Rattle.http_heads.specs.declared.line.Version.TheVariants.{Http10, Http11}
use Rattle.conn_trace.specs.Messages.{reads_next, fault_by, fault_next, request_next, head_next, interim_next, asked_version, is_interim, status_next, response_next, answer_next, moves_next, body_end_next, is_counted, sending_next, gathering_next, dropping_next, reuse_next, heading_next}
use Rattle.conn_trace.specs.Trace.{choosing_next, default_next}
use Rattle.conn_trace.specs.Trace.{selected_next, selecting_next, answering_next, relay_next}
use Rattle.conn_trace.specs.Trace.{collect_next, collecting_next, phase_next}

abbrev pub PeerIs : ℕ → Peer → Type 0
PeerIs number ToClient = Unit {0}
PeerIs number (ToServer k) = k ≡ number

-- to the client, or to the server connection of this number
abbrev pub SendsTo : ℕ → Option Sending → Type 0
SendsTo number None = Unit {0}
SendsTo number (Some s) = PeerIs number s.peer

pub record Fair (recorded : Option Cut) (number : ℕ) (client : Stream) (i : Item) (m : TraceState) : Type 0 where
  pub cut : m.answers.cut ≡ recorded
  pub sends : SendsTo number (shown i).sends
  pub reads : m.client ≡ read_part (shown i).reads client

abbrev pub FairNext : Option Cut → ℕ → Stream → Next → Type 0
FairNext cut number client (Does i m) = Fair cut number client i m
FairNext cut number client (Waits k) = Unit {0}
FairNext cut number client Over = Unit {0}

pub fair_of : (cut : Option Cut) (number : ℕ) (client : Stream) (i : Item) (m : TraceState) → FairNext cut number client (Does i m) → Fair cut number client i m
fair_of cut number client i m fair = fair

act_sends : (number : ℕ) (a : Act) → SendsTo number (shown (act_item number a)).sends
act_sends number (Did (effect.Logged text)) = tt
act_sends number (Did (effect.Sent Client bytes)) = tt
act_sends number (Did (effect.Sent Server bytes)) = refl
act_sends number (act.Called path call) = tt

act_reads : (number : ℕ) (a : Act) → (shown (act_item number a)).reads ≡ None
act_reads number (Did (effect.Logged text)) = refl
act_reads number (Did (effect.Sent side bytes)) = refl
act_reads number (act.Called path call) = refl

other_side : (number : ℕ) (side : Side) → PeerIs number (peer_of number (other side))
other_side number Client = refl
other_side number Server = tt

act_fair : (e : EventName) (b : Handler) (bs : List Handler) (n : ℕ) (l : TraceState) (v : Option Act) (end : Next) → FairNext l.answers.cut l.sent.number l.client end → FairNext l.answers.cut l.sent.number l.client (act_next e b bs n l v end)
act_fair e b bs n l None end is = is
act_fair e b bs n l (Some a) end is = record { cut = refl; sends = act_sends l.sent.number a; reads = ap (λ r. read_part r l.client) (sym (act_reads l.sent.number a)) }

ended_fair : (g : Setup) (e : EventName) (b : Handler) (bs : List Handler) (l : TraceState) (o : Outcome HostState) → FairNext l.answers.cut l.sent.number l.client (ended_next g e b bs l o)
ended_fair g e b bs l (Ends code st) = record { cut = refl; sends = tt; reads = refl }
ended_fair g e b bs l (Stops path call st) = tt

bodies_fair : (g : Setup) (e : EventName) (bodies : Bodies) (l : TraceState) → FairNext l.answers.cut l.sent.number l.client (bodies_next g e bodies l)
bodies_fair g e (Gated b bs) l = record { cut = refl; sends = tt; reads = refl }
bodies_fair g e (Running b bs n) l = act_fair e b bs n l (slice_get (state_after (run_body g b l)).acts n) _ (ended_fair g e b bs l (run_body g b l))
bodies_fair g e (Failing kind line bs) l = record { cut = refl; sends = tt; reads = refl }

choosing_fair : (g : Setup) (l : TraceState) (h : HostState) (target : Target) → FairNext l.answers.cut l.sent.number l.client (choosing_next g l h target)
choosing_fair g l h Default = by_pool h.net.pool where
  by_pool : (pool : List ℕ) → FairNext l.answers.cut l.sent.number l.client (default_next g l h pool)
  by_pool [] = record { cut = refl; sends = tt; reads = refl }
  by_pool (b ∷ bs) = record { cut = refl; sends = tt; reads = refl }
choosing_fair g l h (PoolOf pool) = record { cut = refl; sends = tt; reads = refl }
choosing_fair g l h (MemberOf pool a) = record { cut = refl; sends = tt; reads = refl }
choosing_fair g l h (NodeAt a) = record { cut = refl; sends = tt; reads = refl }

selected_fair : (g : Setup) (l : TraceState) (more : List Reply) (a : Option Addr) → FairNext l.answers.cut l.sent.number l.client (selected_next g l more a)
selected_fair g l more None = record { cut = refl; sends = tt; reads = refl }
selected_fair g l more (Some a) = record { cut = refl; sends = tt; reads = refl }

selecting_fair : (g : Setup) (call : List (List ℕ)) (l : TraceState) (replies : List Reply) → FairNext l.answers.cut l.sent.number l.client (selecting_next g call l replies)
selecting_fair g call l [] = tt
selecting_fair g call l (reply.Ok v ∷ more) = selected_fair g l more (addr_of v)
selecting_fair g call l (reply.Fault fault ∷ more) = selected_fair g l more None

answering_fair : (g : Setup) (l : TraceState) (connects : List (Option Stream)) → FairNext l.answers.cut l.sent.number l.client (answering_next g l connects)
answering_fair g l [] = tt
answering_fair g l (Some s ∷ more) = record { cut = refl; sends = tt; reads = refl }
answering_fair g l (None ∷ more) = record { cut = refl; sends = tt; reads = refl }

read_fair : (side : Side) (n : ℕ) (l : TraceState) → (read_side side n l).answers.cut ≡ l.answers.cut
read_fair Client n l = refl
read_fair Server n l = refl

read_left : (side : Side) (n : ℕ) (l : TraceState) → (read_side side n l).client ≡ read_of side n l.client
read_left Client n l = refl
read_left Server n l = refl

-- as many were passed on as were read
same_read : (n : ℕ) (bytes : List ℕ) → drop n bytes ≡ drop (length (take n bytes)) bytes
same_read zero bytes = refl
same_read (suc n) [] = refl
same_read (suc n) (b ∷ bytes) = same_read n bytes

passed_reads : (side : Side) (n : ℕ) (l : TraceState) → (read_side side n l).client ≡ read_of side (length (take n (stream_of side l).unread)) l.client
passed_reads Client n l = ap (λ u. record l.client { unread = u }) (same_read n l.client.unread)
passed_reads Server n l = refl

relay_fair : (g : Setup) (l : TraceState) (a : RelayAct) → FairNext l.answers.cut l.sent.number l.client (relay_next g l a)
relay_fair g l BothDone = record { cut = refl; sends = tt; reads = refl }
relay_fair g l (Passing side n more) = record { cut = read_fair side n l; sends = other_side l.sent.number side; reads = passed_reads side n l }
relay_fair g l (Firing side n more) = record { cut = read_fair side n l; sends = tt; reads = read_left side n l }
relay_fair g l Resting = tt

collect_fair : (g : Setup) (l : TraceState) (a : RelayAct) → FairNext l.answers.cut l.sent.number l.client (collect_next g l a)
collect_fair g l BothDone = record { cut = refl; sends = tt; reads = refl }
collect_fair g l (Passing side n more) = tt
collect_fair g l (Firing side n more) = record { cut = read_fair side n l; sends = tt; reads = read_left side n l }
collect_fair g l Resting = tt

collecting_fair : (g : Setup) (l : TraceState) (asks : Asks) → FairNext l.answers.cut l.sent.number l.client (collecting_next g l asks)
collecting_fair g l NotAsked = tt
collecting_fair g l (Stated n) = collect_fair g l (collect_act n l.client.unread (behind_fires l.answers.choices))

-- ---- HTTP

abbrev Fairly : TraceState → Next → Type 0
Fairly l o = FairNext l.answers.cut l.sent.number l.client o

reads_fair : (l : TraceState) (side : Side) (n : ℕ) (p : Place) → Fairly l (reads_next l side n p)
reads_fair l side n p = record { cut = read_fair side n l; sends = tt; reads = read_left side n l }

moves_fair : (l : TraceState) (side : Side) (n : ℕ) (bytes : List ℕ) (phase : Phase) → Fairly l (moves_next l side n bytes phase)
moves_fair l side n bytes phase = record { cut = read_fair side n l; sends = other_side l.sent.number side; reads = read_left side n l }

fault_fair : (g : Setup) (l : TraceState) (side : Side) (f : HttpFault) → Fairly l (fault_next g l side f)
fault_fair g l side f = by_answer (is_answered side f)
  where
    by_answer : (b : Bool) → Fairly l (fault_by g l f b)
    by_answer true = record { cut = refl; sends = tt; reads = refl }
    by_answer false = record { cut = refl; sends = tt; reads = refl }

request_fair : (g : Setup) (l : TraceState) (n : ℕ) (r : Result Request HttpFault) → Fairly l (request_next g l n r)
request_fair g l n (Err f) = fault_fair g l Client f
request_fair g l n (Ok r) = reads_fair l Client n _

head_fair : (g : Setup) (l : TraceState) (p : HeadPart) → Fairly l (head_next g l p)
head_fair g l (HeadOf n) = request_fair g l n (g.heads.request (take n l.client.unread))
head_fair g l StreamEnds = record { cut = refl; sends = tt; reads = refl }
head_fair g l (Faulty f) = fault_fair g l Client f
head_fair g l NoHead = tt

interim_fair : (g : Setup) (l : TraceState) (n : ℕ) (r : Response) (v : Version) → Fairly l (interim_next g l n r v)
interim_fair g l n r Http10 = reads_fair l Server n _
interim_fair g l n r Http11 = record { cut = read_fair Server n l; sends = tt; reads = refl }

status_fair : (g : Setup) (l : TraceState) (n : ℕ) (r : Response) (switches interim : Bool) → Fairly l (status_next g l n r switches interim)
status_fair g l n r true interim = record { cut = refl; sends = tt; reads = refl }
status_fair g l n r false true = interim_fair g l n r (asked_version (http_of l.host).came)
status_fair g l n r false false = reads_fair l Server n _

response_fair : (g : Setup) (l : TraceState) (n : ℕ) (r : Result Response HttpFault) → Fairly l (response_next g l n r)
response_fair g l n (Err f) = record { cut = refl; sends = tt; reads = refl }
response_fair g l n (Ok r) = status_fair g l n r (nat_eq r.head.status 101) (is_interim r.head)

answer_fair : (g : Setup) (l : TraceState) (p : HeadPart) → Fairly l (answer_next g l p)
answer_fair g l (HeadOf n) = response_fair g l n (g.heads.response (http_of l.host).came (take n (stream_of Server l).unread))
answer_fair g l StreamEnds = record { cut = refl; sends = tt; reads = refl }
answer_fair g l (Faulty f) = record { cut = refl; sends = tt; reads = refl }
answer_fair g l NoHead = tt

reuse_fair : (g : Setup) (l : TraceState) (choices : List Choice) → Fairly l (reuse_next g l choices)
reuse_fair g l [] = tt
reuse_fair g l (Reuses true ∷ more) = record { cut = refl; sends = tt; reads = refl }
reuse_fair g l (Reuses false ∷ more) = record { cut = refl; sends = tt; reads = refl }
reuse_fair g l (PassesOn side n ∷ more) = tt
reuse_fair g l (Fires side ∷ more) = tt

body_end_fair : (l : TraceState) (side : Side) (n : ℕ) (counted standing : Bool) → Fairly l (body_end_next l side n counted standing)
body_end_fair l side n true standing = reads_fair l side n _
body_end_fair l side n false standing = moves_fair l side n _ _

sending_fair : (g : Setup) (l : TraceState) (side : Side) (s : BodyState) (standing : Bool) (p : Part) → Fairly l (sending_next g l side s standing p)
sending_fair g l side s standing Byte = moves_fair l side 1 _ _
sending_fair g l side s standing (Chunk n size) = moves_fair l side n _ _
sending_fair g l side s standing (End n) = body_end_fair l side n (is_counted s) standing
sending_fair g l side s standing Pending = tt
sending_fair g l side s standing (Bad f) = fault_fair g l side f

gathering_fair : (g : Setup) (l : TraceState) (side : Side) (wanted : ℕ) (s : BodyState) (p : Part) → Fairly l (gathering_next g l side wanted s p)
gathering_fair g l side wanted s Byte = reads_fair l side 1 _
gathering_fair g l side wanted s (Chunk n size) = reads_fair l side n _
gathering_fair g l side wanted s (End n) = reads_fair l side n _
gathering_fair g l side wanted s Pending = tt
gathering_fair g l side wanted s (Bad f) = fault_fair g l side f

dropping_fair : (g : Setup) (l : TraceState) (s : BodyState) (p : Part) → Fairly l (dropping_next g l s p)
dropping_fair g l s Byte = reads_fair l Client 1 _
dropping_fair g l s (Chunk n size) = reads_fair l Client n _
dropping_fair g l s (End n) = reads_fair l Client n _
dropping_fair g l s Pending = tt
dropping_fair g l s (Bad f) = fault_fair g l Client f

heading_fair : (g : Setup) (l : TraceState) (side : Side) → Fairly l (heading_next g l side)
heading_fair g l Client = record { cut = refl; sends = refl; reads = refl }
heading_fair g l Server = record { cut = refl; sends = tt; reads = refl }

pub phase_fair : (g : Setup) (p : Phase) (l : TraceState) → FairNext l.answers.cut l.sent.number l.client (phase_next g p l)
phase_fair g (InEvent e bodies) l = bodies_fair g e bodies l
phase_fair g AtHead l = head_fair g l (head_part l.client.unread l.client.ended)
phase_fair g Continuing l = record { cut = refl; sends = tt; reads = refl }
phase_fair g (Gathering side wanted s) l = gathering_fair g l side wanted s (part_of s (stream_of side l).unread (stream_of side l).ended)
phase_fair g AtReuse l = reuse_fair g l l.answers.choices
phase_fair g (GivingUp b) l = record { cut = refl; sends = tt; reads = refl }
phase_fair g (Retiring b) l = record { cut = refl; sends = tt; reads = refl }
phase_fair g (Heading side) l = heading_fair g l side
phase_fair g (Forwarding side s standing) l = sending_fair g l side s standing (part_of s (stream_of side l).unread (stream_of side l).ended)
phase_fair g (Dropping s) l = dropping_fair g l s (part_of s l.client.unread l.client.ended)
phase_fair g AtResponse l = answer_fair g l (head_part (stream_of Server l).unread (stream_of Server l).ended)
phase_fair g Choosing l = choosing_fair g l (with_selected None l.host) l.host.net.target
phase_fair g (Selecting call) l = selecting_fair g call l l.answers.replies
phase_fair g (Connecting a) l = record { cut = refl; sends = tt; reads = refl }
phase_fair g (Answering a) l = answering_fair g l l.answers.connects
phase_fair g Releasing l = record { cut = refl; sends = refl; reads = refl }
phase_fair g Relaying l = relay_fair g l (relay_act (incoming Client l) (incoming Server l) l.answers.choices)
phase_fair g Collecting l = collecting_fair g l l.host.net.client.asks
phase_fair g (Finishing r) l = record { cut = refl; sends = tt; reads = refl }
phase_fair g Draining l = tt
