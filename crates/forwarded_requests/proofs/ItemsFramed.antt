-- Behind each item a request that is on its way isn't answered yet, and goes by what its head says.
use Rattle.std.proofs.Common.{◌≡◌, refl, sym, ap, subst, ◌∙◌, ℕ, List, take, Bool, true, false, true≢false, Option, Some, None, Result, Ok, Err, nat_eq}
use Rattle.std.specs.Prelude.{⊤, slice_get, if◌then◌else◌}
use Rattle.px_bytes.specs.declared.addr.Side.{Side}
use Rattle.px_bytes.specs.declared.addr.Side.TheVariants.{Client, Server}
use Rattle.px_bytes.specs.declared.fault.HttpFault.{HttpFault}
use Rattle.px_bytes.specs.declared.fault.HttpFault.TheVariants as fault
use Rattle.rule_model.specs.Laws.{state_after}
use Rattle.rule_model.specs.Outcome.{Act, Outcome, Ends, Waits as Stops, uncaught_of}
use Rattle.event_order.specs.declared.event.EventName.{EventName}
use Rattle.event_order.specs.declared.event.EventName.TheVariants.{HttpRequest, HttpResponse}
use Rattle.http_heads.specs.declared.front.HeadPart.{HeadPart}
use Rattle.http_heads.specs.declared.front.HeadPart.TheVariants.{HeadOf, StreamEnds, Faulty, NoHead}
use Rattle.http_heads.specs.declared.line.Version.{Version}
use Rattle.http_heads.specs.declared.line.Version.TheVariants.{Http10, Http11}
use Rattle.http_frames.specs.Parts.{Part, Byte, Chunk, End, Pending, Bad}
use Rattle.http_frames.specs.declared.state.BodyState.{BodyState}
use Rattle.http_frames.specs.declared.state.BodyState.TheVariants as state
use Rattle.irule_http.specs.declared.state.Request.{Request}
use Rattle.irule_http.specs.declared.state.Response.{Response}
use Rattle.conn_trace.specs.Bodies.{act_next, bodies_next, ended_next, run_body}
use Rattle.conn_trace.specs.Fronts.{after_byte}
use Rattle.conn_trace.specs.Host.{HostState, http_of}
use Rattle.conn_trace.specs.Http.{Heads, request_begun, the_heads}
use Rattle.conn_trace.specs.Item.{Reason, Closed, Http as HttpReason}
use Rattle.conn_trace.specs.Messages.{answer_next, asked_version, behind_head, body_end_next, dropping_next, fault_by, fault_next}
use Rattle.conn_trace.specs.Messages.{head_next, heading_next, interim_next}
use Rattle.conn_trace.specs.Messages.{is_counted, is_interim, moves_next, reads_next, request_host, request_next, response_host, response_next}
use Rattle.conn_trace.specs.Messages.{sending_next, status_next}
use Rattle.conn_trace.specs.Places.{Place, place, at, enter, finish, is_up}
use Rattle.conn_trace.specs.Routing.{behind_message, is_spent_link, next_request}
use Rattle.conn_trace.specs.SentBodies.{chunk_line, is_answered, last_line}
use Rattle.conn_trace.specs.Setup.{Handler, Setup}
use Rattle.conn_trace.specs.State.{Bodies, Gated, Running, Failing, Phase, GivingUp}
use Rattle.conn_trace.specs.State.{Forwarding, AtResponse}
use Rattle.conn_trace.specs.State.{Behind, BehindMessage, ServerSide, NoServer, Sought, There}
use Rattle.conn_trace.specs.State.{Leaving, Retired, Link, Left, link_of, leaving, TraceState, Next, Does, Waits, Over, stream_of, read_server}
use Rattle.forwarded_requests.proofs.GatherFramed.{request_framed}
use Rattle.forwarded_requests.proofs.HostFramed.{Awaits, Framed, UnlessAnswered, body_kept, framed_kept}
use Rattle.forwarded_requests.proofs.PhasesFramed.{Enters, FramedPlace, InPhase, Runs, runs_kept}
use Rattle.forwarded_requests.proofs.PlacesFramed.{closed_framed, ended_framed, enter_framed, fault_framed, next_request_at}
use Rattle.forwarded_requests.proofs.ReadHeads.{read_tells}

-- where it stands
pub record FramedState (l : TraceState) : Type 0 where
  pub phase : InPhase l.finished (link_of l.server) l.phase (http_of l.host)
  pub host : UnlessAnswered (http_of l.host)

abbrev pub FramedNext : Next → Type 0
FramedNext (Does i m) = FramedState m
FramedNext (Waits k) = ⊤
FramedNext Over = ⊤

abbrev pub StaysFramed : TraceState → Type 0
StaysFramed l = UnlessAnswered (http_of l.host)

abbrev pub Waiting : TraceState → Type 0
Waiting l = Awaits (http_of l.host)

-- reading leaves a server where it was
same_link : (n : ℕ) (v : ServerSide) → link_of (read_server n v) ≡ link_of v
same_link n NoServer = refl
same_link n Sought = refl
same_link n (There s) = refl
same_link n (Leaving b s) = refl
same_link n (Retired s) = refl

-- a server connection that is there is being given up
pub left_up : (b : Behind) (v : ServerSide) → is_up (link_of v) ≡ true → link_of (leaving b v) ≡ Left b
left_up b NoServer is = absurd (true≢false (sym is))
left_up b Sought is = absurd (true≢false (sym is))
left_up b (There s) is = refl
left_up b (Leaving c s) is = absurd (true≢false (sym is))
left_up b (Retired s) is = absurd (true≢false (sym is))

module _ (g : Setup) (heads : g.heads ≡ the_heads) where
  stands : (m : TraceState) (p : Place) → FramedPlace m.finished (link_of m.server) p → FramedState (at p m)
  stands m p is = record { phase = is.phase; host = is.host }

  pub finish_next : (r : Reason) (l : TraceState) → StaysFramed l → FramedNext (finish g r l)
  finish_next r l host =
      let p = closed_framed g (link_of l.server) (link_of l.server) l.host host in record { phase = p.phase; host = p.host }

  pub refused_next : (l : TraceState) (side : Side) (f : HttpFault) → StaysFramed l → FramedNext (fault_next g l side f)
  refused_next l side f host = by_answer (is_answered side f)
    where
      by_answer : (b : Bool) → FramedNext (fault_by g l f b)
      by_answer true = record { phase = tt; host = host }
      by_answer false = finish_next (HttpReason f) l host

  pub enters_next : (e : EventName) (h : HostState) (l : TraceState) → UnlessAnswered (http_of h) → Enters e (http_of h)
      → FramedState (at (enter g e (link_of l.server) h) l)
  enters_next e h l host is = stands l _ (enter_framed l.finished (link_of l.server) g e (link_of l.server) h host is)

  -- n bytes of a side were read
  pub reads_framed : (l : TraceState) (side : Side) (n : ℕ) (p : Place) → FramedPlace l.finished (link_of l.server) p
      → FramedNext (reads_next l side n p)
  reads_framed l Client n p is = record { phase = is.phase; host = is.host }
  reads_framed l Server n p is =
      record { phase = subst (λ k. InPhase l.finished k p.phase (http_of p.host)) (sym (same_link n l.server)) is.phase; host = is.host }

  -- ---- bodies

  ended_next_framed : (e : EventName) (b : Handler) (bs : List Handler) (l : TraceState) (o : Outcome HostState)
      → UnlessAnswered (http_of (state_after o).host) → Runs e l.finished (link_of l.server) (http_of (state_after o).host)
      → FramedNext (ended_next g e b bs l o)
  ended_next_framed e b bs l (Stops path call st) host is = tt
  ended_next_framed e b bs l (Ends code st) host is =
      let p = ended_framed g e l.finished (link_of l.server) b bs (uncaught_of code) st.host host is in
      record { phase = p.phase; host = p.host }

  act_framed : (e : EventName) (b : Handler) (bs : List Handler) (n : ℕ) (l : TraceState) (a : Option Act) (end : Next) → StaysFramed l
      → Runs e l.finished (link_of l.server) (http_of l.host) → FramedNext end → FramedNext (act_next e b bs n l a end)
  act_framed e b bs n l None end host is ends = ends
  act_framed e b bs n l (Some a) end host is ends = record { phase = is; host = host }

  pub bodies_framed : (e : EventName) (bodies : Bodies) (l : TraceState) → StaysFramed l
      → Runs e l.finished (link_of l.server) (http_of l.host)
      → FramedNext (bodies_next g e bodies l)
  bodies_framed e (Gated b bs) l host is = record { phase = is; host = host }
  bodies_framed e (Running b bs n) l host is =
      let o = run_body g b l in
      let k = body_kept g b l in
      let t = http_of (state_after o).host in
      act_framed e b bs n l (slice_get (state_after o).acts n) (ended_next g e b bs l o) host is
      (ended_next_framed e b bs l o (framed_kept (http_of l.host) t k host)
      (runs_kept e l.finished (link_of l.server) (http_of l.host) t k is))
  bodies_framed e (Failing kind line bs) l host is =
      let p = fault_framed g e l.finished (link_of l.server) kind bs l.host host is in record { phase = p.phase; host = p.host }

  -- ---- a head is read

  begun_framed : (l : TraceState) (n : ℕ) (r : Request) → g.heads.request (take n l.client.unread) ≡ Ok r
      → Framed (request_begun r (http_of l.host))
  begun_framed l n r read =
      request_framed r (http_of l.host)
      (read_tells (take n l.client.unread) r (sym (ap (λ (x : Heads). x.request (take n l.client.unread)) heads) ∙ read))

  asked_framed : (l : TraceState) (n : ℕ) (r : Result Request HttpFault) → g.heads.request (take n l.client.unread) ≡ r → StaysFramed l
      → FramedNext (request_next g l n r)
  asked_framed l n (Err f) read host = refused_next l Client f host
  asked_framed l n (Ok r) read host =
      reads_framed l Client n _
      (enter_framed l.finished (link_of l.server) g HttpRequest (link_of l.server) (request_host r l.host) (λ e. begun_framed l n r read)
      refl)

  pub head_framed : (l : TraceState) (p : HeadPart) → StaysFramed l → FramedNext (head_next g l p)
  head_framed l (HeadOf n) host = asked_framed l n (g.heads.request (take n l.client.unread)) refl host
  head_framed l StreamEnds host = finish_next Closed l host
  head_framed l (Faulty f) host = refused_next l Client f host
  head_framed l NoHead host = tt

  interim_framed : (l : TraceState) (n : ℕ) (r : Response) (v : Version) → StaysFramed l → FramedNext (interim_next g l n r v)
  interim_framed l n r Http10 host = reads_framed l Server n (place AtResponse l.host) (record { phase = tt; host = host })
  interim_framed l n r Http11 host = record { phase = tt; host = host }

  final_framed : (l : TraceState) (n : ℕ) (r : Response)
      → FramedPlace l.finished (link_of l.server) (enter g HttpResponse (link_of l.server) (response_host r l.host))
  final_framed l n r =
      enter_framed l.finished (link_of l.server) g HttpResponse (link_of l.server) (response_host r l.host) (λ e. absurd (not_none e)) refl
    where
      not_none : Some r ≡ None → ⊥
      not_none e = absurd (cc)

  status_framed : (l : TraceState) (n : ℕ) (r : Response) (switches interim : Bool) → StaysFramed l
      → FramedNext (status_next g l n r switches interim)
  status_framed l n r true interim host = finish_next (HttpReason fault.Switching) l host
  status_framed l n r false true host = interim_framed l n r (asked_version (http_of l.host).came) host
  status_framed l n r false false host = reads_framed l Server n _ (final_framed l n r)

  answered_framed : (l : TraceState) (n : ℕ) (r : Result Response HttpFault) → StaysFramed l → FramedNext (response_next g l n r)
  answered_framed l n (Err f) host = finish_next (HttpReason f) l host
  answered_framed l n (Ok r) host = status_framed l n r (nat_eq r.head.status 101) (is_interim r.head) host

  pub answer_framed : (l : TraceState) (p : HeadPart) → StaysFramed l → FramedNext (answer_next g l p)
  answer_framed l (HeadOf n) host = answered_framed l n (g.heads.response (http_of l.host).came (take n (stream_of Server l).unread)) host
  answer_framed l StreamEnds host = finish_next (HttpReason fault.ShortBody) l host
  answer_framed l (Faulty f) host = finish_next (HttpReason f) l host
  answer_framed l NoHead host = tt

  -- ---- a message goes on

  message_at : (l : TraceState) (side : Side) (finished : Bool) (link : Link)
      → InPhase finished link (behind_message side l.host) (http_of l.host)
  message_at l Client finished link = tt
  message_at l Server finished link = by_test (is_spent_link l.host)
    where
      by_test : (b : Bool) → InPhase finished link (if b then GivingUp BehindMessage else next_request l.host) (http_of l.host)
      by_test true = tt
      by_test false = next_request_at finished link l.host l.host

  pub heading_framed : (l : TraceState) (side : Side) → StaysFramed l → FramedNext (heading_next g l side)
  heading_framed l side host = record { phase = by_whole (http_of l.host).whole; host = host }
    where
      by_whole : (b : Bool) → InPhase l.finished (link_of l.server) (behind_head side l.host b) (http_of l.host)
      by_whole true = message_at l side l.finished (link_of l.server)
      by_whole false = tt

  moves_framed : (l : TraceState) (side : Side) (n : ℕ) (bytes : List ℕ) (p : Phase) → StaysFramed l
      → ((link : Link) → InPhase l.finished link p (http_of l.host)) → FramedNext (moves_next l side n bytes p)
  moves_framed l Client n bytes p host is = record { phase = is (link_of l.server); host = host }
  moves_framed l Server n bytes p host is = record { phase = is (link_of (read_server n l.server)); host = host }

  body_end_framed : (l : TraceState) (side : Side) (n : ℕ) (told standing : Bool) → StaysFramed l
      → FramedNext (body_end_next l side n told standing)
  body_end_framed l side n true standing host =
      reads_framed l side n (place (behind_message side l.host) l.host)
      (record { phase = message_at l side l.finished (link_of l.server); host = host })
  body_end_framed l side n false standing host =
      moves_framed l side n (last_line standing) (behind_message side l.host) host (message_at l side l.finished)

  pub sending_framed : (l : TraceState) (side : Side) (s : BodyState) (standing : Bool) (p : Part) → StaysFramed l
      → FramedNext (sending_next g l side s standing p)
  sending_framed l side s standing Byte host =
      moves_framed l side 1 (take 1 (stream_of side l).unread) (Forwarding side (after_byte s) standing) host (λ k. tt)
  sending_framed l side s standing (Chunk n size) host =
      moves_framed l side n (chunk_line standing size) (Forwarding side (state.Chunk size) true) host (λ k. tt)
  sending_framed l side s standing (End n) host = body_end_framed l side n (is_counted s) standing host
  sending_framed l side s standing Pending host = tt
  sending_framed l side s standing (Bad f) host = refused_next l side f host

  pub dropping_framed : (l : TraceState) (s : BodyState) (p : Part) → StaysFramed l → FramedNext (dropping_next g l s p)
  dropping_framed l s Byte host = record { phase = tt; host = host }
  dropping_framed l s (Chunk n size) host = record { phase = tt; host = host }
  dropping_framed l s (End n) host = record { phase = next_request_at l.finished (link_of l.server) l.host l.host; host = host }
  dropping_framed l s Pending host = tt
  dropping_framed l s (Bad f) host = refused_next l Client f host
