-- Each item is in the order of the phases, and no trace finishes twice.
use Rattle.std.proofs.Common.{◌≡◌, refl, sym, ap, subst, ◌∙◌, ℕ, zero, suc, ◌+◌, ◌≤◌, nat_le, is_some, List, [], ◌∷◌, ◌++◌, length, take, Bool, true, false, ◌||◌, not, true≢false, if◌then◌else◌, Option, Some, None, arith, IsTrue}
use Rattle.std.specs.Prelude.{slice_get}
use Rattle.px_bytes.specs.declared.addr.Addr.{Addr}
use Rattle.px_bytes.specs.declared.addr.Side.{Side}
use Rattle.px_bytes.specs.declared.addr.Side.TheVariants.{Client, Server}
use Rattle.px_bytes.specs.declared.fault.FaultKind.{FaultKind}
use Rattle.px_bytes.specs.declared.fault.TclFault.{TclFault}
use Rattle.px_bytes.specs.declared.fault.Reply.{Reply}
use Rattle.px_bytes.specs.declared.fault.Reply.TheVariants as reply
use Rattle.rule_model.specs.Host as effect
use Rattle.rule_model.specs.Outcome.{Act, Did, Outcome, Ends, Waits as Stops, uncaught_of}
use Rattle.rule_model.specs.Outcome as act
use Rattle.rule_model.specs.Laws.{state_after}
use Rattle.event_order.specs.Phase.{is_live}
use Rattle.event_order.specs.declared.phase.Phase.TheVariants as name
use Rattle.event_order.specs.declared.event.EventName.{EventName}
use Rattle.event_order.specs.declared.event.EventName.TheVariants.{ClientAccepted, ClientData, ClientClosed, ServerConnected, ServerClosed, LbSelected, LbFailed}
use Rattle.conn_trace.specs.Item.{Item, Reason, Closed, Rejected, Tcl, CutBy, Choice, Resumed}
use Rattle.conn_trace.specs.Item.{Answered, Logged, Fired, Ran, shown, reasons_in, listed}
use Rattle.conn_trace.specs.Gates.{Counts, may_give}
use Rattle.irule_net.specs.declared.state.Asks.{Asks}
use Rattle.irule_net.specs.declared.state.Asks.TheVariants.{NotAsked, Stated}
use Rattle.irule_net.specs.declared.state.Target.{Target}
use Rattle.irule_net.specs.declared.state.Target.TheVariants.{Default, PoolOf, MemberOf, NodeAt}
use Rattle.irule_net.specs.Steps.{target_pool}
use Rattle.conn_trace.specs.Setup.{Handler, Setup}
use Rattle.conn_trace.specs.Host.{HostState, first_host, with_selected, http_of}
use Rattle.conn_trace.specs.Selected.{addr_of}
use Rattle.conn_trace.specs.State.{Bodies, Gated, Running, Failing}
use Rattle.conn_trace.specs.State.{Phase, InEvent, Choosing, Selecting, Connecting}
use Rattle.conn_trace.specs.State.{Answering, Releasing, Relaying, Collecting, Finishing}
use Rattle.conn_trace.specs.State.{Draining, Stream, Cut, Answers, TraceState, Next, Does}
use Rattle.conn_trace.specs.State.{Waits, Over, Link, Absent, Asked, Up, GivenUp, link_of}
use Rattle.conn_trace.specs.State.{ServerSide, NoServer, Sought, There, Retired, read_server}
use Rattle.conn_trace.specs.State.{read_side, stream_of}
use Rattle.conn_trace.specs.Places.{Place, place, at, is_up, is_closing, enter, next_body}
use Rattle.conn_trace.specs.Places.{after_body, data_event}
use Rattle.conn_trace.specs.Bodies.{run_body, act_item, ended_next, act_next, bodies_next}
use Rattle.conn_trace.specs.Relay.{incoming, RelayAct, BothDone, Passing, Firing, Resting}
use Rattle.conn_trace.specs.Relay.{relay_act, fired_host, collect_act, behind_fires}
use Rattle.std.proofs.Common.{Result, Ok, Err, nat_eq, ◌-◌, inl, inr}
use Rattle.event_order.specs.declared.event.EventName.TheVariants.{HttpRequest, HttpRequestData, HttpResponse, HttpResponseData}
use Rattle.px_bytes.specs.declared.fault.HttpFault.{HttpFault}
use Rattle.px_bytes.specs.declared.fault.HttpFault.TheVariants as fault
use Rattle.http_frames.specs.declared.state.BodyState.{BodyState}
use Rattle.conn_trace.specs.Item.{PassesOn, Fires, Reuses, Read, Moved, Reused, Retires, Sent, ToClient, Http as HttpReason}
use Rattle.conn_trace.specs.Gates.{other}
use Rattle.conn_trace.specs.Bodies.{peer_of}
use Rattle.http_heads.specs.Fronts.{head_part}
use Rattle.http_heads.specs.declared.front.HeadPart.{HeadPart}
use Rattle.http_heads.specs.declared.front.HeadPart.TheVariants.{HeadOf, StreamEnds, Faulty, NoHead}
use Rattle.conn_trace.specs.Fronts.{after_byte, one_less, is_at_end}
use Rattle.conn_trace.specs.Http.{with_whole}
use Rattle.conn_trace.specs.SentBodies.{last_line, continue_text, is_answered}
use Rattle.http_frames.specs.Parts.{Part, Byte, Chunk, End, Pending, Bad, part_of}
use Rattle.irule_http.specs.declared.state.Request.{Request}
use Rattle.irule_http.specs.declared.state.Response.{Response}
use Rattle.conn_trace.specs.State.{retired, AtHead, Continuing, Gathering, AtReuse, GivingUp, Retiring, Heading, Forwarding, Dropping, AtResponse, Behind, BeforeSelect, BehindMessage, Left, Leaving, leaving}
use Rattle.conn_trace.specs.Routing.{behind_asked, behind_retired}
use Rattle.conn_trace.specs.Places.{giving_up}
use Rattle.http_heads.specs.declared.line.Version.{Version}
use Rattle.http_heads.specs.declared.line.Version.TheVariants.{Http10, Http11}
use Rattle.conn_trace.specs.Messages.{reads_next, fault_by, fault_next, request_host, response_host, request_next, head_next, interim_next, asked_version, is_interim, status_next, response_next, answer_next, moves_next, body_end_next, is_counted, sending_next, gathered_place, gathered_on, http_at, gathering_next, dropping_next, reuse_next, giving_up_next, retiring_next, heading_next, head_bytes, behind_head}
use Rattle.conn_trace.specs.Trace.{serving}
use Rattle.conn_trace.specs.Phases.{message_phase, gather_phase, left_phase, SideThere}
use Rattle.conn_trace.proofs.Places.{stays, next_request_ok, told_ok, message_ok, giving_up_ok, retired_ok}
use Rattle.conn_trace.specs.Places.{finish}
use Rattle.conn_trace.specs.Trace.{choosing_next, default_next}
use Rattle.conn_trace.specs.Trace.{selected_next, selecting_next, answering_next, relay_next}
use Rattle.conn_trace.specs.Trace.{fired_next, collect_next, collecting_next, phase_next}
use Rattle.conn_trace.specs.Trace.{cut_takes, uncut, cut_open, cut_next, counted, next_item}
use Rattle.conn_trace.specs.Trace.{Unfolds, start}
use Rattle.conn_trace.specs.Phases.{RunsIn, event_phase, phase_name, phase_of, Follows, Leads}
use Rattle.conn_trace.specs.Further.{is_some_of}
use Rattle.conn_trace.specs.Phases.{finishes, Fits, OrderlyIn, Orderly, Steps}
use Rattle.conn_trace.specs.Phases.{Finishes}
use Rattle.conn_trace.proofs.Places.{same, finishing, PlaceOk, closed_ok, next_body_ok, runs_open, runs_false, enter_ok, refused_ok}

-- an item that comes in this phase
pub record StepIn (p : Phase) (l : TraceState) (i : Item) (m : TraceState) : Type 0 where
  pub orderly : Orderly m
  pub phases : Leads i (phase_name p l.finished (link_of l.server)) (phase_of m)
  pub finished : m.finished ≡ (finishes i || l.finished)
  pub once : finishes i ≡ true → l.finished ≡ false

abbrev pub NextOk : Phase → TraceState → Next → Type 0
NextOk p l (Does i m) = StepIn p l i m
NextOk p l (Waits k) = Unit {0}
NextOk p l Over = Unit {0}

never : {A : Type 0} → false ≡ true → A
never is = absurd (true≢false (sym is))

-- an item that finishes nothing, and leads to an orderly place
quiet_step : (p : Phase) (l m : TraceState) (i : Item) (fin : Bool) (q : Place) → (shown i).reason ≡ None → l.finished ≡ fin → m.finished ≡ l.finished → m.phase ≡ q.phase
    → PlaceOk fin (link_of m.server) (phase_name p fin (link_of l.server)) q → StepIn p l i m
quiet_step p l m i fin q none was stays there ok = record {
  orderly = rw (there, stays, was) ok.orderly;
  phases = rw (none, there, stays, was) ok.follows;
  finished = rw none stays;
  once = λ is. never (sym (ap is_some none) ∙ is);
}

finish_ok : (g : Setup) (r : Reason) (p : Phase) (l : TraceState) → l.finished ≡ false → Follows (phase_name p l.finished (link_of l.server)) name.Finish → NextOk p l (finish g r l)
finish_ok g r p l was before =
    let ok = closed_ok g (link_of l.server) l.host in
    record { orderly = ok.orderly; phases = (before, ok.follows); finished = refl; once = λ is. was }

act_ok : (e : EventName) (b : Handler) (bs : List Handler) (n : ℕ) (l : TraceState) (number : ℕ) (a : Act) → OrderlyIn (InEvent e (Running b bs n)) l.finished (link_of l.server)
    → StepIn (InEvent e (Running b bs n)) l (act_item number a) (record l { phase = InEvent e (Running b bs (n + 1)) })
act_ok e b bs n l number (Did (effect.Logged text)) was = record { orderly = was; phases = same _; finished = refl; once = λ is. never is }
act_ok e b bs n l number (Did (effect.Sent side bytes)) was = record { orderly = was; phases = same _; finished = refl; once = λ is. never is }
act_ok e b bs n l number (act.Called path call) was = record { orderly = was; phases = same _; finished = refl; once = λ is. never is }

ended_ok : (g : Setup) (e : EventName) (b : Handler) (bs : List Handler) (n : ℕ) (l : TraceState) (o : Outcome HostState) → OrderlyIn (InEvent e (Running b bs n)) l.finished (link_of l.server)
    → NextOk (InEvent e (Running b bs n)) l (ended_next g e b bs l o)
ended_ok g e b bs n l (Stops path call st) was = tt
ended_ok g e b bs n l (Ends code st) was = by_fault (uncaught_of code) where
  by_fault : (fault : Option TclFault) → StepIn (InEvent e (Running b bs n)) l (Ran e st.cost) (at (after_body g e l.finished (link_of l.server) b bs fault st.host) (record l { vars = st.vars; answers = record l.answers { replies = st.replies } }))
  by_fault None =
      quiet_step (InEvent e (Running b bs n)) l _ (Ran e st.cost) l.finished (next_body g e l.finished (link_of l.server) bs st.host) refl refl refl refl (next_body_ok g e l.finished (link_of l.server) bs st.host was.0 was.1.0 was.1.1)
  by_fault (Some fault) = record { orderly = was; phases = same _; finished = refl; once = λ is. never is }

body_ok : (g : Setup) (e : EventName) (b : Handler) (bs : List Handler) (n : ℕ) (l : TraceState) (v : Option Act) (o : Outcome HostState) → OrderlyIn (InEvent e (Running b bs n)) l.finished (link_of l.server)
    → NextOk (InEvent e (Running b bs n)) l (act_next e b bs n l v (ended_next g e b bs l o))
body_ok g e b bs n l None o was = ended_ok g e b bs n l o was
body_ok g e b bs n l (Some a) o was = act_ok e b bs n l l.sent.number a was

live_event : (e : EventName) (finished : Bool) (link : Link) → is_closing e ≡ false → IsTrue (is_live (event_phase e finished link))
live_event ServerClosed finished link is = absurd (true≢false is)
live_event ClientClosed finished link is = absurd (true≢false is)
live_event ClientData finished Up is = refl
live_event ClientData finished Absent is = refl
live_event ClientData finished Asked is = refl
live_event ClientData finished GivenUp is = refl
live_event ClientData finished (Left b) is = refl
live_event other finished link is = refl

failing_ok : (g : Setup) (e : EventName) (kind : FaultKind) (line : List ℕ) (bs : List Handler) (l : TraceState) → OrderlyIn (InEvent e (Failing kind line bs)) l.finished (link_of l.server)
    → NextOk (InEvent e (Failing kind line bs)) l (bodies_next g e (Failing kind line bs) l)
failing_ok g e kind line bs l was = by_closing (is_closing e) refl where
  by_closing : (c : Bool) → is_closing e ≡ c
      → StepIn (InEvent e (Failing kind line bs)) l (Logged line) (at (if c then next_body g e l.finished (link_of l.server) bs l.host else place (Finishing (Tcl kind)) l.host) l)
  by_closing true is =
      quiet_step (InEvent e (Failing kind line bs)) l _ (Logged line) l.finished (next_body g e l.finished (link_of l.server) bs l.host) refl refl refl refl (next_body_ok g e l.finished (link_of l.server) bs l.host was.0 was.1.0 was.1.1)
  by_closing false is = record {
    orderly = runs_false e l.finished is was.0;
    phases = finishing (event_phase e l.finished (link_of l.server)) (live_event e l.finished (link_of l.server) is);
    finished = refl;
    once = λ x. never x;
  }

bodies_ok : (g : Setup) (e : EventName) (bodies : Bodies) (l : TraceState) → OrderlyIn (InEvent e bodies) l.finished (link_of l.server) → NextOk (InEvent e bodies) l (bodies_next g e bodies l)
bodies_ok g e (Gated b bs) l was = record { orderly = (subst (RunsIn e) (sym was.0) (runs_open e was.1), (was.2, stays e l.finished (link_of l.server) was.1)); phases = same _; finished = refl; once = λ is. never is }
bodies_ok g e (Running b bs n) l was = body_ok g e b bs n l (slice_get (state_after (run_body g b l)).acts n) (run_body g b l) was
bodies_ok g e (Failing kind line bs) l was = failing_ok g e kind line bs l was

choosing_ok : (g : Setup) (l : TraceState) (h : HostState) (target : Target) → l.finished ≡ false → is_up (link_of l.server) ≡ false → NextOk Choosing l (choosing_next g l h target)
choosing_ok g l h Default was down = by_pool h.net.pool where
  by_pool : (pool : List ℕ) → NextOk Choosing l (default_next g l h pool)
  by_pool [] = quiet_step Choosing l _ Resumed false (enter g LbFailed (link_of l.server) h) refl was refl refl (enter_ok g LbFailed (link_of l.server) h refl down)
  by_pool (b ∷ bs) = record { orderly = (was, down); phases = same _; finished = refl; once = λ is. never is }
choosing_ok g l h (PoolOf pool) was down = record { orderly = (was, down); phases = same _; finished = refl; once = λ is. never is }
choosing_ok g l h (MemberOf pool a) was down = record { orderly = (was, down); phases = same _; finished = refl; once = λ is. never is }
choosing_ok g l h (NodeAt a) was down =
    let h' = with_selected (Some (record { pool = []; addr = a })) h in
    quiet_step Choosing l _ Resumed false (enter g LbSelected (link_of l.server) h') refl was refl refl (enter_ok g LbSelected (link_of l.server) h' refl down)

selected_ok : (g : Setup) (call : List (List ℕ)) (l : TraceState) (more : List Reply) (a : Option Addr) → l.finished ≡ false → is_up (link_of l.server) ≡ false → NextOk (Selecting call) l (selected_next g l more a)
selected_ok g call l more None was down =
    quiet_step (Selecting call) l _ Resumed false (enter g LbFailed (link_of l.server) l.host) refl was refl refl (enter_ok g LbFailed (link_of l.server) l.host refl down)
selected_ok g call l more (Some a) was down =
    let h' = with_selected (Some (record { pool = target_pool l.host.net.pool l.host.net.target; addr = a })) l.host in
    quiet_step (Selecting call) l _ Resumed false (enter g LbSelected (link_of l.server) h') refl was refl refl (enter_ok g LbSelected (link_of l.server) h' refl down)

selecting_ok : (g : Setup) (call : List (List ℕ)) (l : TraceState) (replies : List Reply) → l.finished ≡ false → is_up (link_of l.server) ≡ false → NextOk (Selecting call) l (selecting_next g call l replies)
selecting_ok g call l [] was down = tt
selecting_ok g call l (reply.Ok v ∷ more) was down = selected_ok g call l more (addr_of v) was down
selecting_ok g call l (reply.Fault fault ∷ more) was down = selected_ok g call l more None was down

answering_ok : (g : Setup) (a : Addr) (l : TraceState) (connects : List (Option Stream)) → l.finished ≡ false → NextOk (Answering a) l (answering_next g l connects)
answering_ok g a l [] was = tt
answering_ok g a l (Some s ∷ more) was =
    quiet_step (Answering a) l _ (Answered true) false (enter g ServerConnected Up (serving l.host)) refl was refl refl (enter_ok g ServerConnected Up (serving l.host) refl refl)
answering_ok g a l (None ∷ more) was =
    quiet_step (Answering a) l _ (Answered false) false (enter g LbFailed Absent l.host) refl was refl refl (refused_ok g l.host)

read_link : (n : ℕ) (v : ServerSide) → link_of (read_server n v) ≡ link_of v
read_link n NoServer = refl
read_link n Sought = refl
read_link n (There s) = refl
read_link n (Leaving b s) = refl
read_link n (Retired s) = refl

read_keeps : (side : Side) (n : ℕ) (l : TraceState) → (link_of (read_side side n l).server ≡ link_of l.server) × ((read_side side n l).finished ≡ l.finished)
read_keeps Client n l = (refl, refl)
read_keeps Server n l = (read_link n l.server, refl)

-- a relay's collect was met
fired_ok : (g : Setup) (p : Phase) (l : TraceState) (side : Side) (n : ℕ) (more : List Choice) → l.finished ≡ false → Fits (data_event side) (link_of l.server)
    → phase_name p false (link_of l.server) ≡ event_phase (data_event side) false (link_of l.server) → is_closing (data_event side) ≡ false → NextOk p l (fired_next g l side n more)
fired_ok g p l side n more was fits here open_event =
    let keeps = read_keeps side n l in
    let h = fired_host side (take n (stream_of side l).unread) l.host in
    quiet_step p l _ (Fired side n) false (enter g (data_event side) (link_of l.server) h) refl was keeps.1 refl
    (rw (keeps.0, here) (enter_ok g (data_event side) (link_of l.server) h open_event fits))

up_only : (link : Link) → is_up link ≡ true → link ≡ Up
up_only Up is = refl
up_only Absent is = never is
up_only Asked is = never is
up_only GivenUp is = never is
up_only (Left b) is = never is

not_up : (link : Link) → is_up link ≡ false → event_phase ClientData false link ≡ name.Collect
not_up Up is = absurd (true≢false is)
not_up Absent is = refl
not_up Asked is = refl
not_up GivenUp is = refl
not_up (Left b) is = refl

relay_ok : (g : Setup) (l : TraceState) (a : RelayAct) → l.finished ≡ false → is_up (link_of l.server) ≡ true → NextOk Relaying l (relay_next g l a)
relay_ok g l BothDone was up = finish_ok g Closed Relaying l was (finishing name.Relay refl)
relay_ok g l (Passing side n more) was up =
    let keeps = read_keeps side n l in
    record { orderly = (keeps.1 ∙ was, ap is_up keeps.0 ∙ up); phases = same _; finished = keeps.1; once = λ is. never is }
relay_ok g l (Firing Client n more) was up = fired_ok g Relaying l Client n more was tt (sym (ap (event_phase ClientData false) (up_only (link_of l.server) up))) refl
relay_ok g l (Firing Server n more) was up = fired_ok g Relaying l Server n more was up refl refl
relay_ok g l Resting was up = tt

collect_ok : (g : Setup) (l : TraceState) (n : ℕ) (more : Option (List Choice)) → l.finished ≡ false → is_up (link_of l.server) ≡ false → NextOk Collecting l (collect_next g l (collect_act n l.client.unread more))
collect_ok g l n None was up = tt
collect_ok g l n (Some more) was up = by_test (nat_le n (length l.client.unread)) where
  by_test : (b : Bool) → NextOk Collecting l (collect_next g l (if b then Firing Client n more else Resting))
  by_test true = fired_ok g Collecting l Client n more was tt (sym (not_up (link_of l.server) up)) refl
  by_test false = tt

collecting_ok : (g : Setup) (l : TraceState) (asks : Asks) → l.finished ≡ false → is_up (link_of l.server) ≡ false → NextOk Collecting l (collecting_next g l asks)
collecting_ok g l NotAsked was up = tt
collecting_ok g l (Stated n) was up = collect_ok g l n (behind_fires l.answers.choices) was up

-- ---- HTTP

-- n bytes of a side were read, and this is where it goes
reads_ok : (p : Phase) (l : TraceState) (side : Side) (n : ℕ) (q : Place) → l.finished ≡ false → PlaceOk false (link_of l.server) (phase_name p false (link_of l.server)) q → NextOk p l (reads_next l side n q)
reads_ok p l side n q was ok =
    let keeps = read_keeps side n l in
    quiet_step p l _ (Read side n) false q refl was keeps.1 refl (rw keeps.0 ok)

-- so many bytes of a side go over
moves_ok : (p : Phase) (l : TraceState) (side : Side) (n : ℕ) (bytes : List ℕ) (phase : Phase) → l.finished ≡ false → PlaceOk false (link_of l.server) (phase_name p false (link_of l.server)) (place phase l.host) → NextOk p l (moves_next l side n bytes phase)
moves_ok p l side n bytes phase was ok =
    let keeps = read_keeps side n l in
    quiet_step p l _ (Moved side n (peer_of l.sent.number (other side)) bytes) false (place phase l.host) refl was keeps.1 refl (rw keeps.0 ok)

fault_ok : (g : Setup) (p : Phase) (l : TraceState) (side : Side) (f : HttpFault) → l.finished ≡ false → Follows (phase_name p l.finished (link_of l.server)) name.Finish → NextOk p l (fault_next g l side f)
fault_ok g p l side f was to = by_answer (is_answered side f)
  where
    by_answer : (b : Bool) → NextOk p l (fault_by g l f b)
    by_answer true = record { orderly = was; phases = to; finished = refl; once = λ is. never is }
    by_answer false = finish_ok g (HttpReason f) p l was to

request_ok : (g : Setup) (l : TraceState) (n : ℕ) (r : Result Request HttpFault) → l.finished ≡ false → NextOk AtHead l (request_next g l n r)
request_ok g l n (Err f) was = fault_ok g AtHead l Client f was (finishing name.Request refl)
request_ok g l n (Ok r) was = reads_ok AtHead l Client n _ was (enter_ok g HttpRequest (link_of l.server) (request_host r l.host) refl tt)

head_ok : (g : Setup) (l : TraceState) (p : HeadPart) → l.finished ≡ false → NextOk AtHead l (head_next g l p)
head_ok g l (HeadOf n) was = request_ok g l n (g.heads.request (take n l.client.unread)) was
head_ok g l StreamEnds was = finish_ok g Closed AtHead l was (finishing name.Request refl)
head_ok g l (Faulty f) was = fault_ok g AtHead l Client f was (finishing name.Request refl)
head_ok g l NoHead was = tt

interim_ok : (g : Setup) (l : TraceState) (n : ℕ) (r : Response) (v : Version) → l.finished ≡ false → is_up (link_of l.server) ≡ true → NextOk AtResponse l (interim_next g l n r v)
interim_ok g l n r Http10 was up = reads_ok AtResponse l Server n (place AtResponse l.host) was (record { orderly = (refl, up); follows = same _ })
interim_ok g l n r Http11 was up =
    let keeps = read_keeps Server n l in
    quiet_step AtResponse l _ (Moved Server n ToClient (g.heads.interim r)) false (place AtResponse l.host) refl was keeps.1 refl (rw keeps.0 (record { orderly = (refl, up); follows = same _ }))

status_ok : (g : Setup) (l : TraceState) (n : ℕ) (r : Response) (switches interim : Bool) → l.finished ≡ false → is_up (link_of l.server) ≡ true → NextOk AtResponse l (status_next g l n r switches interim)
status_ok g l n r true interim was up = finish_ok g (HttpReason fault.Switching) AtResponse l was (finishing name.Response refl)
status_ok g l n r false true was up = interim_ok g l n r (asked_version (http_of l.host).came) was up
status_ok g l n r false false was up = reads_ok AtResponse l Server n _ was (enter_ok g HttpResponse (link_of l.server) (response_host r l.host) refl up)

response_ok : (g : Setup) (l : TraceState) (n : ℕ) (r : Result Response HttpFault) → l.finished ≡ false → is_up (link_of l.server) ≡ true → NextOk AtResponse l (response_next g l n r)
response_ok g l n (Err f) was up = finish_ok g (HttpReason f) AtResponse l was (finishing name.Response refl)
response_ok g l n (Ok r) was up = status_ok g l n r (nat_eq r.head.status 101) (is_interim r.head) was up

answer_ok : (g : Setup) (l : TraceState) (p : HeadPart) → l.finished ≡ false → is_up (link_of l.server) ≡ true → NextOk AtResponse l (answer_next g l p)
answer_ok g l (HeadOf n) was up = response_ok g l n (g.heads.response (http_of l.host).came (take n (stream_of Server l).unread)) was up
answer_ok g l StreamEnds was up = finish_ok g (HttpReason fault.ShortBody) AtResponse l was (finishing name.Response refl)
answer_ok g l (Faulty f) was up = finish_ok g (HttpReason f) AtResponse l was (finishing name.Response refl)
answer_ok g l NoHead was up = tt

reuse_ok : (g : Setup) (l : TraceState) (choices : List Choice) → l.finished ≡ false → is_up (link_of l.server) ≡ true → NextOk AtReuse l (reuse_next g l choices)
reuse_ok g l [] was up = tt
reuse_ok g l (Reuses true ∷ more) was up = quiet_step AtReuse l _ (Reused true) false (place (Heading Client) l.host) refl was refl refl (record { orderly = (refl, up); follows = inr (inl (0, omega arith, refl)) })
reuse_ok g l (Reuses false ∷ more) was up = quiet_step AtReuse l _ (Reused false) false (place (GivingUp BeforeSelect) l.host) refl was refl refl (record { orderly = (refl, up); follows = inr (inl (1, omega arith, refl)) })
reuse_ok g l (PassesOn side n ∷ more) was up = tt
reuse_ok g l (Fires side ∷ more) was up = tt

leaving_link : (b : Behind) (v : ServerSide) → link_of v ≡ Up → link_of (leaving b v) ≡ Left b
leaving_link b NoServer is = absurd (true≢false (sym (ap is_up is)))
leaving_link b Sought is = absurd (true≢false (sym (ap is_up is)))
leaving_link b (There s) is = refl
leaving_link b (Leaving d s) is = absurd (true≢false (sym (ap is_up is)))
leaving_link b (Retired s) is = absurd (true≢false (sym (ap is_up is)))

giving_ok : (g : Setup) (l : TraceState) (b : Behind) → l.finished ≡ false → is_up (link_of l.server) ≡ true → NextOk (GivingUp b) l (giving_up_next g l b)
giving_ok g l b was up =
    quiet_step (GivingUp b) l _ Resumed false (giving_up g b l.host) refl was refl refl (rw (leaving_link b l.server (up_only (link_of l.server) up)) (giving_up_ok g b l.host))

not_up_retired : (b : Behind) (v : ServerSide) → link_of v ≡ Left b → is_up (link_of (retired v)) ≡ false
not_up_retired b NoServer is = refl
not_up_retired b Sought is = refl
not_up_retired b (There s) is = absurd (cc)
not_up_retired b (Leaving d s) is = refl
not_up_retired b (Retired s) is = refl

retiring_ok : (g : Setup) (l : TraceState) (b : Behind) → l.finished ≡ false → link_of l.server ≡ Left b → NextOk (Retiring b) l (retiring_next l b)
retiring_ok g l b was is = quiet_step (Retiring b) l _ Retires false (place (behind_retired b l.host) l.host) refl was refl refl (retired_ok b _ l.host l.host (not_up_retired b l.server is))

heading_ok : (g : Setup) (l : TraceState) (side : Side) → l.finished ≡ false → is_up (link_of l.server) ≡ true → NextOk (Heading side) l (heading_next g l side)
heading_ok g l side was up = quiet_step (Heading side) l _ (Moved side 0 (peer_of l.sent.number (other side)) (head_bytes g side (http_of l.host))) false (place (behind_head side l.host (http_of l.host).whole) l.host) refl was refl refl (by_whole (http_of l.host).whole)
  where
    by_whole : (b : Bool) → PlaceOk false (link_of l.server) (message_phase side) (place (behind_head side l.host b) l.host)
    by_whole true = message_ok side (link_of l.server) l.host l.host up
    by_whole false = record { orderly = (refl, up); follows = same _ }

live_left : (b : Behind) → IsTrue (is_live (left_phase b))
live_left BeforeSelect = refl
live_left BehindMessage = refl

live_message : (side : Side) → IsTrue (is_live (message_phase side))
live_message Client = refl
live_message Server = refl

live_gather : (side : Side) → IsTrue (is_live (gather_phase side))
live_gather Client = refl
live_gather Server = refl

body_end_ok : (g : Setup) (l : TraceState) (side : Side) (s : BodyState) (standing : Bool) (n : ℕ) (counted : Bool) → l.finished ≡ false → is_up (link_of l.server) ≡ true → NextOk (Forwarding side s standing) l (body_end_next l side n counted standing)
body_end_ok g l side s standing n true was up = reads_ok (Forwarding side s standing) l side n _ was (message_ok side (link_of l.server) l.host l.host up)
body_end_ok g l side s standing n false was up = moves_ok (Forwarding side s standing) l side n (last_line standing) _ was (message_ok side (link_of l.server) l.host l.host up)

sending_ok : (g : Setup) (l : TraceState) (side : Side) (s : BodyState) (standing : Bool) (p : Part) → l.finished ≡ false → is_up (link_of l.server) ≡ true → NextOk (Forwarding side s standing) l (sending_next g l side s standing p)
sending_ok g l side s standing Byte was up = moves_ok (Forwarding side s standing) l side 1 _ _ was (record { orderly = (refl, up); follows = same _ })
sending_ok g l side s standing (Chunk n size) was up = moves_ok (Forwarding side s standing) l side n _ _ was (record { orderly = (refl, up); follows = same _ })
sending_ok g l side s standing (End n) was up = body_end_ok g l side s standing n (is_counted s) was up
sending_ok g l side s standing Pending was up = tt
sending_ok g l side s standing (Bad f) was up = fault_ok g (Forwarding side s standing) l side f was (finishing (message_phase side) (live_message side))

-- the event of what was gathered
gathered_ok : (g : Setup) (side : Side) (link : Link) (h : HostState) → SideThere side link → PlaceOk false link (gather_phase side) (gathered_place g side link h)
gathered_ok g Client link h there = enter_ok g HttpRequestData link h refl tt
gathered_ok g Server link h there = enter_ok g HttpResponseData link h refl there

gathered_on_ok : (g : Setup) (side : Side) (link : Link) (wanted : ℕ) (s : BodyState) (whole : Bool) (h : HostState) → SideThere side link → PlaceOk false link (gather_phase side) (gathered_on g side link wanted s whole h)
gathered_on_ok g side link wanted s true h there = gathered_ok g side link h there
gathered_on_ok g side link zero s false h there = gathered_ok g side link h there
gathered_on_ok g side link (suc n) s false h there = record { orderly = (refl, there); follows = same _ }

gathering_ok : (g : Setup) (l : TraceState) (side : Side) (wanted : ℕ) (s : BodyState) (p : Part) → l.finished ≡ false → SideThere side (link_of l.server) → NextOk (Gathering side wanted s) l (gathering_next g l side wanted s p)
gathering_ok g l side wanted s Byte was there = reads_ok (Gathering side wanted s) l side 1 _ was (gathered_on_ok g side (link_of l.server) (one_less wanted) (after_byte s) (is_at_end (after_byte s)) _ there)
gathering_ok g l side wanted s (Chunk n size) was there = reads_ok (Gathering side wanted s) l side n _ was (record { orderly = (refl, there); follows = same _ })
gathering_ok g l side wanted s (End n) was there = reads_ok (Gathering side wanted s) l side n _ was (gathered_ok g side (link_of l.server) (http_at (with_whole (http_of l.host)) l.host) there)
gathering_ok g l side wanted s Pending was there = tt
gathering_ok g l side wanted s (Bad f) was there = fault_ok g (Gathering side wanted s) l side f was (finishing (gather_phase side) (live_gather side))

dropping_ok : (g : Setup) (l : TraceState) (s : BodyState) (p : Part) → l.finished ≡ false → NextOk (Dropping s) l (dropping_next g l s p)
dropping_ok g l s Byte was = reads_ok (Dropping s) l Client 1 _ was (record { orderly = refl; follows = same _ })
dropping_ok g l s (Chunk n size) was = reads_ok (Dropping s) l Client n _ was (record { orderly = refl; follows = same _ })
dropping_ok g l s (End n) was = reads_ok (Dropping s) l Client n _ was (next_request_ok (link_of l.server) name.Answered l.host l.host (inr (inl (0, omega arith, refl))) (finishing name.Answered refl))
dropping_ok g l s Pending was = tt
dropping_ok g l s (Bad f) was = fault_ok g (Dropping s) l Client f was (finishing name.Answered refl)

phase_ok : (g : Setup) (p : Phase) (l : TraceState) → OrderlyIn p l.finished (link_of l.server) → NextOk p l (phase_next g p l)
phase_ok g (InEvent e bodies) l was = bodies_ok g e bodies l was
phase_ok g AtHead l was = head_ok g l (head_part l.client.unread l.client.ended) was
phase_ok g Continuing l was =
    quiet_step Continuing l _ (Moved Server 0 ToClient continue_text) false (place (behind_asked (link_of l.server) l.host) l.host) refl was refl refl (told_ok (link_of l.server) l.host l.host)
phase_ok g (Gathering side wanted s) l was = gathering_ok g l side wanted s (part_of s (stream_of side l).unread (stream_of side l).ended) was.0 was.1
phase_ok g AtReuse l was = reuse_ok g l l.answers.choices was.0 was.1
phase_ok g (GivingUp b) l was = giving_ok g l b was.0 was.1
phase_ok g (Retiring b) l was = retiring_ok g l b was.0 was.1
phase_ok g (Heading side) l was = heading_ok g l side was.0 was.1
phase_ok g (Forwarding side s standing) l was = sending_ok g l side s standing (part_of s (stream_of side l).unread (stream_of side l).ended) was.0 was.1
phase_ok g (Dropping s) l was = dropping_ok g l s (part_of s l.client.unread l.client.ended) was
phase_ok g AtResponse l was = answer_ok g l (head_part (stream_of Server l).unread (stream_of Server l).ended) was.0 was.1
phase_ok g Choosing l was = choosing_ok g l (with_selected None l.host) l.host.net.target was.0 was.1
phase_ok g (Selecting call) l was = selecting_ok g call l l.answers.replies was.0 was.1
phase_ok g (Connecting a) l was = record { orderly = (was.0, refl); phases = same _; finished = refl; once = λ is. never is }
phase_ok g (Answering a) l was = answering_ok g a l l.answers.connects was.0
phase_ok g Releasing l was = record { orderly = was; phases = same _; finished = refl; once = λ is. never is }
phase_ok g Relaying l was = relay_ok g l (relay_act (incoming Client l) (incoming Server l) l.answers.choices) was.0 was.1
phase_ok g Collecting l was = collecting_ok g l l.host.net.client.asks was.0 was.1
phase_ok g (Finishing r) l was = finish_ok g r (Finishing r) l was (same name.Finish)
phase_ok g Draining l was = tt

runs_live : (e : EventName) (link : Link) → RunsIn e false → IsTrue (is_live (event_phase e false link))
runs_live ServerClosed Absent runs = refl
runs_live ServerClosed Asked runs = refl
runs_live ServerClosed Up runs = refl
runs_live ServerClosed (Left BeforeSelect) runs = refl
runs_live ServerClosed (Left BehindMessage) runs = refl
runs_live ServerClosed GivenUp runs = refl
runs_live ClientClosed link runs = never runs
runs_live ClientData link runs = live_event ClientData false link refl
runs_live other link runs = refl

-- before it has finished each phase may lead to Finish
open_leads : (p : Phase) (link : Link) → OrderlyIn p false link → Follows (phase_name p false link) name.Finish
open_leads (InEvent e (Gated b bs)) link was = finishing (event_phase e false link) (live_event e false link was.1)
open_leads (InEvent e (Running b bs n)) link was = finishing (event_phase e false link) (runs_live e link was.0)
open_leads (InEvent e (Failing kind line bs)) link was = finishing (event_phase e false link) (runs_live e link was.0)
open_leads AtHead link was = finishing name.Request refl
open_leads Continuing link was = finishing name.Request refl
open_leads (Gathering side wanted s) link was = finishing (gather_phase side) (live_gather side)
open_leads AtReuse link was = finishing name.Reuse refl
open_leads (GivingUp b) link was = finishing (left_phase b) (live_left b)
open_leads (Retiring b) link was = finishing (left_phase b) (live_left b)
open_leads (Heading side) link was = finishing (message_phase side) (live_message side)
open_leads (Forwarding side s standing) link was = finishing (message_phase side) (live_message side)
open_leads (Dropping s) link was = finishing name.Answered refl
open_leads AtResponse link was = finishing name.Response refl
open_leads Choosing link was = finishing name.Select refl
open_leads (Selecting call) link was = finishing name.Select refl
open_leads (Connecting a) link was = finishing name.Connect refl
open_leads (Answering a) link was = finishing name.Connect refl
open_leads Releasing link was = finishing name.Relay refl
open_leads Relaying link was = finishing name.Relay refl
open_leads Collecting link was = finishing name.Collect refl
open_leads (Finishing r) link was = same name.Finish
open_leads Draining link was = never was

taken_ok : (g : Setup) (r : Reason) (l : TraceState) → Orderly l → l.finished ≡ false → NextOk l.phase l (finish g r (uncut l))
taken_ok g r l orderly was =
    let ok = closed_ok g (link_of l.server) l.host in
    record { orderly = ok.orderly; phases = (subst (λ x. Follows (phase_name l.phase x (link_of l.server)) name.Finish) (sym was) (open_leads l.phase (link_of l.server) (subst (λ x. OrderlyIn l.phase x (link_of l.server)) was orderly)), ok.follows); finished = refl; once = λ is. was }

cut_ok : (g : Setup) (l : TraceState) (cut : Option Cut) (o : Next) → Orderly l → NextOk l.phase l o → NextOk l.phase l (cut_next g cut l o)
cut_ok g l None o orderly ok = ok
cut_ok g l (Some c) o orderly ok = by_end l.finished refl where
  by_place : (o : Next) → l.finished ≡ false → NextOk l.phase l o → NextOk l.phase l (cut_open g c l o)
  by_place (Does i m) was ok = by_test (may_give i l.sent c.took || not (cut_takes g.http c.reason None)) where
    by_test : (b : Bool) → NextOk l.phase l (if b then Does i m else finish g (CutBy c.reason) (uncut l))
    by_test true = ok
    by_test false = taken_ok g (CutBy c.reason) l orderly was
  by_place (Waits k) was ok = by_test (cut_takes g.http c.reason (Some k)) where
    by_test : (b : Bool) → NextOk l.phase l (if b then finish g (CutBy c.reason) (uncut l) else Waits k)
    by_test true = taken_ok g (CutBy c.reason) l orderly was
    by_test false = tt
  by_place Over was ok = tt

  by_end : (b : Bool) → l.finished ≡ b → NextOk l.phase l (if b then o else cut_open g c l o)
  by_end true is = ok
  by_end false is = by_place o is ok

counted_ok : (p : Phase) (l : TraceState) (sent : Counts) (o : Next) → NextOk p l o → NextOk p l (counted sent o)
counted_ok p l sent (Does i m) ok = record { orderly = ok.orderly; phases = ok.phases; finished = ok.finished; once = ok.once }
counted_ok p l sent (Waits k) ok = tt
counted_ok p l sent Over ok = tt

next_ok : (g : Setup) (l : TraceState) → Orderly l → NextOk l.phase l (next_item g l)
unfolding next_item
next_ok g l orderly =
    counted_ok l.phase l l.sent _ (cut_ok g l l.answers.cut (phase_next g l.phase l) orderly (phase_ok g l.phase l orderly))

pub steps : (g : Setup) (l m : TraceState) (i : Item) → Orderly l → next_item g l ≡ Does i m → Steps l i m
steps g l m i orderly is =
    let ok : StepIn l.phase l i m = subst (NextOk l.phase l) is (next_ok g l orderly) in
    record { orderly = ok.orderly; phases = ok.phases; finished = ok.finished; once = ok.once }

pub start_orderly : (g : Setup) (client : Stream) (answers : Answers) → Orderly (start g client answers)
start_orderly g client answers = (enter_ok g ClientAccepted Absent (first_host g) refl refl).orderly

-- what items do to `finished`
record Counted (l m : TraceState) (items : List Item) : Type 0 where
  none : l.finished ≡ true → reasons_in items ≡ []
  once : length (reasons_in items) ≤ 1
  finished : m.finished ≡ (is_some_of (reasons_in items) || l.finished)
  orderly : Orderly m

counted_on : (g : Setup) (l mid m : TraceState) (i : Item) (items : List Item) (r : Option Reason) → (shown i).reason ≡ r → Steps l i mid → Counted mid m items → Counted l m (i ∷ items)
counted_on g l mid m i items None is step rest =
    let kept : mid.finished ≡ l.finished = step.finished ∙ ap (λ x. is_some x || l.finished) is in
    let all : reasons_in (i ∷ items) ≡ reasons_in items = ap (λ x. listed x ++ reasons_in items) is in
    record {
      none = λ done. all ∙ rest.none (kept ∙ done);
      once = rw all rest.once;
      finished = rest.finished ∙ ap (λ x. is_some_of (reasons_in items) || x) kept ∙ ap (λ x. is_some_of x || l.finished) (sym all);
      orderly = rest.orderly;
    }
counted_on g l mid m i items (Some r) is step rest =
    let finishes_now : finishes i ≡ true = ap is_some is in
    let done : mid.finished ≡ true = step.finished ∙ ap (λ x. x || l.finished) finishes_now in
    let all : reasons_in (i ∷ items) ≡ r ∷ [] = ap (λ x. listed x ++ reasons_in items) is ∙ ap (λ x. r ∷ x) (rest.none done) in
    record {
      none = λ was. never (sym (step.once finishes_now) ∙ was);
      once = rw all (omega arith);
      finished = rest.finished ∙ ap (λ x. is_some_of x || mid.finished) (rest.none done) ∙ done ∙ ap (λ x. is_some_of x || l.finished) (sym all);
      orderly = rest.orderly;
    }

counts : (g : Setup) (l m : TraceState) (items : List Item) → Orderly l → Unfolds g l items m → Counted l m items
counts g l m [] orderly is = record { none = λ done. refl; once = omega arith; finished = ap (λ x. x.finished) (sym is); orderly = subst Orderly is orderly }
counts g l m (i ∷ items) orderly (mid, step, rest) =
    let now = steps g l mid i orderly step in
    counted_on g l mid m i items (shown i).reason refl now (counts g mid m items now.orderly rest)

pub finishes_once : (g : Setup) (client : Stream) (answers : Answers) (m : TraceState) (items : List Item) → Unfolds g (start g client answers) items m → Finishes m items
finishes_once g client answers m items is =
    let all = counts g (start g client answers) m items (start_orderly g client answers) is in
    record { once = all.once; finished = all.finished ∙ at_start; orderly = all.orderly } where
      at_start : (is_some_of (reasons_in items) || (start g client answers).finished) ≡ is_some_of (reasons_in items)
      at_start = by_any (is_some_of (reasons_in items)) where
        by_any : (b : Bool) → (b || false) ≡ b
        by_any true = refl
        by_any false = refl
