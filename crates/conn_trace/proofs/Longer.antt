-- On a longer input the next item is the same, unless it waits.
use Rattle.std.proofs.Common.{◌≡◌, refl, ap, ◌∙◌, ℕ, zero, suc, ◌≤◌, List, [], ◌∷◌, ◌++◌, append-nil, length, take, Bool, true, false, ◌||◌}
use Rattle.std.proofs.Common.{Option, Some, None, arith}
use Rattle.std.proofs.lemmas.Bool.{or_parts}
use Rattle.std.specs.Prelude.{slice_get}
use Rattle.px_bytes.specs.declared.addr.Addr.{Addr}
use Rattle.px_bytes.specs.declared.addr.Side.{Side}
use Rattle.px_bytes.specs.declared.addr.Side.TheVariants.{Client, Server}
use Rattle.px_bytes.specs.declared.fault.Reply.{Reply}
use Rattle.px_bytes.specs.declared.fault.Reply.TheVariants as reply
use Rattle.rule_model.specs.Evaluator.{evaluate, inner_limit}
use Rattle.rule_model.specs.Outcome.{Act, Outcome, Ends, Waits as Stops, state, uncaught_of}
use Rattle.rule_model.specs.Laws.{state_after, Lengthens}
use Rattle.rule_model.proofs.Pairs.{more_replies}
use Rattle.event_order.specs.declared.event.EventName.{EventName}
use Rattle.event_order.specs.declared.event.EventName.TheVariants.{LbSelected, LbFailed}
use Rattle.conn_trace.specs.Item.{Reason, Closed, Rejected, Ran, Logged, Resumed, Passed}
use Rattle.conn_trace.specs.Item.{Fired, Finished}
use Rattle.conn_trace.specs.Gates.{Counts, other}
use Rattle.irule_net.specs.declared.state.Asks.{Asks}
use Rattle.irule_net.specs.declared.state.Asks.TheVariants.{NotAsked, Stated}
use Rattle.irule_net.specs.declared.state.Target.{Target}
use Rattle.irule_net.specs.declared.state.Target.TheVariants.{Default, PoolOf, MemberOf, NodeAt}
use Rattle.irule_net.specs.Steps.{target_pool}
use Rattle.conn_trace.specs.Setup.{Handler, Setup}
use Rattle.conn_trace.specs.Host.{HostState, body_setting, with_selected, http_of}
use Rattle.conn_trace.specs.Selected.{addr_of}
use Rattle.conn_trace.specs.State.{Bodies, Gated, Running, Failing, Phase}
use Rattle.conn_trace.specs.State.{InEvent, Choosing, Selecting, Connecting, Answering}
use Rattle.conn_trace.specs.State.{Releasing, Relaying, Collecting, Finishing, Draining}
use Rattle.conn_trace.specs.State.{Stream, TraceState, ForBytes, ForReply, ForRelay, Nothing}
use Rattle.conn_trace.specs.State.{Next, Does, Waits, Over, Link, link_of, stream_of}
use Rattle.conn_trace.specs.State.{server_stream, read_side, with_choices, with_replies}
use Rattle.conn_trace.specs.Places.{at, closed, enter, after_body, after_fault, data_event}
use Rattle.conn_trace.specs.Bodies.{run_body, ended_next, act_next, body_next, bodies_next}
use Rattle.conn_trace.specs.Bodies.{peer_of}
use Rattle.conn_trace.specs.Relay.{incoming, ready_of, RelayAct, BothDone, Passing, Firing}
use Rattle.conn_trace.specs.Relay.{Resting, relay_act, fired_host, collect_act, behind_fires}
use Rattle.std.proofs.Common.{sym, subst, Result, Ok, Err, nat_eq}
use Rattle.event_order.specs.declared.event.EventName.TheVariants.{HttpRequest, HttpResponse}
use Rattle.px_bytes.specs.declared.fault.HttpFault.{HttpFault}
use Rattle.px_bytes.specs.declared.fault.HttpFault.TheVariants as fault
use Rattle.http_frames.specs.declared.state.BodyState.{BodyState}
use Rattle.conn_trace.specs.Item.{Choice, PassesOn, Fires, Reuses, Read, Moved, Sent, ToClient, Retires, Http as HttpReason}
use Rattle.http_heads.specs.Fronts.{head_part}
use Rattle.http_heads.specs.declared.front.HeadPart.{HeadPart}
use Rattle.http_heads.specs.declared.front.HeadPart.TheVariants.{HeadOf, StreamEnds, Faulty, NoHead}
use Rattle.conn_trace.specs.Fronts.{after_byte}
use Rattle.conn_trace.specs.Http.{with_whole}
use Rattle.conn_trace.specs.SentBodies.{chunk_line, last_line, continue_text, is_answered}
use Rattle.http_frames.specs.Parts.{Part, Byte, Chunk, End, Pending, Bad, part_of}
use Rattle.irule_http.specs.declared.state.Request.{Request}
use Rattle.irule_http.specs.declared.state.Response.{Response}
use Rattle.conn_trace.specs.State.{AtHead, Continuing, Gathering, AtReuse, GivingUp, Retiring, Heading, Forwarding, Dropping, AtResponse, Behind, ServerSide, NoServer, Sought, There, Leaving, Retired, leaving, retired}
use Rattle.conn_trace.specs.Routing.{behind_asked, behind_retired}
use Rattle.conn_trace.specs.Places.{Place, giving_up}
use Rattle.http_heads.specs.declared.line.Version.{Version}
use Rattle.http_heads.specs.declared.line.Version.TheVariants.{Http10, Http11}
use Rattle.conn_trace.specs.Messages.{reads_next, fault_by, fault_next, request_host, response_host, request_next, head_next, interim_next, asked_version, is_interim, status_next, response_next, answer_next, moves_next, body_end_next, is_counted, sending_next, gathered_place, byte_gathered, http_at, gathering_next, dropping_next, reuse_next}
use Rattle.conn_trace.specs.Trace.{serving}
use Rattle.conn_trace.specs.Further.{longer_server, left_for}
use Rattle.http_frames.specs.Parts.{PartIn, PartStays}
use Rattle.http_frames.proofs.PartsStay.{parts_are_there}
use Rattle.conn_trace.proofs.Parts.{part_grown, HeadStays, head_grown, HeadIn, head_inside}
use Rattle.conn_trace.specs.Places.{finish}
use Rattle.conn_trace.specs.Trace.{choosing_next, default_next}
use Rattle.conn_trace.specs.Trace.{selected_next, selecting_next, answering_next, relay_next}
use Rattle.conn_trace.specs.Trace.{fired_next, collect_next, collecting_next, phase_next}
use Rattle.conn_trace.specs.Trace.{cut_next, counted, next_item}
use Rattle.conn_trace.specs.Further.{Further, longer, comes, is_some_of, on_last, first_cut}
use Rattle.conn_trace.specs.Further.{brings, Same}
use Rattle.conn_trace.proofs.Streams.{Grown, grown, read_longer, take_longer, link_same, nothing_stream, nothing_server, none_of}
use Rattle.conn_trace.proofs.Relay.{ActSame, side_in, relay_same, collect_same}

pub finish_same : (f : Further) (g : Setup) (r : Reason) (l : TraceState) → Same f (finish g r l) (finish g r (longer f l))
finish_same f g r l =
    ap (λ k. Does (Finished r) (at (closed g k l.host) (record (longer f l) { finished = true }))) (link_same f l)

-- an act that a list has stays at its place in a longer list
pub act_stays : (acts new : List Act) (n : ℕ) (a : Act) → slice_get acts n ≡ Some a → slice_get (acts ++ new) n ≡ Some a
act_stays [] new n a is = absurd (cc)
act_stays (b ∷ acts) new zero a is = is
act_stays (b ∷ acts) new (suc n) a is = act_stays acts new n a is

act_same : (f : Further) (e : EventName) (b : Handler) (bs : List Handler) (n : ℕ) (l : TraceState) (v : Option Act) (end end' : Next)
    → Same f end end' → Same f (act_next e b bs n l v end) (act_next e b bs n (longer f l) v end')
act_same f e b bs n l (Some a) end end' is = refl
act_same f e b bs n l None end end' is = is

-- a body that waits for a reply gives the acts that it gave
waits_same : (f : Further) (g : Setup) (e : EventName) (b : Handler) (bs : List Handler) (n : ℕ) (l : TraceState) (acts new : List Act) (v : Option Act) (call : _) (o : Outcome HostState)
    → slice_get acts n ≡ v → (state_after o).acts ≡ acts ++ new → (is_some_of f.replies ≡ false → body_next g e b bs n (longer f l) o ≡ act_next e b bs n (longer f l) v (Waits (ForReply call)))
    → Same f (act_next e b bs n l v (Waits (ForReply call))) (body_next g e b bs n (longer f l) o)
waits_same f g e b bs n l acts new None call o has more quiet = quiet
waits_same f g e b bs n l acts new (Some a) call o has more quiet =
    let there : slice_get (state_after o).acts n ≡ Some a = ap (λ x. slice_get x n) more ∙ act_stays acts new n a has in
    ap (λ v. act_next e b bs n (longer f l) v (ended_next g e b bs (longer f l) o)) there

body_same : (f : Further) (g : Setup) (e : EventName) (b : Handler) (bs : List Handler) (n : ℕ) (l : TraceState) (o o' : Outcome HostState)
    → Lengthens f.replies o o' → (is_some_of f.replies ≡ false → o' ≡ o) → Same f (body_next g e b bs n l o) (body_next g e b bs n (longer f l) o')
body_same f g e b bs n l (Ends code st) o' is quiet =
    rw is (act_same f e b bs n l (slice_get st.acts n) _ _ (ap (λ k. Does (Ran e st.cost) (at (after_body g e l.finished k b bs (uncaught_of code) st.host) (with_replies (st.replies ++ f.replies) (record (longer f l) { vars = st.vars })))) (link_same f l)))
body_same f g e b bs n l (Stops path call st) o' is quiet =
    waits_same f g e b bs n l st.acts is.0 (slice_get st.acts n) call o' refl is.1 (λ idle. ap (body_next g e b bs n (longer f l)) (quiet idle))

run_longer : (f : Further) (g : Setup) (b : Handler) (l : TraceState) → Lengthens f.replies (run_body g b l) (run_body g b (longer f l))
unfolding evaluate
run_longer f g b l =
    more_replies (body_setting g b.procedures) inner_limit inner_limit b.body [] (state l.vars l.host l.answers.replies g.budget 0 []) f.replies

run_quiet : (f : Further) (g : Setup) (b : Handler) (l : TraceState) → is_some_of f.replies ≡ false → run_body g b (longer f l) ≡ run_body g b l
run_quiet f g b l idle =
    ap (λ r. evaluate (body_setting g b.procedures) b.body l.vars l.host r g.budget) (ap (λ r. l.answers.replies ++ r) (none_of f.replies idle) ∙ append-nil l.answers.replies)

bodies_same : (f : Further) (g : Setup) (e : EventName) (bodies : Bodies) (l : TraceState) → Same f (bodies_next g e bodies l) (bodies_next g e bodies (longer f l))
bodies_same f g e (Gated b bs) l = refl
bodies_same f g e (Running b bs n) l =
    body_same f g e b bs n l (run_body g b l) (run_body g b (longer f l)) (run_longer f g b l) (run_quiet f g b l)
bodies_same f g e (Failing kind line bs) l =
    ap (λ k. Does (Logged line) (at (after_fault g e l.finished k kind bs l.host) (longer f l))) (link_same f l)

choosing_same : (f : Further) (g : Setup) (l : TraceState) (h : HostState) (target : Target) → Same f (choosing_next g l h target) (choosing_next g (longer f l) h target)
choosing_same f g l h Default = by_pool h.net.pool where
  by_pool : (pool : List ℕ) → Same f (default_next g l h pool) (default_next g (longer f l) h pool)
  by_pool [] = ap (λ k. Does Resumed (at (enter g LbFailed k h) (longer f l))) (link_same f l)
  by_pool (b ∷ bs) = refl
choosing_same f g l h (PoolOf pool) = refl
choosing_same f g l h (MemberOf pool a) = refl
choosing_same f g l h (NodeAt a) =
    ap (λ k. Does Resumed (at (enter g LbSelected k (with_selected (Some (record { pool = []; addr = a })) h)) (longer f l))) (link_same f l)

selected_same : (f : Further) (g : Setup) (l : TraceState) (more : List Reply) (a : Option Addr) → Same f (selected_next g l more a) (selected_next g (longer f l) (more ++ f.replies) a)
selected_same f g l more None =
    ap (λ k. Does Resumed (at (enter g LbFailed k l.host) (with_replies (more ++ f.replies) (longer f l)))) (link_same f l)
selected_same f g l more (Some a) =
    let h = with_selected (Some (record { pool = target_pool l.host.net.pool l.host.net.target; addr = a })) l.host in
    ap (λ k. Does Resumed (at (enter g LbSelected k h) (with_replies (more ++ f.replies) (longer f l)))) (link_same f l)

selecting_same : (f : Further) (g : Setup) (call : List (List ℕ)) (l : TraceState) (replies : List Reply) → Same f (selecting_next g call l replies) (selecting_next g call (longer f l) (replies ++ f.replies))
selecting_same f g call l [] = λ idle. ap (selecting_next g call (longer f l)) (none_of f.replies idle)
selecting_same f g call l (reply.Ok v ∷ more) = selected_same f g l more (addr_of v)
selecting_same f g call l (reply.Fault fault ∷ more) = selected_same f g l more None

answering_same : (f : Further) (g : Setup) (l : TraceState) (connects : List (Option Stream)) → Same f (answering_next g l connects) (answering_next g (longer f l) (on_last f.server connects ++ f.connects))
answering_same f g l [] = λ idle. ap (answering_next g (longer f l)) (none_of f.connects idle)
answering_same f g l (Some s ∷ more) = refl
answering_same f g l (None ∷ more) = refl

fired_same : (f : Further) (g : Setup) (l : TraceState) (side : Side) (n : ℕ) (more : List _) → n ≤ length (stream_of side l).unread
    → Same f (fired_next g l side n more) (fired_next g (longer f l) side n (more ++ f.choices))
fired_same f g l side n more within =
    let goes : Link → List ℕ → TraceState → Next = λ k bytes m. Does (Fired side n) (at (enter g (data_event side) k (fired_host side bytes l.host)) (with_choices (more ++ f.choices) m)) in
    ap (λ k. goes k (take n (stream_of side (longer f l)).unread) (read_side side n (longer f l))) (link_same f l)
    ∙ (ap (λ bytes. goes (link_of l.server) bytes (read_side side n (longer f l))) (take_longer side f l n within)
    ∙ ap (goes (link_of l.server) (take n (stream_of side l).unread)) (read_longer side f l n within))

record Quiet (f : Further) (l : TraceState) : Type 0 where
  client : incoming Client (longer f l) ≡ incoming Client l
  server : incoming Server (longer f l) ≡ incoming Server l
  choices : (choices : List _) → choices ++ f.choices ≡ choices

quiet_of : (f : Further) (l : TraceState) → (comes f.client || (comes f.server || is_some_of f.choices)) ≡ false → Quiet f l
quiet_of f l idle =
    let first = or_parts (comes f.client) (comes f.server || is_some_of f.choices) idle in
    let second = or_parts (comes f.server) (is_some_of f.choices) first.1 in
    record {
      client = ap (side_in l.host.net.client.asks) (nothing_stream f.client l.client first.0);
      server = ap (λ v. side_in l.host.net.server.asks (server_stream v)) (nothing_server f.server l.answers.connects l.server second.0);
      choices = λ choices. ap (λ more. choices ++ more) (none_of f.choices second.1) ∙ append-nil choices;
    }

relay_next_same : (f : Further) (g : Setup) (l : TraceState) (a a' : RelayAct) → ActSame f.choices (incoming Client l) (incoming Server l) a a' → (Quiet f l → a' ≡ a)
    → Same f (relay_next g l a) (relay_next g (longer f l) a')
relay_next_same f g l BothDone a' is quiet = ap (relay_next g (longer f l)) is ∙ finish_same f g Closed l
relay_next_same f g l (Passing Client n more) a' is quiet =
    let goes : List ℕ → TraceState → Next = λ bytes m. Does (Passed Client (peer_of l.sent.number (other Client)) bytes) (record (with_choices (more ++ f.choices) m) { phase = Relaying }) in
    ap (relay_next g (longer f l)) is.0
    ∙ (ap (λ bytes. goes bytes (read_side Client n (longer f l))) (take_longer Client f l n is.1)
    ∙ ap (goes (take n (stream_of Client l).unread)) (read_longer Client f l n is.1))
relay_next_same f g l (Passing Server n more) a' is quiet =
    let goes : List ℕ → TraceState → Next = λ bytes m. Does (Passed Server (peer_of l.sent.number (other Server)) bytes) (record (with_choices (more ++ f.choices) m) { phase = Relaying }) in
    ap (relay_next g (longer f l)) is.0
    ∙ (ap (λ bytes. goes bytes (read_side Server n (longer f l))) (take_longer Server f l n is.1)
    ∙ ap (goes (take n (stream_of Server l).unread)) (read_longer Server f l n is.1))
relay_next_same f g l (Firing Client n more) a' is quiet = ap (relay_next g (longer f l)) is.0 ∙ fired_same f g l Client n more is.1
relay_next_same f g l (Firing Server n more) a' is quiet = ap (relay_next g (longer f l)) is.0 ∙ fired_same f g l Server n more is.1
relay_next_same f g l Resting a' is quiet = λ idle.
    let q = quiet_of f l idle in
    ap (relay_next g (longer f l)) (quiet q) ∙ (ap (λ c. Waits (ForRelay (ready_of c) (ready_of (incoming Server (longer f l))))) q.client ∙ ap (λ s. Waits (ForRelay (ready_of (incoming Client l)) (ready_of s))) q.server)

relaying_same : (f : Further) (g : Setup) (l : TraceState) → Same f (phase_next g Relaying l) (phase_next g Relaying (longer f l))
relaying_same f g l =
    relay_next_same f g l (relay_act (incoming Client l) (incoming Server l) l.answers.choices) (relay_act (incoming Client (longer f l)) (incoming Server (longer f l)) (l.answers.choices ++ f.choices))
    (relay_same (incoming Client l) (incoming Server l) (stream_of Client (longer f l)) (stream_of Server (longer f l)) (grown Client f l) (grown Server f l) l.answers.choices f.choices)
    (λ q. ap (λ c. relay_act c (incoming Server (longer f l)) (l.answers.choices ++ f.choices)) q.client
    ∙ (ap (λ s. relay_act (incoming Client l) s (l.answers.choices ++ f.choices)) q.server ∙ ap (relay_act (incoming Client l) (incoming Server l)) (q.choices l.answers.choices)))

collect_next_same : (f : Further) (g : Setup) (l : TraceState) (n : ℕ) (a a' : RelayAct) → ActSame f.choices (side_in (Stated n) l.client) (incoming Server l) a a' → (Quiet f l → a' ≡ a)
    → Same f (collect_next g l a) (collect_next g (longer f l) a')
collect_next_same f g l n BothDone a' is quiet = ap (collect_next g (longer f l)) is ∙ finish_same f g Closed l
collect_next_same f g l n (Passing side k more) a' is quiet = λ idle. ap (collect_next g (longer f l)) is.0
collect_next_same f g l n (Firing Client k more) a' is quiet = ap (collect_next g (longer f l)) is.0 ∙ fired_same f g l Client k more is.1
collect_next_same f g l n (Firing Server k more) a' is quiet = ap (collect_next g (longer f l)) is.0 ∙ fired_same f g l Server k more is.1
collect_next_same f g l n Resting a' is quiet = λ idle.
    let q = quiet_of f l idle in
    ap (collect_next g (longer f l)) (quiet q) ∙ ap (λ c. Waits (ForRelay (ready_of c) Nothing)) q.client

collecting_same : (f : Further) (g : Setup) (l : TraceState) (asks : Asks) → Same f (collecting_next g l asks) (collecting_next g (longer f l) asks)
collecting_same f g l NotAsked = λ idle. refl
collecting_same f g l (Stated n) =
    collect_next_same f g l n (collect_act n l.client.unread (behind_fires l.answers.choices)) (collect_act n (longer f l).client.unread (behind_fires (l.answers.choices ++ f.choices)))
    (collect_same n l.client (incoming Server l) (longer f l).client (grown Client f l) l.answers.choices f.choices)
    (λ q. ap (λ c. collect_act n c.stream.unread (behind_fires (l.answers.choices ++ f.choices))) q.client ∙ ap (λ x. collect_act n l.client.unread (behind_fires x)) (q.choices l.answers.choices))

quiet_side : (f : Further) (l : TraceState) (side : Side) → brings f (ForBytes side) ≡ false → stream_of side (longer f l) ≡ stream_of side l
quiet_side f l Client idle = nothing_stream f.client l.client idle
quiet_side f l Server idle = ap server_stream (nothing_server f.server l.answers.connects l.server idle)

reads_same : (f : Further) (l : TraceState) (side : Side) (n : ℕ) (p p' : Place) → n ≤ length (stream_of side l).unread → p' ≡ p → Same f (reads_next l side n p) (reads_next (longer f l) side n p')
reads_same f l side n p p' within is =
    ap (λ q. Does (Read side n) (at q (read_side side n (longer f l)))) is ∙ ap (λ m. Does (Read side n) (at p m)) (read_longer side f l n within)

fault_same : (f : Further) (g : Setup) (l : TraceState) (side : Side) (fault : HttpFault) → Same f (fault_next g l side fault) (fault_next g (longer f l) side fault)
fault_same f g l side fault = by_answer (is_answered side fault)
  where
    by_answer : (b : Bool) → Same f (fault_by g l fault b) (fault_by g (longer f l) fault b)
    by_answer true = refl
    by_answer false = finish_same f g (HttpReason fault) l

-- what comes next where the longer stream's is the same
by_same : (f : Further) (o x y : Next) → y ≡ x → Same f o x → Same f o y
by_same f o x y is same = subst (Same f o) (sym is) same

entered_same : (f : Further) (g : Setup) (e : EventName) (l : TraceState) (h : HostState) → enter g e (link_of (longer f l).server) h ≡ enter g e (link_of l.server) h
entered_same f g e l h = ap (λ k. enter g e k h) (link_same f l)

request_same : (f : Further) (g : Setup) (l : TraceState) (n : ℕ) (r : Result Request HttpFault) → n ≤ length l.client.unread → Same f (request_next g l n r) (request_next g (longer f l) n r)
request_same f g l n (Err fault) within = fault_same f g l Client fault
request_same f g l n (Ok r) within = reads_same f l Client n _ _ within (entered_same f g HttpRequest l (request_host r l.host))

head_next_same : (f : Further) (g : Setup) (l : TraceState) (p p' : HeadPart) → HeadStays p p' → HeadIn l.client.unread p → (brings f (ForBytes Client) ≡ false → p' ≡ p)
    → Same f (head_next g l p) (head_next g (longer f l) p')
head_next_same f g l (HeadOf n) p' is within quiet =
    by_same f (head_next g l (HeadOf n)) _ _
    (ap (head_next g (longer f l)) is ∙ ap (λ bytes. request_next g (longer f l) n (g.heads.request bytes)) (take_longer Client f l n within))
    (request_same f g l n (g.heads.request (take n l.client.unread)) within)
head_next_same f g l StreamEnds p' is within quiet = ap (head_next g (longer f l)) is ∙ finish_same f g Closed l
head_next_same f g l (Faulty fault) p' is within quiet = by_same f (fault_next g l Client fault) _ _ (ap (head_next g (longer f l)) is) (fault_same f g l Client fault)
head_next_same f g l NoHead p' is within quiet = λ idle. ap (head_next g (longer f l)) (quiet idle)

interim_same : (f : Further) (g : Setup) (l : TraceState) (n : ℕ) (r : Response) (v : Version) → n ≤ length (stream_of Server l).unread → Same f (interim_next g l n r v) (interim_next g (longer f l) n r v)
interim_same f g l n r Http10 within = reads_same f l Server n _ _ within refl
interim_same f g l n r Http11 within = ap (λ x. Does (Moved Server n ToClient (g.heads.interim r)) (record x { phase = AtResponse })) (read_longer Server f l n within)

status_same : (f : Further) (g : Setup) (l : TraceState) (n : ℕ) (r : Response) (switches interim : Bool) → n ≤ length (stream_of Server l).unread → Same f (status_next g l n r switches interim) (status_next g (longer f l) n r switches interim)
status_same f g l n r true interim within = finish_same f g (HttpReason fault.Switching) l
status_same f g l n r false true within = interim_same f g l n r (asked_version (http_of l.host).came) within
status_same f g l n r false false within = reads_same f l Server n _ _ within (entered_same f g HttpResponse l (response_host r l.host))

response_same : (f : Further) (g : Setup) (l : TraceState) (n : ℕ) (r : Result Response HttpFault) → n ≤ length (stream_of Server l).unread → Same f (response_next g l n r) (response_next g (longer f l) n r)
response_same f g l n (Err fault) within = finish_same f g (HttpReason fault) l
response_same f g l n (Ok r) within = status_same f g l n r (nat_eq r.head.status 101) (is_interim r.head) within

answer_next_same : (f : Further) (g : Setup) (l : TraceState) (p p' : HeadPart) → HeadStays p p' → HeadIn (stream_of Server l).unread p → (brings f (ForBytes Server) ≡ false → p' ≡ p)
    → Same f (answer_next g l p) (answer_next g (longer f l) p')
answer_next_same f g l (HeadOf n) p' is within quiet =
    by_same f (answer_next g l (HeadOf n)) _ _
    (ap (answer_next g (longer f l)) is ∙ ap (λ bytes. response_next g (longer f l) n (g.heads.response (http_of l.host).came bytes)) (take_longer Server f l n within))
    (response_same f g l n (g.heads.response (http_of l.host).came (take n (stream_of Server l).unread)) within)
answer_next_same f g l StreamEnds p' is within quiet = ap (answer_next g (longer f l)) is ∙ finish_same f g (HttpReason fault.ShortBody) l
answer_next_same f g l (Faulty fault) p' is within quiet = ap (answer_next g (longer f l)) is ∙ finish_same f g (HttpReason fault) l
answer_next_same f g l NoHead p' is within quiet = λ idle. ap (answer_next g (longer f l)) (quiet idle)

moves_same : (f : Further) (l : TraceState) (side : Side) (n : ℕ) (bytes : List ℕ) (phase : Phase) → n ≤ length (stream_of side l).unread → Same f (moves_next l side n bytes phase) (moves_next (longer f l) side n bytes phase)
moves_same f l side n bytes phase within =
    ap (λ m. Does (Moved side n (peer_of l.sent.number (other side)) bytes) (record m { phase = phase })) (read_longer side f l n within)

body_end_same : (f : Further) (l : TraceState) (side : Side) (n : ℕ) (counted standing : Bool) → n ≤ length (stream_of side l).unread → Same f (body_end_next l side n counted standing) (body_end_next (longer f l) side n counted standing)
body_end_same f l side n true standing within = reads_same f l side n _ _ within refl
body_end_same f l side n false standing within = moves_same f l side n (last_line standing) _ within

sending_same : (f : Further) (g : Setup) (l : TraceState) (side : Side) (s : BodyState) (standing : Bool) (p p' : Part) → PartStays p p' → PartIn (stream_of side l).unread p → (brings f (ForBytes side) ≡ false → p' ≡ p)
    → Same f (sending_next g l side s standing p) (sending_next g (longer f l) side s standing p')
sending_same f g l side s standing Byte p' is within quiet =
    by_same f (sending_next g l side s standing Byte) _ _
    (ap (sending_next g (longer f l) side s standing) is ∙ ap (λ bytes. moves_next (longer f l) side 1 bytes (Forwarding side (after_byte s) standing)) (take_longer side f l 1 within))
    (moves_same f l side 1 (take 1 (stream_of side l).unread) (Forwarding side (after_byte s) standing) within)
sending_same f g l side s standing (Chunk n size) p' is within quiet =
    by_same f (sending_next g l side s standing (Chunk n size)) _ _ (ap (sending_next g (longer f l) side s standing) is) (moves_same f l side n (chunk_line standing size) _ within)
sending_same f g l side s standing (End n) p' is within quiet =
    by_same f (sending_next g l side s standing (End n)) _ _ (ap (sending_next g (longer f l) side s standing) is) (body_end_same f l side n (is_counted s) standing within)
sending_same f g l side s standing Pending p' is within quiet = λ idle. ap (sending_next g (longer f l) side s standing) (quiet idle)
sending_same f g l side s standing (Bad fault) p' is within quiet =
    by_same f (sending_next g l side s standing (Bad fault)) _ _ (ap (sending_next g (longer f l) side s standing) is) (fault_same f g l side fault)

gathering_same : (f : Further) (g : Setup) (l : TraceState) (side : Side) (wanted : ℕ) (s : BodyState) (p p' : Part) → PartStays p p' → PartIn (stream_of side l).unread p → (brings f (ForBytes side) ≡ false → p' ≡ p)
    → Same f (gathering_next g l side wanted s p) (gathering_next g (longer f l) side wanted s p')
gathering_same f g l side wanted s Byte p' is within quiet =
    by_same f (gathering_next g l side wanted s Byte) _ _ (ap (gathering_next g (longer f l) side wanted s) is)
    (reads_same f l side 1 _ _ within
    (ap (λ k. byte_gathered g side k wanted (after_byte s) (take 1 (stream_of side (longer f l)).unread) l.host) (link_same f l)
    ∙ ap (λ bytes. byte_gathered g side (link_of l.server) wanted (after_byte s) bytes l.host) (take_longer side f l 1 within)))
gathering_same f g l side wanted s (Chunk n size) p' is within quiet =
    by_same f (gathering_next g l side wanted s (Chunk n size)) _ _ (ap (gathering_next g (longer f l) side wanted s) is) (reads_same f l side n _ _ within refl)
gathering_same f g l side wanted s (End n) p' is within quiet =
    by_same f (gathering_next g l side wanted s (End n)) _ _ (ap (gathering_next g (longer f l) side wanted s) is)
    (reads_same f l side n _ _ within (ap (λ k. gathered_place g side k (http_at (with_whole (http_of l.host)) l.host)) (link_same f l)))
gathering_same f g l side wanted s Pending p' is within quiet = λ idle. ap (gathering_next g (longer f l) side wanted s) (quiet idle)
gathering_same f g l side wanted s (Bad fault) p' is within quiet =
    by_same f (gathering_next g l side wanted s (Bad fault)) _ _ (ap (gathering_next g (longer f l) side wanted s) is) (fault_same f g l side fault)

dropping_same : (f : Further) (g : Setup) (l : TraceState) (s : BodyState) (p p' : Part) → PartStays p p' → PartIn l.client.unread p → (brings f (ForBytes Client) ≡ false → p' ≡ p)
    → Same f (dropping_next g l s p) (dropping_next g (longer f l) s p')
dropping_same f g l s Byte p' is within quiet = by_same f (dropping_next g l s Byte) _ _ (ap (dropping_next g (longer f l) s) is) (reads_same f l Client 1 _ _ within refl)
dropping_same f g l s (Chunk n size) p' is within quiet = by_same f (dropping_next g l s (Chunk n size)) _ _ (ap (dropping_next g (longer f l) s) is) (reads_same f l Client n _ _ within refl)
dropping_same f g l s (End n) p' is within quiet = by_same f (dropping_next g l s (End n)) _ _ (ap (dropping_next g (longer f l) s) is) (reads_same f l Client n _ _ within refl)
dropping_same f g l s Pending p' is within quiet = λ idle. ap (dropping_next g (longer f l) s) (quiet idle)
dropping_same f g l s (Bad fault) p' is within quiet = by_same f (dropping_next g l s (Bad fault)) _ _ (ap (dropping_next g (longer f l) s) is) (fault_same f g l Client fault)

reuse_same : (f : Further) (g : Setup) (l : TraceState) (choices : List Choice) → Same f (reuse_next g l choices) (reuse_next g (longer f l) (choices ++ f.choices))
reuse_same f g l [] = λ idle. ap (reuse_next g (longer f l)) (none_of f.choices idle)
reuse_same f g l (Reuses true ∷ more) = refl
reuse_same f g l (Reuses false ∷ more) = refl
reuse_same f g l (PassesOn side n ∷ more) = λ idle. refl
reuse_same f g l (Fires side ∷ more) = λ idle. refl

leaving_same : (b : Behind) (c : Option _) (v : ServerSide) → leaving b (longer_server c v) ≡ longer_server c (leaving b v)
leaving_same b c NoServer = refl
leaving_same b c Sought = refl
leaving_same b c (There s) = refl
leaving_same b c (Leaving d s) = refl
leaving_same b c (Retired s) = refl

retired_same : (c : Option _) (v : ServerSide) → retired (longer_server c v) ≡ longer_server c (retired v)
retired_same c NoServer = refl
retired_same c Sought = refl
retired_same c (There s) = refl
retired_same c (Leaving d s) = refl
retired_same c (Retired s) = refl

pub phase_same : (f : Further) (g : Setup) (phase : Phase) (l : TraceState) → Same f (phase_next g phase l) (phase_next g phase (longer f l))
phase_same f g (InEvent e bodies) l = bodies_same f g e bodies l
phase_same f g AtHead l =
    head_next_same f g l (head_part l.client.unread l.client.ended) (head_part (longer f l).client.unread (longer f l).client.ended) (head_grown l.client (longer f l).client (grown Client f l)) (head_inside l.client.unread l.client.ended)
    (λ idle. ap (λ s. head_part s.unread s.ended) (quiet_side f l Client idle))
phase_same f g Continuing l = ap (λ k. Does (Moved Server 0 ToClient continue_text) (record (longer f l) { phase = behind_asked k l.host })) (link_same f l)
phase_same f g (Gathering side wanted s) l =
    let before = stream_of side l in
    let behind = stream_of side (longer f l) in
    gathering_same f g l side wanted s (part_of s before.unread before.ended) (part_of s behind.unread behind.ended) (part_grown s before behind (grown side f l)) (parts_are_there s before.unread before.ended)
    (λ idle. ap (λ t. part_of s t.unread t.ended) (quiet_side f l side idle))
phase_same f g AtReuse l = reuse_same f g l l.answers.choices
phase_same f g (GivingUp b) l = ap (λ v. Does Resumed (at (giving_up g b l.host) (record (longer f l) { server = v }))) (leaving_same b (left_for f.server l.answers.connects) l.server)
phase_same f g (Retiring b) l = ap (λ v. Does Retires (record (longer f l) { phase = behind_retired b l.host; server = v })) (retired_same (left_for f.server l.answers.connects) l.server)
phase_same f g (Heading side) l = refl
phase_same f g (Forwarding side s standing) l =
    let before = stream_of side l in
    let behind = stream_of side (longer f l) in
    sending_same f g l side s standing (part_of s before.unread before.ended) (part_of s behind.unread behind.ended) (part_grown s before behind (grown side f l)) (parts_are_there s before.unread before.ended)
    (λ idle. ap (λ t. part_of s t.unread t.ended) (quiet_side f l side idle))
phase_same f g (Dropping s) l =
    let before = l.client in
    let behind = (longer f l).client in
    dropping_same f g l s (part_of s before.unread before.ended) (part_of s behind.unread behind.ended) (part_grown s before behind (grown Client f l)) (parts_are_there s before.unread before.ended)
    (λ idle. ap (λ t. part_of s t.unread t.ended) (quiet_side f l Client idle))
phase_same f g AtResponse l =
    let before = stream_of Server l in
    let behind = stream_of Server (longer f l) in
    answer_next_same f g l (head_part before.unread before.ended) (head_part behind.unread behind.ended) (head_grown before behind (grown Server f l)) (head_inside before.unread before.ended)
    (λ idle. ap (λ s. head_part s.unread s.ended) (quiet_side f l Server idle))
phase_same f g Choosing l = choosing_same f g l (with_selected None l.host) l.host.net.target
phase_same f g (Selecting call) l = selecting_same f g call l l.answers.replies
phase_same f g (Connecting a) l = refl
phase_same f g (Answering a) l = answering_same f g l l.answers.connects
phase_same f g Releasing l = refl
phase_same f g Relaying l = relaying_same f g l
phase_same f g Collecting l = collecting_same f g l l.host.net.client.asks
phase_same f g (Finishing r) l = finish_same f g r l
phase_same f g Draining l = refl

counted_same : (f : Further) (sent : Counts) (o o' : Next) → Same f o o' → Same f (counted sent o) (counted sent o')
counted_same f sent (Does i m) o' is = ap (counted sent) is
counted_same f sent (Waits k) o' is = λ idle. ap (counted sent) (is idle)
counted_same f sent Over o' is = ap (counted sent) is

-- where no cut is recorded the wrapper only counts
pub plain_next : (g : Setup) (l : TraceState) → l.answers.cut ≡ None → next_item g l ≡ counted l.sent (phase_next g l.phase l)
unfolding next_item
plain_next g l none = ap (λ c. counted l.sent (cut_next g c l (phase_next g l.phase l))) none

pub next_same : (g : Setup) (l : TraceState) (f : Further) → l.answers.cut ≡ None → f.cut ≡ None → Same f (next_item g l) (next_item g (longer f l))
next_same g l f none later =
    let after : (longer f l).answers.cut ≡ None = ap (λ c. first_cut c f.cut) none ∙ later in
    let both : Same f (counted l.sent (phase_next g l.phase l)) (counted l.sent (phase_next g l.phase (longer f l))) = counted_same f l.sent _ _ (phase_same f g l.phase l) in
    rw (plain_next g l none, plain_next g (longer f l) after) both
