-- With HTTP no collect of a side is asked, and without it no phase of HTTP is reached and no server connection is given up.
use Rattle.std.proofs.Common.{◌≡◌, refl, sym, ap, subst, ◌∙◌, ℕ, suc, zero, ◌+◌, List, [], ◌∷◌, take, Bool, true, false, ◌&&◌, ◌||◌, not, true≢false, if◌then◌else◌, Option, Some, None, option_map, Result, Ok, Err, nat_eq, arith}
use Rattle.std.specs.Prelude.{slice_get}
use Rattle.std.specs.Option.{is_some}
use Rattle.px_bytes.specs.declared.addr.Addr.{Addr}
use Rattle.px_bytes.specs.declared.addr.Side.{Side}
use Rattle.px_bytes.specs.declared.addr.Side.TheVariants.{Client, Server}
use Rattle.px_bytes.specs.declared.fault.FaultKind.{FaultKind}
use Rattle.px_bytes.specs.declared.fault.HttpFault.{HttpFault}
use Rattle.px_bytes.specs.declared.fault.HttpFault.TheVariants as fault
use Rattle.px_bytes.specs.declared.fault.Reply.{Reply}
use Rattle.px_bytes.specs.declared.fault.Reply.TheVariants as reply
use Rattle.px_bytes.specs.declared.fault.TclFault.{TclFault}
use Rattle.rule_model.specs.Outcome.{Act, Outcome, Ends, Waits as Stops, uncaught_of}
use Rattle.rule_model.specs.Laws.{state_after}
use Rattle.event_order.specs.declared.event.EventName.{EventName}
use Rattle.event_order.specs.declared.event.EventName.TheVariants.{ClientAccepted, ClientData, ClientClosed, ServerConnected, ServerData, ServerClosed, LbSelected, LbFailed, HttpRequest, HttpRequestData, HttpResponse, HttpResponseData}
use Rattle.irule_net.specs.State.{collected}
use Rattle.irule_net.specs.Steps.{target_pool}
use Rattle.irule_net.specs.declared.state.Asks.{Asks}
use Rattle.irule_net.specs.declared.state.Asks.TheVariants.{NotAsked, Stated}
use Rattle.irule_net.specs.declared.state.Collected.{Collected}
use Rattle.irule_net.specs.declared.state.Ending.{Ending}
use Rattle.irule_net.specs.declared.state.Ending.TheVariants.{Rejects, Closes}
use Rattle.irule_net.specs.declared.state.Selected.{Selected}
use Rattle.irule_net.specs.declared.state.Target.{Target}
use Rattle.irule_net.specs.declared.state.Target.TheVariants.{Default, PoolOf, MemberOf, NodeAt}
use Rattle.http_heads.specs.declared.line.Version.{Version}
use Rattle.http_heads.specs.declared.line.Version.TheVariants.{Http10, Http11}
use Rattle.http_frames.specs.Parts.{Part, Byte, Chunk, End, Pending, Bad, part_of}
use Rattle.http_frames.specs.declared.state.BodyState.{BodyState}
use Rattle.http_frames.specs.declared.state.BodyState.TheVariants as body
use Rattle.irule_http.specs.State.{no_http}
use Rattle.irule_http.specs.declared.state.Http.{Http}
use Rattle.irule_http.specs.declared.state.Request.{Request}
use Rattle.irule_http.specs.declared.state.Response.{Response}
use Rattle.conn_trace.specs.Bodies.{run_body, ended_next, act_next, bodies_next}
use Rattle.http_heads.specs.Fronts.{head_part}
use Rattle.http_heads.specs.declared.front.HeadPart.{HeadPart}
use Rattle.http_heads.specs.declared.front.HeadPart.TheVariants.{HeadOf, StreamEnds, Faulty, NoHead}
use Rattle.conn_trace.specs.Fronts.{after_byte, is_at_end, one_less}
use Rattle.conn_trace.specs.Gates.{Counts, may_give}
use Rattle.conn_trace.specs.Host.{HostState, first_host, host_table, http_known, with_loose, with_selected, speaks_http}
use Rattle.conn_trace.specs.Http.{with_gathered, with_whole}
use Rattle.conn_trace.specs.Item.{Item, Choice, PassesOn, Fires, Reuses, Reason, Closed, CutBy, Http as HttpReason, Tcl, Unselected}
use Rattle.conn_trace.specs.Routing.{behind_accept, behind_accepted, behind_connect, behind_connected, behind_failed, next_request, behind_message, behind_retired, behind_asked, chosen}
use Rattle.conn_trace.specs.Places.{Place, place, begun, http_begun, bodies_left, closed_client, closed_server, closed, connecting, behind_data, goes_on, unless_ended, after_server, after_event, enter, entered, next_body, after_fault, after_body, is_closing, giving_up, data_event, gather_event}
use Rattle.conn_trace.specs.Relay.{RelayAct, BothDone, Passing, Firing, Resting, fired_host, relay_act, collect_act, behind_fires, incoming}
use Rattle.conn_trace.specs.Selected.{addr_of}
use Rattle.conn_trace.specs.SentBodies.{chunk_line, is_answered, last_line}
use Rattle.conn_trace.specs.Setup.{Handler, Setup}
use Rattle.conn_trace.specs.Spoken.{is_http_event, is_http_phase, is_given_up, HostSpeaks, Speaks, HttpIsSpoken}
use Rattle.conn_trace.specs.State.{Bodies, Gated, Running, Failing, Phase, InEvent, AtHead, Continuing, Gathering, AtReuse, GivingUp, Retiring, Heading, Forwarding, Dropping, AtResponse, Choosing, Selecting, Connecting, Answering, Releasing, Relaying, Collecting, Finishing, Draining, Behind, BeforeSelect, BehindMessage, Stream, ServerSide, NoServer, Sought, There, Leaving, Retired, Link, Absent, Asked, Up, Left, GivenUp, link_of, Cut, Answers, TraceState, Next, Does, Waits, Over, stream_of, read_server, leaving, retired}
use Rattle.conn_trace.specs.Messages.{fault_by, fault_next, reads_next, request_host, response_host, request_next, head_next, interim_next, status_next, response_next, answer_next, asked_version, is_interim, reuse_next, behind_head, moves_next, body_end_next, is_counted, sending_next, gathered_place, gathered_on, byte_gathered, http_at, gathering_next, dropping_next}
use Rattle.conn_trace.specs.Places.{finish}
use Rattle.conn_trace.specs.Trace.{choosing_next, default_next, selected_next, selecting_next, answering_next, served_by, serving, relay_next, fired_next, collect_next, collecting_next, phase_next, cut_takes, uncut, cut_open, cut_next, counted, next_item, Unfolds, start}
use Rattle.conn_trace.specs.Further.{Further, longer}
use Rattle.conn_trace.proofs.BodyKeeps.{body_holds}
use Rattle.conn_trace.proofs.HostKeeps.{flows, is_stream, left}
use Rattle.conn_trace.proofs.HttpKeeps.{table_knows, table_leaves}
use Rattle.conn_trace.proofs.Streams.{link_same}

-- ---- places

pub record PlaceSpeaks (spoken : Bool) (q : Place) : Type 0 where
  pub host : HostSpeaks spoken q.host
  pub plain : spoken ≡ false → is_http_phase q.phase ≡ false

some_mapped : {A B : Type 0} → (f : A → B) (o : Option A) → is_some (option_map f o) ≡ is_some o
some_mapped f None = refl
some_mapped f (Some a) = refl

-- a reader of a connection without HTTP knows of no message
none_known : (o : Option Http) → is_some o ≡ false → http_known o ≡ no_http
none_known None is = refl
none_known (Some http) is = absurd (true≢false is)

and_off : (b : Bool) → b && false ≡ false
and_off true = refl
and_off false = refl

read_link : (n : ℕ) (v : ServerSide) → link_of (read_server n v) ≡ link_of v
read_link n NoServer = refl
read_link n Sought = refl
read_link n (There s) = refl
read_link n (Leaving b s) = refl
read_link n (Retired s) = refl

module _ (g : Setup) (spoken : Bool) where
  -- both collects ask for the same
  still : (h t : HostState) → t.net.http ≡ h.net.http → is_some t.http ≡ is_some h.http → t.net.client.asks ≡ h.net.client.asks → t.net.server.asks ≡ h.net.server.asks → HostSpeaks spoken h → HostSpeaks spoken t
  still h t same knows client server k = record { same = same ∙ k.same; knows = knows ∙ k.knows; quiet = quiet }
    where
      quiet : spoken ≡ true → (side : Side) → (collected side t.net).asks ≡ NotAsked
      quiet w Client = client ∙ k.quiet w Client
      quiet w Server = server ∙ k.quiet w Server

  begun_speaks : (e : EventName) (link : Link) (h : HostState) → HostSpeaks spoken h → HostSpeaks spoken (begun e link h)
  begun_speaks e link h k = still h (begun e link h) refl (some_mapped (http_begun h.net) h.http) refl refl k

  -- of a connection that speaks HTTP
  known : (h : HostState) (http : Http) → HostSpeaks spoken h → (spoken ≡ false → true ≡ false) → HostSpeaks spoken (http_at http h)
  known h http k off = record { same = k.same; knows = by_http spoken refl; quiet = quiet }
    where
      by_http : (b : Bool) → spoken ≡ b → true ≡ spoken
      by_http true is = sym is
      by_http false is = absurd (true≢false (off is))

      quiet : spoken ≡ true → (side : Side) → (collected side (http_at http h).net).asks ≡ NotAsked
      quiet w Client = k.quiet w Client
      quiet w Server = k.quiet w Server

  command_speaks : (h : HostState) (words : List (List ℕ)) → HostSpeaks spoken h → HostSpeaks spoken (left (host_table g h words))
  command_speaks h words k =
      let c = table_leaves g h words in
      let off : spoken ≡ true → flows h.event h.net.http ≡ false = λ w. ap (flows h.event) (k.same ∙ w) ∙ and_off (is_stream h.event) in
      record {
        same = c.http ∙ k.same;
        knows = table_knows g h words ∙ k.knows;
        quiet = λ w side. ap (λ (x : Collected). x.asks) (c.outside (off w) side) ∙ k.quiet w side;
      }

  body_speaks : (b : Handler) (l : TraceState) → HostSpeaks spoken l.host → HostSpeaks spoken (state_after (run_body g b l)).host
  body_speaks b l k = body_holds Client (λ h n. HostSpeaks spoken h) g b (λ h words n k. command_speaks h words k) l k

  asks_plain : (asks : Asks) → is_http_phase (behind_accepted asks) ≡ false
  asks_plain NotAsked = refl
  asks_plain (Stated n) = refl

  accept_plain : (b : Bool) (h : HostState) → b ≡ false → is_http_phase (behind_accept b h) ≡ false
  accept_plain true h is = absurd (true≢false is)
  accept_plain false h is = asks_plain h.net.client.asks

  loose_plain : (loose : List ℕ) → is_http_phase (behind_connected loose) ≡ false
  loose_plain [] = refl
  loose_plain (b ∷ bs) = refl

  connect_plain : (b : Bool) (h : HostState) → b ≡ false → is_http_phase (behind_connect b h) ≡ false
  connect_plain true h is = absurd (true≢false is)
  connect_plain false h is = loose_plain h.net.loose

  data_plain : (link : Link) (released : Bool) → is_http_phase (behind_data link released) ≡ false
  data_plain Up released = refl
  data_plain link true = refl
  data_plain link false = refl

  selected_plain : (s : Option Selected) → is_http_phase (connecting s) ≡ false
  selected_plain None = refl
  selected_plain (Some s) = refl

  failed_plain : (h : HostState) (answer : Option Bool) → answer ≡ None → is_http_phase (behind_failed answer h) ≡ false
  failed_plain h (Some closing) is = absurd (cc)
  failed_plain h None is = by_wish h.net.wishes.reselects
    where
      by_wish : (b : Bool) → is_http_phase (if b then Choosing else Finishing Unselected) ≡ false
      by_wish true = refl
      by_wish false = refl

  goes_plain : (e : EventName) (link : Link) (h : HostState) → HostSpeaks spoken h → spoken ≡ false → is_http_event e ≡ false → is_http_phase (goes_on e link h) ≡ false
  goes_plain ClientAccepted link h k w is = accept_plain (speaks_http h) h (k.knows ∙ w)
  goes_plain ClientData link h k w is = data_plain link h.net.wishes.released
  goes_plain LbSelected link h k w is = selected_plain h.net.selected
  goes_plain LbFailed link h k w is = failed_plain h (http_known h.http).answer (ap (λ (x : Http). x.answer) (none_known h.http (k.knows ∙ w)))
  goes_plain ServerConnected link h k w is = connect_plain (speaks_http h) h (k.knows ∙ w)
  goes_plain ServerData link h k w is = refl
  goes_plain HttpRequest link h k w is = absurd (true≢false is)
  goes_plain HttpRequestData link h k w is = absurd (true≢false is)
  goes_plain HttpResponse link h k w is = absurd (true≢false is)
  goes_plain HttpResponseData link h k w is = absurd (true≢false is)
  goes_plain e link h k w is = refl

  ended_plain : (ends : Option Ending) (p : Phase) → is_http_phase p ≡ false → is_http_phase (unless_ended ends p) ≡ false
  ended_plain None p is = is
  ended_plain (Some Rejects) p is = refl
  ended_plain (Some Closes) p is = refl

  closed_client_speaks : (link : Link) (h : HostState) → HostSpeaks spoken h → PlaceSpeaks spoken (closed_client g link h)
  closed_client_speaks link h k = by_bodies (g.handlers ClientClosed)
    where
      by_bodies : (bs : List Handler) → PlaceSpeaks spoken (bodies_left ClientClosed bs (begun ClientClosed link h) (place Draining (begun ClientClosed link h)))
      by_bodies [] = record { host = begun_speaks ClientClosed link h k; plain = λ w. refl }
      by_bodies (b ∷ bs) = record { host = begun_speaks ClientClosed link h k; plain = λ w. refl }

  closed_server_speaks : (link : Link) (h : HostState) → HostSpeaks spoken h → PlaceSpeaks spoken (closed_server g link h)
  closed_server_speaks link h k = by_bodies (g.handlers ServerClosed)
    where
      by_bodies : (bs : List Handler) → PlaceSpeaks spoken (bodies_left ServerClosed bs (begun ServerClosed link h) (closed_client g link h))
      by_bodies [] = closed_client_speaks link h k
      by_bodies (b ∷ bs) = record { host = begun_speaks ServerClosed link h k; plain = λ w. refl }

  closed_speaks : (link : Link) (h : HostState) → HostSpeaks spoken h → PlaceSpeaks spoken (closed g link h)
  closed_speaks Absent h k = closed_client_speaks Absent h k
  closed_speaks Asked h k = closed_server_speaks Asked h k
  closed_speaks Up h k = closed_server_speaks Up h k
  closed_speaks (Left b) h k = closed_client_speaks (Left b) h k
  closed_speaks GivenUp h k = closed_client_speaks GivenUp h k

  giving_up_speaks : (b : Behind) (h : HostState) → HostSpeaks spoken h → (spoken ≡ false → true ≡ false) → PlaceSpeaks spoken (giving_up g b h)
  giving_up_speaks b h k off = by_bodies (g.handlers ServerClosed)
    where
      by_bodies : (bs : List Handler) → PlaceSpeaks spoken (bodies_left ServerClosed bs (begun ServerClosed (Left b) h) (place (Retiring b) (begun ServerClosed (Left b) h)))
      by_bodies [] = record { host = begun_speaks ServerClosed (Left b) h k; plain = off }
      by_bodies (body ∷ bs) = record { host = begun_speaks ServerClosed (Left b) h k; plain = λ w. refl }

  after_server_speaks : (finished : Bool) (link : Link) (h : HostState) → HostSpeaks spoken h → (spoken ≡ false → is_given_up link ≡ false) → PlaceSpeaks spoken (after_server g finished link h)
  after_server_speaks true link h k up = closed_client_speaks link h k
  after_server_speaks false Absent h k up = record { host = k; plain = λ w. refl }
  after_server_speaks false Asked h k up = record { host = k; plain = λ w. refl }
  after_server_speaks false Up h k up = record { host = k; plain = λ w. refl }
  after_server_speaks false (Left b) h k up = record { host = k; plain = up }
  after_server_speaks false GivenUp h k up = record { host = k; plain = λ w. refl }

  after_event_speaks : (e : EventName) (finished : Bool) (link : Link) (h : HostState) → HostSpeaks spoken h → (spoken ≡ false → is_given_up link ≡ false) → (spoken ≡ false → is_http_event e ≡ false) → PlaceSpeaks spoken (after_event g e finished link h)
  after_event_speaks ServerClosed finished link h k up web = after_server_speaks finished link h k up
  after_event_speaks ClientClosed finished link h k up web = record { host = k; plain = λ w. refl }
  after_event_speaks e finished link h k up web = record { host = k; plain = λ w. ended_plain h.net.wishes.ends (goes_on e link h) (goes_plain e link h k w (web w)) }

  enter_speaks : (e : EventName) (link : Link) (h : HostState) → HostSpeaks spoken h → (spoken ≡ false → is_given_up link ≡ false) → (spoken ≡ false → is_http_event e ≡ false) → PlaceSpeaks spoken (enter g e link h)
  enter_speaks e link h k up web = by_bodies (g.handlers e)
    where
      by_bodies : (bs : List Handler) → PlaceSpeaks spoken (entered g e link bs (begun e link h))
      by_bodies [] = after_event_speaks e false link (begun e link h) (begun_speaks e link h k) up web
      by_bodies (b ∷ bs) = record { host = begun_speaks e link h k; plain = web }

  next_speaks : (e : EventName) (finished : Bool) (link : Link) (bs : List Handler) (h : HostState) → HostSpeaks spoken h → (spoken ≡ false → is_given_up link ≡ false) → (spoken ≡ false → is_http_event e ≡ false) → PlaceSpeaks spoken (next_body g e finished link bs h)
  next_speaks e finished link [] h k up web = after_event_speaks e finished link h k up web
  next_speaks e finished link (b ∷ bs) h k up web = record { host = k; plain = web }

  fault_speaks : (e : EventName) (finished : Bool) (link : Link) (kind : FaultKind) (bs : List Handler) (h : HostState) → HostSpeaks spoken h → (spoken ≡ false → is_given_up link ≡ false) → (spoken ≡ false → is_http_event e ≡ false) → PlaceSpeaks spoken (after_fault g e finished link kind bs h)
  fault_speaks e finished link kind bs h k up web = by_closing (is_closing e)
    where
      by_closing : (b : Bool) → PlaceSpeaks spoken (if b then next_body g e finished link bs h else place (Finishing (Tcl kind)) h)
      by_closing true = next_speaks e finished link bs h k up web
      by_closing false = record { host = k; plain = λ w. refl }

  behind_speaks : (e : EventName) (finished : Bool) (link : Link) (b : Handler) (bs : List Handler) (f : Option TclFault) (h : HostState) → HostSpeaks spoken h → (spoken ≡ false → is_given_up link ≡ false) → (spoken ≡ false → is_http_event e ≡ false) → PlaceSpeaks spoken (after_body g e finished link b bs f h)
  behind_speaks e finished link b bs None h k up web = next_speaks e finished link bs h k up web
  behind_speaks e finished link b bs (Some f) h k up web = record { host = k; plain = web }

  -- ---- what comes next

  abbrev SpeaksNext : Next → Type 0
  SpeaksNext (Does i m) = Speaks spoken m
  SpeaksNext (Waits w) = Unit {0}
  SpeaksNext Over = Unit {0}

  finish_speaks : (r : Reason) (l : TraceState) → Speaks spoken l → SpeaksNext (finish g r l)
  finish_speaks r l k = let p = closed_speaks (link_of l.server) l.host k.host in record { host = p.host; plain = p.plain; link = k.link }

  ended_speaks : (e : EventName) (b : Handler) (bs : List Handler) (l : TraceState) (o : Outcome HostState) → Speaks spoken l → HostSpeaks spoken (state_after o).host → (spoken ≡ false → is_http_event e ≡ false) → SpeaksNext (ended_next g e b bs l o)
  ended_speaks e b bs l (Stops path call st) k h web = tt
  ended_speaks e b bs l (Ends code st) k h web =
      let p = behind_speaks e l.finished (link_of l.server) b bs (uncaught_of code) st.host h k.link web in record { host = p.host; plain = p.plain; link = k.link }

  bodies_speak : (e : EventName) (bodies : Bodies) (l : TraceState) → Speaks spoken l → (spoken ≡ false → is_http_event e ≡ false) → SpeaksNext (bodies_next g e bodies l)
  bodies_speak e (Gated b bs) l k web = record { host = k.host; plain = web; link = k.link }
  bodies_speak e (Running b bs n) l k web = by_act (slice_get (state_after (run_body g b l)).acts n)
    where
      by_act : (v : Option Act) → SpeaksNext (act_next e b bs n l v (ended_next g e b bs l (run_body g b l)))
      by_act None = ended_speaks e b bs l (run_body g b l) k (body_speaks b l k.host) web
      by_act (Some a) = record { host = k.host; plain = web; link = k.link }
  bodies_speak e (Failing kind line bs) l k web =
      let p = fault_speaks e l.finished (link_of l.server) kind bs l.host k.host k.link web in record { host = p.host; plain = p.plain; link = k.link }

  -- where an event is entered on a host's state like this
  enters : (e : EventName) (h : HostState) (l m : TraceState) → Speaks spoken l → HostSpeaks spoken h → m.phase ≡ (enter g e (link_of l.server) h).phase → m.host ≡ (enter g e (link_of l.server) h).host → link_of m.server ≡ link_of l.server → (spoken ≡ false → is_http_event e ≡ false) → Speaks spoken m
  enters e h l m k hs phase host link web =
      let p = enter_speaks e (link_of l.server) h hs k.link web in
      record {
        host = subst (HostSpeaks spoken) (sym host) p.host;
        plain = λ w. ap is_http_phase phase ∙ p.plain w;
        link = λ w. ap is_given_up link ∙ k.link w;
      }

  choosing_speaks : (l : TraceState) (h : HostState) (target : Target) → Speaks spoken l → HostSpeaks spoken h → SpeaksNext (choosing_next g l h target)
  choosing_speaks l h Default k hs = by_pool h.net.pool
    where
      by_pool : (pool : List ℕ) → SpeaksNext (default_next g l h pool)
      by_pool [] = enters LbFailed h l _ k hs refl refl refl (λ w. refl)
      by_pool (b ∷ bs) = record { host = hs; plain = λ w. refl; link = k.link }
  choosing_speaks l h (PoolOf pool) k hs = record { host = hs; plain = λ w. refl; link = k.link }
  choosing_speaks l h (MemberOf pool a) k hs = record { host = hs; plain = λ w. refl; link = k.link }
  choosing_speaks l h (NodeAt a) k hs = enters LbSelected (with_selected (Some (record { pool = []; addr = a })) h) l _ k (still h _ refl refl refl refl hs) refl refl refl (λ w. refl)

  selected_speaks : (l : TraceState) (more : List Reply) (a : Option Addr) → Speaks spoken l → SpeaksNext (selected_next g l more a)
  selected_speaks l more None k = enters LbFailed l.host l _ k k.host refl refl refl (λ w. refl)
  selected_speaks l more (Some a) k =
      let s = Some (record { pool = target_pool l.host.net.pool l.host.net.target; addr = a }) in
      enters LbSelected (with_selected s l.host) l _ k (still l.host _ refl refl refl refl k.host) refl refl refl (λ w. refl)

  selecting_speaks : (call : List (List ℕ)) (l : TraceState) (replies : List Reply) → Speaks spoken l → SpeaksNext (selecting_next g call l replies)
  selecting_speaks call l [] k = tt
  selecting_speaks call l (reply.Ok v ∷ more) k = selected_speaks l more (addr_of v) k
  selecting_speaks call l (reply.Fault f ∷ more) k = selected_speaks l more None k

  answering_speaks : (l : TraceState) (connects : List (Option Stream)) → Speaks spoken l → SpeaksNext (answering_next g l connects)
  answering_speaks l [] k = tt
  answering_speaks l (Some s ∷ more) k =
      let served = still l.host (serving l.host) refl (some_mapped (served_by (chosen l.host)) l.host.http) refl refl k.host in
      let p = enter_speaks ServerConnected Up (serving l.host) served (λ w. refl) (λ w. refl) in
      record { host = p.host; plain = p.plain; link = λ w. refl }
  answering_speaks l (None ∷ more) k =
      let p = enter_speaks LbFailed Absent l.host k.host (λ w. refl) (λ w. refl) in record { host = p.host; plain = p.plain; link = λ w. refl }

  -- ---- bytes of a side

  reads_speak : (l : TraceState) (side : Side) (n : ℕ) (q : Place) → Speaks spoken l → PlaceSpeaks spoken q → SpeaksNext (reads_next l side n q)
  reads_speak l Client n q k p = record { host = p.host; plain = p.plain; link = k.link }
  reads_speak l Server n q k p = record { host = p.host; plain = p.plain; link = λ w. ap is_given_up (read_link n l.server) ∙ k.link w }

  fired_speaks : (l : TraceState) (side : Side) (n : ℕ) (more : List Choice) → Speaks spoken l → SpeaksNext (fired_next g l side n more)
  fired_speaks l Client n more k =
      let h = fired_host Client (take n l.client.unread) l.host in
      let p = enter_speaks ClientData (link_of l.server) h (record { same = k.host.same; knows = k.host.knows; quiet = quiet }) k.link (λ w. refl) in
      record { host = p.host; plain = p.plain; link = k.link }
    where
      quiet : spoken ≡ true → (side : Side) → (collected side (fired_host Client (take n l.client.unread) l.host).net).asks ≡ NotAsked
      quiet w Client = refl
      quiet w Server = k.host.quiet w Server
  fired_speaks l Server n more k =
      let h = fired_host Server (take n (stream_of Server l).unread) l.host in
      let p = enter_speaks ServerData (link_of l.server) h (record { same = k.host.same; knows = k.host.knows; quiet = quiet }) k.link (λ w. refl) in
      record { host = p.host; plain = p.plain; link = λ w. ap is_given_up (read_link n l.server) ∙ k.link w }
    where
      quiet : spoken ≡ true → (side : Side) → (collected side (fired_host Server (take n (stream_of Server l).unread) l.host).net).asks ≡ NotAsked
      quiet w Client = k.host.quiet w Client
      quiet w Server = refl

  relay_speaks : (l : TraceState) (a : RelayAct) → Speaks spoken l → SpeaksNext (relay_next g l a)
  relay_speaks l BothDone k = finish_speaks Closed l k
  relay_speaks l (Passing Client n more) k = record { host = k.host; plain = λ w. refl; link = k.link }
  relay_speaks l (Passing Server n more) k = record { host = k.host; plain = λ w. refl; link = λ w. ap is_given_up (read_link n l.server) ∙ k.link w }
  relay_speaks l (Firing side n more) k = fired_speaks l side n more k
  relay_speaks l Resting k = tt

  collect_speaks : (l : TraceState) (a : RelayAct) → Speaks spoken l → SpeaksNext (collect_next g l a)
  collect_speaks l BothDone k = finish_speaks Closed l k
  collect_speaks l (Passing side n more) k = tt
  collect_speaks l (Firing side n more) k = fired_speaks l side n more k
  collect_speaks l Resting k = tt

  collecting_speaks : (l : TraceState) (asks : Asks) → Speaks spoken l → SpeaksNext (collecting_next g l asks)
  collecting_speaks l NotAsked k = tt
  collecting_speaks l (Stated n) k = collect_speaks l (collect_act n l.client.unread (behind_fires l.answers.choices)) k

  -- ---- HTTP: without it nothing of this is reached

  module _ (off : spoken ≡ false → true ≡ false) where
    on : (p : Phase) → spoken ≡ false → is_http_phase p ≡ false
    on p w = absurd (true≢false (off w))

    to_phase : (l : TraceState) (p : Phase) → Speaks spoken l → PlaceSpeaks spoken (place p l.host)
    to_phase l p k = record { host = k.host; plain = on p }

    moves_speak : (l : TraceState) (side : Side) (n : ℕ) (bytes : List ℕ) (p : Phase) → Speaks spoken l → SpeaksNext (moves_next l side n bytes p)
    moves_speak l Client n bytes p k = record { host = k.host; plain = on p; link = k.link }
    moves_speak l Server n bytes p k = record { host = k.host; plain = on p; link = λ w. ap is_given_up (read_link n l.server) ∙ k.link w }

    refused_speaks : (l : TraceState) (side : Side) (f : HttpFault) → Speaks spoken l → SpeaksNext (fault_next g l side f)
    refused_speaks l side f k = by_answer (is_answered side f)
      where
        by_answer : (b : Bool) → SpeaksNext (fault_by g l f b)
        by_answer true = record { host = k.host; plain = λ w. refl; link = k.link }
        by_answer false = finish_speaks (HttpReason f) l k

    asked_speaks : (l : TraceState) (n : ℕ) (r : Result Request HttpFault) → Speaks spoken l → SpeaksNext (request_next g l n r)
    asked_speaks l n (Err f) k = refused_speaks l Client f k
    asked_speaks l n (Ok r) k =
        reads_speak l Client n _ k (enter_speaks HttpRequest (link_of l.server) (request_host r l.host) (still (http_at no_http l.host) _ refl refl refl refl (known l.host no_http k.host off)) k.link off)

    head_speaks : (l : TraceState) (p : HeadPart) → Speaks spoken l → SpeaksNext (head_next g l p)
    head_speaks l (HeadOf n) k = asked_speaks l n (g.heads.request (take n l.client.unread)) k
    head_speaks l StreamEnds k = finish_speaks Closed l k
    head_speaks l (Faulty f) k = refused_speaks l Client f k
    head_speaks l NoHead k = tt

    interim_speaks : (l : TraceState) (n : ℕ) (r : Response) (v : Version) → Speaks spoken l → SpeaksNext (interim_next g l n r v)
    interim_speaks l n r Http10 k = reads_speak l Server n _ k (to_phase l AtResponse k)
    interim_speaks l n r Http11 k = record { host = k.host; plain = on AtResponse; link = λ w. ap is_given_up (read_link n l.server) ∙ k.link w }

    status_speaks : (l : TraceState) (n : ℕ) (r : Response) (switches interim : Bool) → Speaks spoken l → SpeaksNext (status_next g l n r switches interim)
    status_speaks l n r true interim k = finish_speaks (HttpReason fault.Switching) l k
    status_speaks l n r false true k = interim_speaks l n r (asked_version (http_known l.host.http).came) k
    status_speaks l n r false false k =
        reads_speak l Server n _ k (enter_speaks HttpResponse (link_of l.server) (response_host r l.host) (still (http_at no_http l.host) _ refl refl refl refl (known l.host no_http k.host off)) k.link off)

    answered_speaks : (l : TraceState) (n : ℕ) (r : Result Response HttpFault) → Speaks spoken l → SpeaksNext (response_next g l n r)
    answered_speaks l n (Err f) k = finish_speaks (HttpReason f) l k
    answered_speaks l n (Ok r) k = status_speaks l n r (nat_eq r.head.status 101) (is_interim r.head) k

    answer_speaks : (l : TraceState) (p : HeadPart) → Speaks spoken l → SpeaksNext (answer_next g l p)
    answer_speaks l (HeadOf n) k = answered_speaks l n (g.heads.response (http_known l.host.http).came (take n (stream_of Server l).unread)) k
    answer_speaks l StreamEnds k = finish_speaks (HttpReason fault.ShortBody) l k
    answer_speaks l (Faulty f) k = finish_speaks (HttpReason f) l k
    answer_speaks l NoHead k = tt

    reuse_speaks : (l : TraceState) (choices : List Choice) → Speaks spoken l → SpeaksNext (reuse_next g l choices)
    reuse_speaks l [] k = tt
    reuse_speaks l (Reuses true ∷ more) k = record { host = k.host; plain = on (Heading Client); link = k.link }
    reuse_speaks l (Reuses false ∷ more) k = record { host = k.host; plain = on (GivingUp BeforeSelect); link = k.link }
    reuse_speaks l (PassesOn side n ∷ more) k = tt
    reuse_speaks l (Fires side ∷ more) k = tt

    body_end_speaks : (l : TraceState) (side : Side) (n : ℕ) (counted standing : Bool) → Speaks spoken l → SpeaksNext (body_end_next l side n counted standing)
    body_end_speaks l side n true standing k = reads_speak l side n _ k (to_phase l (behind_message side l.host) k)
    body_end_speaks l side n false standing k = moves_speak l side n (last_line standing) (behind_message side l.host) k

    sending_speaks : (l : TraceState) (side : Side) (s : BodyState) (standing : Bool) (p : Part) → Speaks spoken l → SpeaksNext (sending_next g l side s standing p)
    sending_speaks l side s standing Byte k = moves_speak l side 1 (take 1 (stream_of side l).unread) (Forwarding side (after_byte s) standing) k
    sending_speaks l side s standing (Chunk n size) k = moves_speak l side n (chunk_line standing size) (Forwarding side (body.Chunk size) true) k
    sending_speaks l side s standing (End n) k = body_end_speaks l side n (is_counted s) standing k
    sending_speaks l side s standing Pending k = tt
    sending_speaks l side s standing (Bad f) k = refused_speaks l side f k

    gather_web : (side : Side) → spoken ≡ false → is_http_event (gather_event side) ≡ false
    gather_web Client w = off w
    gather_web Server w = off w

    gathered_on_speaks : (l : TraceState) (side : Side) (wanted : ℕ) (s : BodyState) (whole : Bool) (h : HostState) → Speaks spoken l → HostSpeaks spoken h → PlaceSpeaks spoken (gathered_on g side (link_of l.server) wanted s whole h)
    gathered_on_speaks l side wanted s true h k hs = enter_speaks (gather_event side) (link_of l.server) h hs k.link (gather_web side)
    gathered_on_speaks l side zero s false h k hs = enter_speaks (gather_event side) (link_of l.server) h hs k.link (gather_web side)
    gathered_on_speaks l side (suc n) s false h k hs = record { host = hs; plain = on (Gathering side (suc n) s) }

    byte_speaks : (l : TraceState) (side : Side) (wanted : ℕ) (s : BodyState) (bytes : List ℕ) → Speaks spoken l → PlaceSpeaks spoken (byte_gathered g side (link_of l.server) wanted s bytes l.host)
    byte_speaks l side wanted s bytes k =
        let http = with_gathered bytes s (http_known l.host.http) in
        gathered_on_speaks l side (one_less wanted) s (is_at_end s) (http_at http l.host) k (known l.host http k.host off)

    gathering_speaks : (l : TraceState) (side : Side) (wanted : ℕ) (s : BodyState) (p : Part) → Speaks spoken l → SpeaksNext (gathering_next g l side wanted s p)
    gathering_speaks l side wanted s Byte k = reads_speak l side 1 _ k (byte_speaks l side wanted (after_byte s) (take 1 (stream_of side l).unread) k)
    gathering_speaks l side wanted s (Chunk n size) k = reads_speak l side n _ k (to_phase l (Gathering side wanted (body.Chunk size)) k)
    gathering_speaks l side wanted s (End n) k =
        reads_speak l side n _ k (enter_speaks (gather_event side) (link_of l.server) (http_at (with_whole (http_known l.host.http)) l.host) (known l.host (with_whole (http_known l.host.http)) k.host off) k.link (gather_web side))
    gathering_speaks l side wanted s Pending k = tt
    gathering_speaks l side wanted s (Bad f) k = refused_speaks l side f k

    dropping_speaks : (l : TraceState) (s : BodyState) (p : Part) → Speaks spoken l → SpeaksNext (dropping_next g l s p)
    dropping_speaks l s Byte k = reads_speak l Client 1 _ k (to_phase l (Dropping (after_byte s)) k)
    dropping_speaks l s (Chunk n size) k = reads_speak l Client n _ k (to_phase l (Dropping (body.Chunk size)) k)
    dropping_speaks l s (End n) k = reads_speak l Client n _ k (to_phase l (next_request l.host) k)
    dropping_speaks l s Pending k = tt
    dropping_speaks l s (Bad f) k = refused_speaks l Client f k

  phase_speaks : (p : Phase) (l : TraceState) → Speaks spoken l → (spoken ≡ false → is_http_phase p ≡ false) → SpeaksNext (phase_next g p l)
  phase_speaks (InEvent e bodies) l k is = bodies_speak e bodies l k is
  phase_speaks AtHead l k is = head_speaks is l (head_part l.client.unread l.client.ended) k
  phase_speaks Continuing l k is = record { host = k.host; plain = on is (behind_asked (link_of l.server) l.host); link = k.link }
  phase_speaks (Gathering side wanted s) l k is = gathering_speaks is l side wanted s (part_of s (stream_of side l).unread (stream_of side l).ended) k
  phase_speaks AtReuse l k is = reuse_speaks is l l.answers.choices k
  phase_speaks (GivingUp b) l k is =
      let p = giving_up_speaks b l.host k.host is in record { host = p.host; plain = p.plain; link = λ w. absurd (true≢false (is w)) }
  phase_speaks (Retiring b) l k is = record { host = k.host; plain = on is (behind_retired b l.host); link = λ w. absurd (true≢false (is w)) }
  phase_speaks (Heading side) l k is = record { host = k.host; plain = on is (behind_head side l.host (http_known l.host.http).whole); link = k.link }
  phase_speaks (Forwarding side s standing) l k is = sending_speaks is l side s standing (part_of s (stream_of side l).unread (stream_of side l).ended) k
  phase_speaks (Dropping s) l k is = dropping_speaks is l s (part_of s l.client.unread l.client.ended) k
  phase_speaks AtResponse l k is = answer_speaks is l (head_part (stream_of Server l).unread (stream_of Server l).ended) k
  phase_speaks Choosing l k is = choosing_speaks l (with_selected None l.host) l.host.net.target k (still l.host _ refl refl refl refl k.host)
  phase_speaks (Selecting call) l k is = selecting_speaks call l l.answers.replies k
  phase_speaks (Connecting a) l k is = record { host = k.host; plain = λ w. refl; link = λ w. refl }
  phase_speaks (Answering a) l k is = answering_speaks l l.answers.connects k
  phase_speaks Releasing l k is = record { host = still l.host _ refl refl refl refl k.host; plain = λ w. refl; link = k.link }
  phase_speaks Relaying l k is = relay_speaks l (relay_act (incoming Client l) (incoming Server l) l.answers.choices) k
  phase_speaks Collecting l k is = collecting_speaks l l.host.net.client.asks k
  phase_speaks (Finishing r) l k is = finish_speaks r l k
  phase_speaks Draining l k is = tt

  cut_finish : (r : Reason) (l : TraceState) → Speaks spoken l → SpeaksNext (finish g r (uncut l))
  cut_finish r l k = finish_speaks r (uncut l) (record { host = k.host; plain = k.plain; link = k.link })

  cut_speaks : (l : TraceState) (cut : Option Cut) (o : Next) → Speaks spoken l → SpeaksNext o → SpeaksNext (cut_next g cut l o)
  cut_speaks l None o k is = is
  cut_speaks l (Some c) o k is = by_end l.finished
    where
      by_place : (o : Next) → SpeaksNext o → SpeaksNext (cut_open g c l o)
      by_place (Does i m) is = by_test (may_give i l.sent c.took || not (cut_takes g.http c.reason None))
        where
          by_test : (b : Bool) → SpeaksNext (if b then Does i m else finish g (CutBy c.reason) (uncut l))
          by_test true = is
          by_test false = cut_finish (CutBy c.reason) l k
      by_place (Waits w) is = by_test (cut_takes g.http c.reason (Some w))
        where
          by_test : (b : Bool) → SpeaksNext (if b then finish g (CutBy c.reason) (uncut l) else Waits w)
          by_test true = cut_finish (CutBy c.reason) l k
          by_test false = tt
      by_place Over is = tt

      by_end : (b : Bool) → SpeaksNext (if b then o else cut_open g c l o)
      by_end true = is
      by_end false = by_place o is

  counted_speaks : (sent : Counts) (o : Next) → SpeaksNext o → SpeaksNext (counted sent o)
  counted_speaks sent (Does i m) is = record { host = is.host; plain = is.plain; link = is.link }
  counted_speaks sent (Waits w) is = tt
  counted_speaks sent Over is = tt

  pub item_speaks : (l m : TraceState) (i : Item) → Speaks spoken l → next_item g l ≡ Does i m → Speaks spoken m
  unfolding next_item
  item_speaks l m i k step = subst SpeaksNext step (counted_speaks l.sent _ (cut_speaks l l.answers.cut (phase_next g l.phase l) k (phase_speaks l.phase l k k.plain)))

pub start_speaks : (g : Setup) (client : Stream) (answers : Answers) → Speaks g.http (start g client answers)
start_speaks g client answers =
    let p = enter_speaks g g.http ClientAccepted Absent (first_host g) (record { same = refl; knows = by_http g.http; quiet = quiet }) (λ w. refl) (λ w. refl) in
    record { host = p.host; plain = p.plain; link = λ w. refl }
  where
    by_http : (b : Bool) → is_some (if b then Some no_http else None) ≡ b
    by_http true = refl
    by_http false = refl

    quiet : g.http ≡ true → (side : Side) → (collected side (first_host g).net).asks ≡ NotAsked
    quiet w Client = refl
    quiet w Server = refl

-- more that comes changes neither
pub longer_speaks : (spoken : Bool) (f : Further) (l : TraceState) → Speaks spoken l → Speaks spoken (longer f l)
longer_speaks spoken f l k = record { host = k.host; plain = k.plain; link = λ w. ap is_given_up (link_same f l) ∙ k.link w }

speak_along : (g : Setup) (spoken : Bool) (l m : TraceState) (items : List Item) → Speaks spoken l → Unfolds g l items m → Speaks spoken m
speak_along g spoken l m [] k is = subst (Speaks spoken) is k
speak_along g spoken l m (i ∷ items) k (mid, step, rest) = speak_along g spoken mid m items (item_speaks g spoken l mid i k step) rest

pub http_is_spoken : HttpIsSpoken
http_is_spoken g client answers m items is = speak_along g g.http (start g client answers) m items (start_speaks g client answers) is
