-- What the item of each phase does to the server's side of a trace: who is asked for a connection, which answer is taken, which one is given up, and that all other items leave it.
use Rattle.std.proofs.Common.{◌≡◌, inl, inr, refl, sym, ap, subst, ◌∙◌, ℕ, zero, suc, ◌+◌, List, [], ◌∷◌, Bool, true, false, true≢false, Option, Some, None, is_some, Result, Ok, Err}
use Rattle.std.specs.Prelude.{slice_get, take, nat_eq}
use Rattle.px_bytes.specs.declared.addr.Addr.{Addr}
use Rattle.px_bytes.specs.declared.addr.Side.{Side}
use Rattle.px_bytes.specs.declared.addr.Side.TheVariants.{Client, Server}
use Rattle.px_bytes.specs.declared.fault.HttpFault.{HttpFault}
use Rattle.px_bytes.specs.declared.fault.HttpFault.TheVariants as fault
use Rattle.px_bytes.specs.declared.fault.Reply.{Reply}
use Rattle.px_bytes.specs.declared.fault.Reply.TheVariants as reply
use Rattle.rule_model.specs.Outcome.{Act, Outcome, Ends, Waits as Stops, Did, uncaught_of}
use Rattle.rule_model.specs.Outcome as act
use Rattle.rule_model.specs.Host as effect
use Rattle.rule_model.specs.Laws.{state_after}
use Rattle.event_order.specs.declared.event.EventName.{EventName}
use Rattle.event_order.specs.declared.event.EventName.TheVariants.{HttpRequest, HttpResponse, ServerConnected, LbSelected, LbFailed}
use Rattle.http_heads.specs.Fronts.{head_part}
use Rattle.http_heads.specs.declared.front.HeadPart.{HeadPart}
use Rattle.http_heads.specs.declared.front.HeadPart.TheVariants.{HeadOf, StreamEnds, Faulty, NoHead}
use Rattle.http_heads.specs.declared.line.Version.{Version}
use Rattle.http_heads.specs.declared.line.Version.TheVariants.{Http10, Http11}
use Rattle.http_frames.specs.Parts.{Part, Byte, Chunk, End, Pending, Bad, part_of}
use Rattle.http_frames.specs.declared.state.BodyState.{BodyState}
use Rattle.http_frames.specs.declared.state.BodyState.TheVariants as body
use Rattle.irule_http.specs.declared.state.Request.{Request}
use Rattle.irule_http.specs.declared.state.Response.{Response}
use Rattle.irule_net.specs.Steps.{target_pool}
use Rattle.irule_net.specs.declared.state.Asks.{Asks}
use Rattle.irule_net.specs.declared.state.Asks.TheVariants.{NotAsked, Stated}
use Rattle.irule_net.specs.declared.state.Target.{Target}
use Rattle.irule_net.specs.declared.state.Target.TheVariants.{Default, PoolOf, MemberOf, NodeAt}
use Rattle.conn_trace.specs.Bodies.{run_body, act_item, ended_next, act_next, bodies_next, peer_of}
use Rattle.conn_trace.specs.Fronts.{after_byte, is_at_end, one_less}
use Rattle.conn_trace.specs.Host.{HostState, http_of, with_loose, with_selected}
use Rattle.conn_trace.specs.Http.{with_gathered, with_whole}
use Rattle.conn_trace.specs.Item.{Item, Reason, Closed, Http as HttpReason, Choice, PassesOn, Fires, Reuses, Answered, Connected, Finished, Fired, Called, Moved, Passed, Read, Resumed, Retires, Reused, Sent, Opened, Logged, Ran, BeforeBodies, ToClient, ToServer}
use Rattle.conn_trace.specs.Phases.{OrderlyIn, is_leaving}
use Rattle.conn_trace.specs.Places.{Place, at as put, place, is_up, finish, gather_event, enter, after_body, after_fault, closed, data_event}
use Rattle.conn_trace.specs.Relay.{incoming, RelayAct, BothDone, Passing, Firing, Resting, relay_act, fired_host, collect_act, behind_fires}
use Rattle.conn_trace.specs.Messages.{answer_next, asked_version, body_end_next, continuing_next, dropping_next, fault_by, fault_next, gathered_on, gathered_place, gathering_next, giving_up_next, head_next, heading_next, http_at, interim_next, is_counted, is_interim, moves_next, reads_next, request_host, request_next, response_host, response_next, retiring_next, reuse_next, sending_next, status_next}
use Rattle.conn_trace.specs.Routing.{behind_message, behind_retired, next_request}
use Rattle.conn_trace.specs.Selected.{addr_of}
use Rattle.conn_trace.specs.SentBodies.{is_answered, last_line}
use Rattle.conn_trace.specs.Setup.{Handler, Setup}
use Rattle.conn_trace.specs.State.{Bodies, Gated, Running, Failing, Phase, AtHead, Continuing, Gathering, AtReuse, GivingUp, Retiring, Heading, Forwarding, Dropping, AtResponse, InEvent, Choosing, Selecting, Connecting, Answering, Releasing, Relaying, Collecting, Finishing, Draining, Behind, BeforeSelect, Stream, ServerSide, NoServer, Sought, There, Leaving, Retired, Link, Absent, Asked, Up, Left, GivenUp, link_of, TraceState, Next, Does, Waits, Over, stream_of, read_server, read_side, leaving, retired}
use Rattle.conn_trace.specs.Trace.{serving, choosing_next, default_next, selected_next, selecting_next, answering_next, fired_next, relay_next, collect_next, collecting_next, releasing_next, phase_next}
use Rattle.conn.specs.Settling.{is_given_up}
use Rattle.proxy_core.specs.Servers.{awaits, is_serving}
use Rattle.proxy_core.proofs.ServerGone.{never, is_calm, EventIs, LeavesThere, Stands, ToldOf, Unleft, asked_calm, body_goes, calm, closed_goes, enter_goes, fault_goes, giving_goes, head_calm, leaves, leaves_in, message_calm, next_calm, not_left, retired_calm}
use Rattle.proxy_core.proofs.ServerSends.{SendsUp, body_event, body_sends, body_told}

-- what holds of the server's side of a trace and of what its rules are told, wherever it stands
pub record Going (l : TraceState) : Type 0 where
  pub event : EventIs l.phase l.host
  pub told : ToldOf (link_of l.server) l.host
  pub left : LeavesThere l.finished (link_of l.server) l.phase
  pub asked : awaits l.phase ≡ true → link_of l.server ≡ Asked

-- an item that asks for no server, takes no answer and gives none up
pub record Quiet (i : Item) (p : Phase) (l m : TraceState) : Type 0 where
  pub connects : m.answers.connects ≡ l.answers.connects
  pub serves : is_serving (link_of m.server) ≡ is_serving (link_of l.server)
  pub given : is_given_up (link_of m.server) ≡ is_given_up (link_of l.server)
  pub waits : awaits m.phase ≡ false
  pub sends : SendsUp (link_of l.server) i
  pub going : Going m
  pub waited : awaits p ≡ true → (l.answers.connects ≡ []) × (m.finished ≡ true)

-- a server is asked for, where none serves
pub record Asking (p : Phase) (l : TraceState) (to : Addr) (m : TraceState) : Type 0 where
  pub was : p ≡ Connecting to
  pub going_on : l.finished ≡ false
  pub free : is_serving (link_of l.server) ≡ false
  pub phase : m.phase ≡ Answering to
  pub server : m.server ≡ Sought
  pub connects : m.answers.connects ≡ l.answers.connects
  pub going : Going m

abbrev pub link_by : Bool → Link
link_by true = Up
link_by false = Absent

-- its answer is taken
pub record Taking (p : Phase) (l : TraceState) (made : Bool) (m : TraceState) : Type 0 where
  pub asked : Addr
  pub was : p ≡ Answering asked
  pub answer : Option Stream
  pub more : List (Option Stream)
  pub is : l.answers.connects ≡ answer ∷ more
  pub made_is : is_some answer ≡ made
  pub connects : m.answers.connects ≡ more
  pub link : link_of m.server ≡ link_by made
  pub waits : awaits m.phase ≡ false
  pub going : Going m

-- it is given up
pub record Giving (p : Phase) (l m : TraceState) : Type 0 where
  pub was : awaits p ≡ false
  pub going_on : l.finished ≡ false
  pub served : is_serving (link_of l.server) ≡ true
  pub link : link_of m.server ≡ GivenUp
  pub connects : m.answers.connects ≡ l.answers.connects
  pub waits : awaits m.phase ≡ false
  pub going : Going m

abbrev pub SideBy : Item → Phase → TraceState → TraceState → Type 0
SideBy (Connected to) p l m = Asking p l to m
SideBy (Answered made) p l m = Taking p l made m
SideBy Retires p l m = Giving p l m
SideBy i p l m = Quiet i p l m

abbrev pub SideNext : Phase → TraceState → Next → Type 0
SideNext p l (Does i m) = SideBy i p l m
SideNext p l (Waits k) = awaits p ≡ true → l.answers.connects ≡ []
SideNext p l Over = awaits p ≡ true → l.answers.connects ≡ []

-- where the server's side stays
going_at : (l l' : TraceState) (q : Place) → link_of l'.server ≡ link_of l.server → l'.finished ≡ l.finished → Stands l.finished (link_of l.server) q → Going (put q l')
going_at l l' q link finished s = record {
  event = s.event;
  told = λ r. ap is_up link ∙ s.told r;
  left = λ x y. s.left (sym finished ∙ x) (ap is_leaving (sym link) ∙ y);
  asked = λ w. absurd (true≢false (sym w ∙ s.waits));
}

quiet_by : (i : Item) (p : Phase) (l l' : TraceState) (q : Place) → awaits p ≡ false → l'.answers.connects ≡ l.answers.connects → link_of l'.server ≡ link_of l.server → l'.finished ≡ l.finished → Stands l.finished (link_of l.server) q → SendsUp (link_of l.server) i → Quiet i p l (put q l')
quiet_by i p l l' q was connects link finished s sends = record {
  connects = connects;
  serves = ap is_serving link;
  given = ap is_given_up link;
  waits = s.waits;
  sends = sends;
  going = going_at l l' q link finished s;
  waited = λ e. never (sym was ∙ e);
}

pub finish_quiet : (g : Setup) (r : Reason) (p : Phase) (l : TraceState) → (awaits p ≡ true → l.answers.connects ≡ []) → Quiet (Finished r) p l (put (closed g (link_of l.server) l.host) (record l { finished = true }))
finish_quiet g r p l none =
    let s = closed_goes g (link_of l.server) l.host in
    record {
      connects = refl;
      serves = refl;
      given = refl;
      waits = s.waits;
      sends = inr refl;
      going = record { event = s.event; told = s.told; left = λ x y. absurd (true≢false x); asked = λ w. absurd (true≢false (sym w ∙ s.waits)) };
      waited = λ e. (none e, refl);
    }

pub finish_side : (g : Setup) (r : Reason) (p : Phase) (l : TraceState) → (awaits p ≡ true → l.answers.connects ≡ []) → SideNext p l (finish g r l)
finish_side g r p l none = finish_quiet g r p l none

-- ---- the bodies of an event

module _ (g : Setup) (e : EventName) (l : TraceState) (k : Going l) where
  -- while they run
  abbrev InIt : Bodies → Type 0
  InIt bodies = (l.host.event ≡ e) × ((l.finished ≡ false → is_leaving (link_of l.server) ≡ true → leaves_in e ≡ true))

  on_it : (i : Item) (bodies next : Bodies) → InIt bodies → SendsUp (link_of l.server) i → Quiet i (InEvent e bodies) l (record l { phase = InEvent e next })
  on_it i bodies next here sends = record {
    connects = refl;
    serves = refl;
    given = refl;
    waits = refl;
    sends = sends;
    going = record { event = here.0; told = k.told; left = here.1; asked = λ w. never w };
    waited = λ w. never w;
  }

  act_side : (b : Handler) (bs : List Handler) (n number : ℕ) (a : Act) → InIt (Running b bs n) → SendsUp (link_of l.server) (act_item number a) → SideBy (act_item number a) (InEvent e (Running b bs n)) l (record l { phase = InEvent e (Running b bs (n + 1)) })
  act_side b bs n number (Did (effect.Logged text)) here sends = on_it (Logged text) (Running b bs n) (Running b bs (n + 1)) here sends
  act_side b bs n number (Did (effect.Sent side bytes)) here sends = on_it (Sent (peer_of number side) bytes) (Running b bs n) (Running b bs (n + 1)) here sends
  act_side b bs n number (act.Called path call) here sends = on_it (Called call) (Running b bs n) (Running b bs (n + 1)) here sends

  ended_side : (b : Handler) (bs : List Handler) (n : ℕ) (o : Outcome HostState) → InIt (Running b bs n) → (state_after o).host.event ≡ e → ToldOf (link_of l.server) (state_after o).host → SideNext (InEvent e (Running b bs n)) l (ended_next g e b bs l o)
  ended_side b bs n (Stops path call st) here is told = λ w. never w
  ended_side b bs n (Ends code st) here is told =
      quiet_by (Ran e st.cost) (InEvent e (Running b bs n)) l (record l { vars = st.vars; answers = record l.answers { replies = st.replies } }) (after_body g e l.finished (link_of l.server) b bs (uncaught_of code) st.host) refl refl refl refl
      (body_goes g e l.finished (link_of l.server) b bs (uncaught_of code) st.host is told here.1) (inr refl)

  body_side : (b : Handler) (bs : List Handler) (n : ℕ) (v : Option Act) (o : Outcome HostState) → InIt (Running b bs n) → ((a : Act) → v ≡ Some a → SendsUp (link_of l.server) (act_item l.sent.number a)) → (state_after o).host.event ≡ e → ToldOf (link_of l.server) (state_after o).host
      → SideNext (InEvent e (Running b bs n)) l (act_next e b bs n l v (ended_next g e b bs l o))
  body_side b bs n None o here sends is told = ended_side b bs n o here is told
  body_side b bs n (Some a) o here sends is told = act_side b bs n l.sent.number a here (sends a refl)

  bodies_side : (bodies : Bodies) → InIt bodies → OrderlyIn (InEvent e bodies) l.finished (link_of l.server) → SideNext (InEvent e bodies) l (bodies_next g e bodies l)
  bodies_side (Gated b bs) here was = on_it (Opened BeforeBodies) (Gated b bs) (Running b bs 0) here (inr refl)
  bodies_side (Running b bs n) here was =
      body_side b bs n (slice_get (state_after (run_body g b l)).acts n) (run_body g b l) here
      (λ a at. body_sends g e b l (link_of l.server) n a l.sent.number here.0 was.1.0 k.told at) (body_event g b l ∙ here.0) (body_told g b l (link_of l.server) k.told)
  bodies_side (Failing kind line bs) here was =
      quiet_by (Logged line) (InEvent e (Failing kind line bs)) l l (after_fault g e l.finished (link_of l.server) kind bs l.host) refl refl refl refl
      (fault_goes g e l.finished (link_of l.server) kind bs l.host here.0 k.told here.1) (inr refl)

-- ---- a server is selected

module _ (g : Setup) (l : TraceState) (k : Going l) (going : l.finished ≡ false) where
  entering : (i : Item) (p : Phase) (l' : TraceState) (e : EventName) (h : HostState) → awaits p ≡ false → leaves p ≡ false → p ≡ l.phase → l'.answers.connects ≡ l.answers.connects → link_of l'.server ≡ link_of l.server → l'.finished ≡ l.finished → SendsUp (link_of l.server) i → Quiet i p l (put (enter g e (link_of l.server) h) l')
  entering i p l' e h was none is connects link finished sends =
      quiet_by i p l l' (enter g e (link_of l.server) h) was connects link finished
      (enter_goes g e l.finished (link_of l.server) h (not_left l.finished (link_of l.server) l.phase k.left (ap leaves (sym is) ∙ none) going)) sends

  choosing_side : l.phase ≡ Choosing → (h : HostState) (target : Target) → h.net.relays ≡ l.host.net.relays → SideNext Choosing l (choosing_next g l h target)
  choosing_side is h target same = by_target target
    where
      n : Unleft l.finished (link_of l.server)
      n = not_left l.finished (link_of l.server) l.phase k.left (ap leaves is)

      asks : (call : List (List ℕ)) → Quiet (Called call) Choosing l (put (place (Selecting call) h) l)
      asks call = quiet_by (Called call) Choosing l l (place (Selecting call) h) refl refl refl refl (calm l.finished (link_of l.server) (Selecting call) h refl (λ r. k.told (sym same ∙ r)) n) (inr refl)

      by_pool : (pool : List ℕ) → SideNext Choosing l (default_next g l h pool)
      by_pool [] = entering Resumed Choosing l LbFailed h refl refl (sym is) refl refl refl (inr refl)
      by_pool (b ∷ bs) = asks _

      by_target : (t : Target) → SideNext Choosing l (choosing_next g l h t)
      by_target Default = by_pool h.net.pool
      by_target (PoolOf pool) = asks _
      by_target (MemberOf pool a) = asks _
      by_target (NodeAt a) = entering Resumed Choosing l LbSelected (with_selected (Some (record { pool = []; addr = a })) h) refl refl (sym is) refl refl refl (inr refl)

  selected_side : (call : List (List ℕ)) → l.phase ≡ Selecting call → (more : List Reply) (o : Option Addr) → SideNext (Selecting call) l (selected_next g l more o)
  selected_side call is more None = entering Resumed (Selecting call) (record l { answers = record l.answers { replies = more } }) LbFailed l.host refl refl (sym is) refl refl refl (inr refl)
  selected_side call is more (Some a) =
      entering Resumed (Selecting call) (record l { answers = record l.answers { replies = more } }) LbSelected (with_selected (Some (record { pool = target_pool l.host.net.pool l.host.net.target; addr = a })) l.host) refl refl (sym is) refl refl refl (inr refl)

  selecting_side : (call : List (List ℕ)) → l.phase ≡ Selecting call → (replies : List Reply) → SideNext (Selecting call) l (selecting_next g call l replies)
  selecting_side call is [] = λ w. never w
  selecting_side call is (reply.Ok v ∷ more) = selected_side call is more (addr_of v)
  selecting_side call is (reply.Fault f ∷ more) = selected_side call is more None

answering_side : (g : Setup) (a : Addr) (l : TraceState) (connects : List (Option Stream)) → l.finished ≡ false → l.answers.connects ≡ connects → SideNext (Answering a) l (answering_next g l connects)
answering_side g a l [] going is = λ w. is
answering_side g a l (Some s ∷ more) going is =
    let here = enter_goes g ServerConnected l.finished Up (serving l.host) refl in
    record {
      asked = a;
      was = refl;
      answer = Some s;
      more = more;
      is = is;
      made_is = refl;
      connects = refl;
      link = refl;
      waits = here.waits;
      going = record { event = here.event; told = here.told; left = here.left; asked = λ w. absurd (true≢false (sym w ∙ here.waits)) };
    }
answering_side g a l (None ∷ more) going is =
    let here = enter_goes g LbFailed l.finished Absent l.host refl in
    record {
      asked = a;
      was = refl;
      answer = None;
      more = more;
      is = is;
      made_is = refl;
      connects = refl;
      link = refl;
      waits = here.waits;
      going = record { event = here.event; told = here.told; left = here.left; asked = λ w. absurd (true≢false (sym w ∙ here.waits)) };
    }

-- none is up, and none is being given up
connecting_free : (k : Link) → is_up k ≡ false → is_leaving k ≡ false → is_serving k ≡ false
connecting_free Absent u n = refl
connecting_free Asked u n = refl
connecting_free Up u n = absurd (true≢false u)
connecting_free (Left b) u n = absurd (true≢false n)
connecting_free GivenUp u n = refl

connecting_side : (a : Addr) (l : TraceState) → Going l → l.phase ≡ Connecting a → OrderlyIn (Connecting a) l.finished (link_of l.server) → Asking (Connecting a) l a (record l { phase = Answering a; server = Sought })
connecting_side a l k is was = record {
  was = refl;
  going_on = was.0;
  free = connecting_free (link_of l.server) was.1 (not_left l.finished (link_of l.server) l.phase k.left (ap leaves is) was.0);
  phase = refl;
  server = refl;
  connects = refl;
  going = record { event = tt; told = λ r. absurd (true≢false (sym (k.told r) ∙ was.1)); left = λ x y. never y; asked = λ w. refl };
}

-- ---- bytes of sides

read_link : (n : ℕ) (v : ServerSide) → link_of (read_server n v) ≡ link_of v
read_link n NoServer = refl
read_link n Sought = refl
read_link n (There s) = refl
read_link n (Leaving b s) = refl
read_link n (Retired s) = refl

record Stays (l m : TraceState) : Type 0 where
  connects : m.answers.connects ≡ l.answers.connects
  link : link_of m.server ≡ link_of l.server
  finished : m.finished ≡ l.finished

read_stays : (side : Side) (n : ℕ) (l : TraceState) → Stays l (read_side side n l)
read_stays Client n l = record { connects = refl; link = refl; finished = refl }
read_stays Server n l = record { connects = refl; link = read_link n l.server; finished = refl }

module _ (g : Setup) (l : TraceState) (k : Going l) (p : Phase) (is : l.phase ≡ p) (waits : awaits p ≡ false) (none : leaves p ≡ false) where
  n_left : Unleft l.finished (link_of l.server)
  n_left = not_left l.finished (link_of l.server) l.phase k.left (ap leaves is ∙ none)

  -- a calm phase, with this host
  rests : (q : Phase) → is_calm q ≡ true → Stands l.finished (link_of l.server) (place q l.host)
  rests q c = calm l.finished (link_of l.server) q l.host c k.told n_left

  enters : (e : EventName) (h : HostState) → l.finished ≡ false → Stands l.finished (link_of l.server) (enter g e (link_of l.server) h)
  enters e h going = enter_goes g e l.finished (link_of l.server) h (n_left going)

  reads_side : (side : Side) (n : ℕ) (q : Place) → Stands l.finished (link_of l.server) q → SideNext p l (reads_next l side n q)
  reads_side side n q s = let r = read_stays side n l in quiet_by (Read side n) p l (read_side side n l) q waits r.connects r.link r.finished s (inr refl)

  moves_side : (side : Side) (n : ℕ) (bytes : List ℕ) (q : Phase) → is_calm q ≡ true → is_up (link_of l.server) ≡ true → SideNext p l (moves_next l side n bytes q)
  moves_side Client n bytes q c up = quiet_by (Moved Client n (peer_of l.sent.number Server) bytes) p l (read_side Client n l) (place q l.host) waits refl refl refl (rests q c) (inl up)
  moves_side Server n bytes q c up = quiet_by (Moved Server n ToClient bytes) p l (read_side Server n l) (place q l.host) waits refl (read_link n l.server) refl (rests q c) (inl up)

  ends_side : (r : Reason) → SideNext p l (finish g r l)
  ends_side r = finish_quiet g r p l (λ w. absurd (true≢false (sym w ∙ waits)))

  -- nothing is awaited
  idle : awaits p ≡ true → l.answers.connects ≡ []
  idle w = absurd (true≢false (sym w ∙ waits))

  fault_side : (side : Side) (f : HttpFault) → SideNext p l (fault_next g l side f)
  fault_side side f = by_answer (is_answered side f)
    where
      by_answer : (b : Bool) → SideNext p l (fault_by g l f b)
      by_answer true = quiet_by (Sent ToClient (g.heads.refusal f)) p l l (place (Finishing (HttpReason f)) l.host) waits refl refl refl (rests (Finishing (HttpReason f)) refl) (inr refl)
      by_answer false = ends_side (HttpReason f)

  fired_side : (side : Side) (n : ℕ) (more : List Choice) → l.finished ≡ false → SideNext p l (fired_next g l side n more)
  fired_side side n more going =
      let s = read_stays side n l in
      quiet_by (Fired side n) p l (record (read_side side n l) { answers = record (read_side side n l).answers { choices = more } }) (enter g (data_event side) (link_of l.server) (fired_host side (take n (stream_of side l).unread) l.host)) waits s.connects s.link s.finished
      (enters (data_event side) (fired_host side (take n (stream_of side l).unread) l.host) going) (inr refl)

  -- ---- with HTTP

  request_side : (n : ℕ) (r : Result Request HttpFault) → l.finished ≡ false → SideNext p l (request_next g l n r)
  request_side n (Err f) going = fault_side Client f
  request_side n (Ok r) going = reads_side Client n _ (enters HttpRequest (request_host r l.host) going)

  head_side : (part : HeadPart) → l.finished ≡ false → SideNext p l (head_next g l part)
  head_side (HeadOf n) going = request_side n (g.heads.request (take n l.client.unread)) going
  head_side StreamEnds going = ends_side Closed
  head_side (Faulty f) going = fault_side Client f
  head_side NoHead going = idle

  gathered_goes : (side : Side) (h : HostState) → l.finished ≡ false → Stands l.finished (link_of l.server) (gathered_place g side (link_of l.server) h)
  gathered_goes side h going = enters (gather_event side) h going

  on_goes : (side : Side) (wanted : ℕ) (s : BodyState) (whole : Bool) (h : HostState) → h.net.relays ≡ l.host.net.relays → l.finished ≡ false → Stands l.finished (link_of l.server) (gathered_on g side (link_of l.server) wanted s whole h)
  on_goes side wanted s true h same going = gathered_goes side h going
  on_goes side zero s false h same going = gathered_goes side h going
  on_goes side (suc n) s false h same going = calm l.finished (link_of l.server) (Gathering side (suc n) s) h refl (λ r. k.told (sym same ∙ r)) n_left

  gathering_side : (side : Side) (wanted : ℕ) (s : BodyState) (part : Part) → l.finished ≡ false → SideNext p l (gathering_next g l side wanted s part)
  gathering_side side wanted s Byte going =
      reads_side side 1 _ (on_goes side (one_less wanted) (after_byte s) (is_at_end (after_byte s)) (http_at (with_gathered (take 1 (stream_of side l).unread) (after_byte s) (http_of l.host)) l.host) refl going)
  gathering_side side wanted s (Chunk n size) going = reads_side side n _ (rests (Gathering side wanted (body.Chunk size)) refl)
  gathering_side side wanted s (End n) going = reads_side side n _ (gathered_goes side (http_at (with_whole (http_of l.host)) l.host) going)
  gathering_side side wanted s Pending going = idle
  gathering_side side wanted s (Bad f) going = fault_side side f

  dropping_side : (s : BodyState) (part : Part) → SideNext p l (dropping_next g l s part)
  dropping_side s Byte = reads_side Client 1 _ (rests (Dropping (after_byte s)) refl)
  dropping_side s (Chunk n size) = reads_side Client n _ (rests (Dropping (body.Chunk size)) refl)
  dropping_side s (End n) = reads_side Client n _ (rests (next_request l.host) (next_calm l.host))
  dropping_side s Pending = idle
  dropping_side s (Bad f) = fault_side Client f

  end_side : (side : Side) (n : ℕ) (counted standing : Bool) → is_up (link_of l.server) ≡ true → SideNext p l (body_end_next l side n counted standing)
  end_side side n true standing up = reads_side side n _ (rests (behind_message side l.host) (message_calm side l.host))
  end_side side n false standing up = moves_side side n (last_line standing) (behind_message side l.host) (message_calm side l.host) up

  forwarding_side : (side : Side) (s : BodyState) (standing : Bool) (part : Part) → is_up (link_of l.server) ≡ true → SideNext p l (sending_next g l side s standing part)
  forwarding_side side s standing Byte up = moves_side side 1 _ (Forwarding side (after_byte s) standing) refl up
  forwarding_side side s standing (Chunk n size) up = moves_side side n _ (Forwarding side (body.Chunk size) true) refl up
  forwarding_side side s standing (End n) up = end_side side n (is_counted s) standing up
  forwarding_side side s standing Pending up = idle
  forwarding_side side s standing (Bad f) up = fault_side side f

  heading_side : (side : Side) → is_up (link_of l.server) ≡ true → SideNext p l (heading_next g l side)
  heading_side Client up = quiet_by (Moved Client 0 (peer_of l.sent.number Server) _) p l l (place _ l.host) waits refl refl refl (rests _ (head_calm Client l.host (http_of l.host).whole)) (inl up)
  heading_side Server up = quiet_by (Moved Server 0 ToClient _) p l l (place _ l.host) waits refl refl refl (rests _ (head_calm Server l.host (http_of l.host).whole)) (inl up)

  reuse_side : (choices : List Choice) → SideNext p l (reuse_next g l choices)
  reuse_side [] = idle
  reuse_side (PassesOn side n ∷ more) = idle
  reuse_side (Fires side ∷ more) = idle
  reuse_side (Reuses true ∷ more) = quiet_by (Reused true) p l (record l { answers = record l.answers { choices = more } }) (place (Heading Client) l.host) waits refl refl refl (rests (Heading Client) refl) (inr refl)
  reuse_side (Reuses false ∷ more) = quiet_by (Reused false) p l (record l { answers = record l.answers { choices = more } }) (place (GivingUp BeforeSelect) l.host) waits refl refl refl (rests (GivingUp BeforeSelect) refl) (inr refl)

  interim_side : (n : ℕ) (r : Response) (v : Version) → is_up (link_of l.server) ≡ true → SideNext p l (interim_next g l n r v)
  interim_side n r Http10 up = reads_side Server n _ (rests AtResponse refl)
  interim_side n r Http11 up = quiet_by (Moved Server n ToClient (g.heads.interim r)) p l (read_side Server n l) (place AtResponse l.host) waits refl (read_link n l.server) refl (rests AtResponse refl) (inl up)

  status_side : (n : ℕ) (r : Response) (switches interim : Bool) → is_up (link_of l.server) ≡ true → l.finished ≡ false → SideNext p l (status_next g l n r switches interim)
  status_side n r true interim up going = ends_side (HttpReason fault.Switching)
  status_side n r false true up going = interim_side n r (asked_version (http_of l.host).came) up
  status_side n r false false up going = reads_side Server n _ (enters HttpResponse (response_host r l.host) going)

  response_side : (n : ℕ) (r : Result Response HttpFault) → is_up (link_of l.server) ≡ true → l.finished ≡ false → SideNext p l (response_next g l n r)
  response_side n (Err f) up going = ends_side (HttpReason f)
  response_side n (Ok r) up going = status_side n r (nat_eq r.head.status 101) (is_interim r.head) up going

  answer_side : (part : HeadPart) → is_up (link_of l.server) ≡ true → l.finished ≡ false → SideNext p l (answer_next g l part)
  answer_side (HeadOf n) up going = response_side n (g.heads.response (http_of l.host).came (take n (stream_of Server l).unread)) up going
  answer_side StreamEnds up going = ends_side (HttpReason fault.ShortBody)
  answer_side (Faulty f) up going = ends_side (HttpReason f)
  answer_side NoHead up going = idle

  relay_side : (a : RelayAct) → is_up (link_of l.server) ≡ true → l.finished ≡ false → SideNext p l (relay_next g l a)
  relay_side BothDone up going = ends_side Closed
  relay_side (Passing Client n more) up going = quiet_by (Passed Client (peer_of l.sent.number Server) _) p l (record (read_side Client n l) { answers = record (read_side Client n l).answers { choices = more } }) (place Relaying l.host) waits refl refl refl (rests Relaying refl) (inl up)
  relay_side (Passing Server n more) up going = quiet_by (Passed Server ToClient _) p l (record (read_side Server n l) { answers = record (read_side Server n l).answers { choices = more } }) (place Relaying l.host) waits refl (read_link n l.server) refl (rests Relaying refl) (inl up)
  relay_side (Firing side n more) up going = fired_side side n more going
  relay_side Resting up going = idle

  collect_side : (a : RelayAct) → l.finished ≡ false → SideNext p l (collect_next g l a)
  collect_side BothDone going = ends_side Closed
  collect_side (Passing side n more) going = idle
  collect_side (Firing side n more) going = fired_side side n more going
  collect_side Resting going = idle

  collecting_side : (asks : Asks) → l.finished ≡ false → SideNext p l (collecting_next g l asks)
  collecting_side NotAsked going = idle
  collecting_side (Stated n) going = collect_side (collect_act n l.client.unread (behind_fires l.answers.choices)) going

  continuing_side : SideNext p l (continuing_next g l)
  continuing_side = quiet_by (Moved Server 0 ToClient _) p l l (place _ l.host) waits refl refl refl (rests _ (asked_calm (link_of l.server) l.host)) (inr refl)

-- ---- a server connection is given up

record Leaves (b : Behind) (v : ServerSide) : Type 0 where
  serves : is_serving (link_of (leaving b v)) ≡ is_serving (link_of v)
  given : is_given_up (link_of (leaving b v)) ≡ is_given_up (link_of v)
  link : link_of (leaving b v) ≡ Left b

leaves_side : (b : Behind) (v : ServerSide) → is_up (link_of v) ≡ true → Leaves b v
leaves_side b NoServer up = never up
leaves_side b Sought up = never up
leaves_side b (There s) up = record { serves = refl; given = refl; link = refl }
leaves_side b (Leaving c s) up = never up
leaves_side b (Retired s) up = never up

giving_side : (g : Setup) (l : TraceState) (b : Behind) → is_up (link_of l.server) ≡ true → SideNext (GivingUp b) l (giving_up_next g l b)
giving_side g l b up =
    let v = leaves_side b l.server up in
    let s = giving_goes g l.finished b l.host in
    record {
      connects = refl;
      serves = v.serves;
      given = v.given;
      waits = s.waits;
      sends = inr refl;
      going = record { event = s.event; told = λ r. ap is_up v.link ∙ s.told r; left = λ x y. s.left x (ap is_leaving (sym v.link) ∙ y); asked = λ w. absurd (true≢false (sym w ∙ s.waits)) };
      waited = λ w. never w;
    }

retires_link : (b : Behind) (v : ServerSide) → link_of v ≡ Left b → (is_serving (link_of v) ≡ true) × (link_of (retired v) ≡ GivenUp)
retires_link b NoServer e = absurd (let x : Absent ≡ Left b = e in cc)
retires_link b Sought e = absurd (let x : Asked ≡ Left b = e in cc)
retires_link b (There s) e = absurd (let x : Up ≡ Left b = e in cc)
retires_link b (Leaving c s) e = (refl, refl)
retires_link b (Retired s) e = absurd (let x : GivenUp ≡ Left b = e in cc)

retiring_side : (l : TraceState) (k : Going l) (b : Behind) → l.finished ≡ false → link_of l.server ≡ Left b → SideNext (Retiring b) l (retiring_next l b)
retiring_side l k b going is =
    let v = retires_link b l.server is in
    let c = retired_calm b l.host in
    let s = calm l.finished GivenUp (behind_retired b l.host) l.host c (λ r. absurd (true≢false (sym (k.told r) ∙ ap is_up is))) (λ x. refl) in
    record {
      was = refl;
      going_on = going;
      served = v.0;
      link = v.1;
      connects = refl;
      waits = s.waits;
      going = record { event = s.event; told = λ r. ap is_up v.1 ∙ s.told r; left = λ x y. s.left x (ap is_leaving (sym v.1) ∙ y); asked = λ w. absurd (true≢false (sym w ∙ s.waits)) };
    }

-- ---- all phases

loose_side : (l : TraceState) (k : Going l) → l.phase ≡ Releasing → is_up (link_of l.server) ≡ true → SideNext Releasing l (releasing_next l)
loose_side l k is up =
    quiet_by (Moved Client 0 (ToServer l.sent.number) l.host.net.loose) Releasing l l (place Relaying (with_loose [] l.host)) refl refl refl refl
    (calm l.finished (link_of l.server) Relaying (with_loose [] l.host) refl k.told (not_left l.finished (link_of l.server) l.phase k.left (ap leaves is))) (inl up)

pub phase_side : (g : Setup) (p : Phase) (l : TraceState) → l.phase ≡ p → Going l → OrderlyIn p l.finished (link_of l.server) → SideNext p l (phase_next g p l)
phase_side g (InEvent e bodies) l is k was =
    let E : Phase → Type 0 = λ q. EventIs q l.host in
    let V : Phase → Type 0 = λ q. LeavesThere l.finished (link_of l.server) q in
    bodies_side g e l k bodies (subst E is k.event, subst V is k.left) was
phase_side g AtHead l is k was = head_side g l k AtHead is refl refl (head_part l.client.unread l.client.ended) was
phase_side g Continuing l is k was = continuing_side g l k Continuing is refl refl
phase_side g (Gathering side wanted s) l is k was = gathering_side g l k (Gathering side wanted s) is refl refl side wanted s (part_of s (stream_of side l).unread (stream_of side l).ended) was.0
phase_side g AtReuse l is k was = reuse_side g l k AtReuse is refl refl l.answers.choices
phase_side g (GivingUp b) l is k was = giving_side g l b was.1
phase_side g (Retiring b) l is k was = retiring_side l k b was.0 was.1
phase_side g (Heading side) l is k was = heading_side g l k (Heading side) is refl refl side was.1
phase_side g (Forwarding side s standing) l is k was = forwarding_side g l k (Forwarding side s standing) is refl refl side s standing (part_of s (stream_of side l).unread (stream_of side l).ended) was.1
phase_side g (Dropping s) l is k was = dropping_side g l k (Dropping s) is refl refl s (part_of s l.client.unread l.client.ended)
phase_side g AtResponse l is k was = answer_side g l k AtResponse is refl refl (head_part (stream_of Server l).unread (stream_of Server l).ended) was.1 was.0
phase_side g Choosing l is k was = choosing_side g l k was.0 is (with_selected None l.host) l.host.net.target refl
phase_side g (Selecting call) l is k was = selecting_side g l k was.0 call is l.answers.replies
phase_side g (Connecting a) l is k was = connecting_side a l k is was
phase_side g (Answering a) l is k was = answering_side g a l l.answers.connects was.0 refl
phase_side g Releasing l is k was = loose_side l k is was.1
phase_side g Relaying l is k was = relay_side g l k Relaying is refl refl (relay_act (incoming Client l) (incoming Server l) l.answers.choices) was.1 was.0
phase_side g Collecting l is k was = collecting_side g l k Collecting is refl refl l.host.net.client.asks was.0
phase_side g (Finishing r) l is k was = finish_side g r (Finishing r) l (λ w. never w)
phase_side g Draining l is k was = λ w. never w
