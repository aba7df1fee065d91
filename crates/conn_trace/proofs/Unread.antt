-- No item lengthens what lies unread.
use Rattle.std.proofs.Common.{◌≡◌, subst, ℕ, zero, suc, ◌≤◌, List, [], ◌∷◌, length, take, drop, Bool, true, false, ◌||◌, not, if◌then◌else◌, Option, Some, None, arith}
use Rattle.std.specs.Prelude.{slice_get}
use Rattle.std.proofs.lemmas.List.{length-drop, length-take}
use Rattle.px_bytes.specs.declared.addr.Addr.{Addr}
use Rattle.px_bytes.specs.declared.addr.Side.{Side}
use Rattle.px_bytes.specs.declared.addr.Side.TheVariants.{Client, Server}
use Rattle.px_bytes.specs.declared.fault.Reply.{Reply}
use Rattle.px_bytes.specs.declared.fault.Reply.TheVariants as reply
use Rattle.rule_model.specs.Host as effect
use Rattle.rule_model.specs.Outcome as act
use Rattle.rule_model.specs.Outcome.{Act, Did, Outcome, Ends, Waits as Stops}
use Rattle.rule_model.specs.Laws.{state_after}
use Rattle.event_order.specs.declared.event.EventName.{EventName}
use Rattle.irule_net.specs.declared.state.Asks.{Asks}
use Rattle.irule_net.specs.declared.state.Asks.TheVariants.{NotAsked, Stated}
use Rattle.irule_net.specs.declared.state.Target.{Target}
use Rattle.irule_net.specs.declared.state.Target.TheVariants.{Default, PoolOf, MemberOf, NodeAt}
use Rattle.conn_trace.specs.Bodies.{act_item, run_body, ended_next, act_next, bodies_next}
use Rattle.conn_trace.specs.Bounds.{FewOfServer, FewLie, UnreadWithin, passed_by, ReadsOnly}
use Rattle.conn_trace.specs.Gates.{Counts, may_give}
use Rattle.conn_trace.specs.Host.{HostState, with_selected, http_of}
use Rattle.conn_trace.specs.Item.{Item, Choice, Reason, CutBy}
use Rattle.conn_trace.specs.Relay.{incoming, RelayAct, BothDone, Passing, Firing, Resting, relay_act, collect_act, behind_fires}
use Rattle.conn_trace.specs.Selected.{addr_of}
use Rattle.conn_trace.specs.Setup.{Handler, Setup}
use Rattle.conn_trace.specs.State.{Bodies, Gated, Running, Failing, Phase, InEvent, Choosing, Selecting, Connecting, Answering, Releasing, Relaying, Collecting, Finishing, Draining, Stream, ServerSide, NoServer, Sought, There, Retired, Cut, TraceState, Next, Does, Waits, Over, stream_of, server_stream, read_server, read_side}
use Rattle.std.proofs.Common.{Result, Ok, Err, nat_eq}
use Rattle.px_bytes.specs.declared.fault.HttpFault.{HttpFault}
use Rattle.http_frames.specs.declared.state.BodyState.{BodyState}
use Rattle.conn_trace.specs.Item.{PassesOn, Fires, Reuses}
use Rattle.http_heads.specs.Fronts.{head_part}
use Rattle.http_heads.specs.declared.front.HeadPart.{HeadPart}
use Rattle.http_heads.specs.declared.front.HeadPart.TheVariants.{HeadOf, StreamEnds, Faulty, NoHead}
use Rattle.conn_trace.specs.SentBodies.{is_answered}
use Rattle.http_frames.specs.Parts.{Part, Byte, Chunk, End, Pending, Bad, part_of}
use Rattle.irule_http.specs.declared.state.Request.{Request}
use Rattle.irule_http.specs.declared.state.Response.{Response}
use Rattle.conn_trace.specs.State.{AtHead, Continuing, Gathering, AtReuse, GivingUp, Retiring, Heading, Forwarding, Dropping, AtResponse, Behind, Leaving, leaving, retired}
use Rattle.conn_trace.specs.Places.{Place}
use Rattle.http_heads.specs.declared.line.Version.{Version}
use Rattle.http_heads.specs.declared.line.Version.TheVariants.{Http10, Http11}
use Rattle.conn_trace.specs.Messages.{reads_next, fault_by, fault_next, request_next, head_next, interim_next, asked_version, is_interim, status_next, response_next, answer_next, moves_next, body_end_next, is_counted, sending_next, gathering_next, dropping_next, reuse_next}
use Rattle.conn_trace.specs.Places.{finish}
use Rattle.conn_trace.specs.Trace.{choosing_next, default_next, selected_next, selecting_next, answering_next, relay_next, fired_next, collect_next, collecting_next, phase_next, cut_takes, uncut, cut_open, cut_next, counted, next_item, Unfolds}

module _ (n : ℕ) where
  -- what comes next leaves no more unread, and passes on no more
  abbrev ReadsNext : Next → Type 0
  ReadsNext (Does i m) = UnreadWithin n m × (passed_by i ≤ n)
  ReadsNext (Waits k) = Unit {0}
  ReadsNext Over = Unit {0}

  none : 0 ≤ n
  none = omega arith

  finish_reads : (g : Setup) (r : Reason) (l : TraceState) → UnreadWithin n l → ReadsNext (finish g r l)
  finish_reads g r l w = (w, none)

  act_passes : (number : ℕ) (a : Act) → passed_by (act_item number a) ≤ n
  act_passes number (Did (effect.Logged text)) = none
  act_passes number (Did (effect.Sent side bytes)) = none
  act_passes number (act.Called path call) = none

  ended_reads : (g : Setup) (e : EventName) (b : Handler) (bs : List Handler) (l : TraceState) (o : Outcome HostState) → UnreadWithin n l → ReadsNext (ended_next g e b bs l o)
  ended_reads g e b bs l (Ends code st) w = (w, none)
  ended_reads g e b bs l (Stops path call st) w = tt

  body_reads : (g : Setup) (e : EventName) (b : Handler) (bs : List Handler) (k : ℕ) (l : TraceState) (v : Option Act) (o : Outcome HostState) → UnreadWithin n l → ReadsNext (act_next e b bs k l v (ended_next g e b bs l o))
  body_reads g e b bs k l None o w = ended_reads g e b bs l o w
  body_reads g e b bs k l (Some a) o w = (w, act_passes l.sent.number a)

  bodies_reads : (g : Setup) (e : EventName) (bodies : Bodies) (l : TraceState) → UnreadWithin n l → ReadsNext (bodies_next g e bodies l)
  bodies_reads g e (Gated b bs) l w = (w, none)
  bodies_reads g e (Running b bs k) l w = body_reads g e b bs k l (slice_get (state_after (run_body g b l)).acts k) (run_body g b l) w
  bodies_reads g e (Failing kind line bs) l w = (w, none)

  choosing_reads : (g : Setup) (l : TraceState) (h : HostState) (target : Target) → UnreadWithin n l → ReadsNext (choosing_next g l h target)
  choosing_reads g l h Default w = by_pool h.net.pool
    where
      by_pool : (pool : List ℕ) → ReadsNext (default_next g l h pool)
      by_pool [] = (w, none)
      by_pool (b ∷ bs) = (w, none)
  choosing_reads g l h (PoolOf pool) w = (w, none)
  choosing_reads g l h (MemberOf pool a) w = (w, none)
  choosing_reads g l h (NodeAt a) w = (w, none)

  selected_reads : (g : Setup) (l : TraceState) (more : List Reply) (a : Option Addr) → UnreadWithin n l → ReadsNext (selected_next g l more a)
  selected_reads g l more None w = (w, none)
  selected_reads g l more (Some a) w = (w, none)

  selecting_reads : (g : Setup) (call : List (List ℕ)) (l : TraceState) (replies : List Reply) → UnreadWithin n l → ReadsNext (selecting_next g call l replies)
  selecting_reads g call l [] w = tt
  selecting_reads g call l (reply.Ok v ∷ more) w = selected_reads g l more (addr_of v) w
  selecting_reads g call l (reply.Fault f ∷ more) w = selected_reads g l more None w

  answering_reads : (g : Setup) (l : TraceState) (connects : List (Option Stream)) → FewLie n l.client l.server connects → ReadsNext (answering_next g l connects)
  answering_reads g l [] w = tt
  answering_reads g l (Some s ∷ more) w = (record { of_client = w.of_client; of_server = w.of_made.0; of_made = w.of_made.1 }, none)
  answering_reads g l (None ∷ more) w = (record { of_client = w.of_client; of_server = tt; of_made = w.of_made }, none)

  few_left : (k : ℕ) (bytes : List ℕ) → length bytes ≤ n → length (drop k bytes) ≤ n
  few_left k bytes few = let e = length-drop k bytes in omega (arith, e, few)

  few_taken : (k : ℕ) (bytes : List ℕ) → length bytes ≤ n → length (take k bytes) ≤ n
  few_taken k bytes few = let e = length-take k bytes in omega (arith, e, few)

  server_read : (k : ℕ) (v : ServerSide) → FewOfServer n v → FewOfServer n (read_server k v)
  server_read k NoServer w = tt
  server_read k Sought w = tt
  server_read k (There s) w = few_left k s.unread w
  server_read k (Leaving b s) w = w
  server_read k (Retired s) w = w

  reads : (side : Side) (k : ℕ) (l : TraceState) → UnreadWithin n l → UnreadWithin n (read_side side k l)
  reads Client k l w = record { of_client = few_left k l.client.unread w.of_client; of_server = w.of_server; of_made = w.of_made }
  reads Server k l w = record { of_client = w.of_client; of_server = server_read k l.server w.of_server; of_made = w.of_made }

  of_server : (v : ServerSide) → FewOfServer n v → length (server_stream v).unread ≤ n
  of_server NoServer w = none
  of_server Sought w = none
  of_server (There s) w = w
  of_server (Leaving b s) w = none
  of_server (Retired s) w = none

  of_stream : (side : Side) (l : TraceState) → UnreadWithin n l → length (stream_of side l).unread ≤ n
  of_stream Client l w = w.of_client
  of_stream Server l w = of_server l.server w.of_server

  -- a phase and a host's state beside change no stream
  fired_reads : (g : Setup) (l : TraceState) (side : Side) (k : ℕ) (more : List Choice) → UnreadWithin n l → ReadsNext (fired_next g l side k more)
  fired_reads g l Client k more w = (reads Client k l w, none)
  fired_reads g l Server k more w = (reads Server k l w, none)

  relay_reads : (g : Setup) (l : TraceState) (a : RelayAct) → UnreadWithin n l → ReadsNext (relay_next g l a)
  relay_reads g l BothDone w = (w, none)
  relay_reads g l (Passing Client k more) w = (reads Client k l w, few_taken k l.client.unread w.of_client)
  relay_reads g l (Passing Server k more) w = (reads Server k l w, few_taken k (stream_of Server l).unread (of_stream Server l w))
  relay_reads g l (Firing side k more) w = fired_reads g l side k more w
  relay_reads g l Resting w = tt

  collect_reads : (g : Setup) (l : TraceState) (a : RelayAct) → UnreadWithin n l → ReadsNext (collect_next g l a)
  collect_reads g l BothDone w = (w, none)
  collect_reads g l (Passing side k more) w = tt
  collect_reads g l (Firing side k more) w = fired_reads g l side k more w
  collect_reads g l Resting w = tt

  collecting_reads : (g : Setup) (l : TraceState) (asks : Asks) → UnreadWithin n l → ReadsNext (collecting_next g l asks)
  collecting_reads g l NotAsked w = tt
  collecting_reads g l (Stated k) w = collect_reads g l (collect_act k l.client.unread (behind_fires l.answers.choices)) w

  -- ---- HTTP

  reads_reads : (l : TraceState) (side : Side) (k : ℕ) (p : Place) → UnreadWithin n l → ReadsNext (reads_next l side k p)
  reads_reads l Client k p w = (reads Client k l w, none)
  reads_reads l Server k p w = (reads Server k l w, none)

  moves_reads : (l : TraceState) (side : Side) (k : ℕ) (bytes : List ℕ) (phase : Phase) → UnreadWithin n l → ReadsNext (moves_next l side k bytes phase)
  moves_reads l Client k bytes phase w = (reads Client k l w, none)
  moves_reads l Server k bytes phase w = (reads Server k l w, none)

  fault_reads : (g : Setup) (l : TraceState) (side : Side) (f : HttpFault) → UnreadWithin n l → ReadsNext (fault_next g l side f)
  fault_reads g l side f w = by_answer (is_answered side f)
    where
      by_answer : (b : Bool) → ReadsNext (fault_by g l f b)
      by_answer true = (w, none)
      by_answer false = (w, none)

  request_reads : (g : Setup) (l : TraceState) (k : ℕ) (r : Result Request HttpFault) → UnreadWithin n l → ReadsNext (request_next g l k r)
  request_reads g l k (Err f) w = fault_reads g l Client f w
  request_reads g l k (Ok r) w = (reads Client k l w, none)

  head_reads : (g : Setup) (l : TraceState) (p : HeadPart) → UnreadWithin n l → ReadsNext (head_next g l p)
  head_reads g l (HeadOf k) w = request_reads g l k (g.heads.request (take k l.client.unread)) w
  head_reads g l StreamEnds w = (w, none)
  head_reads g l (Faulty f) w = fault_reads g l Client f w
  head_reads g l NoHead w = tt

  interim_reads : (g : Setup) (l : TraceState) (k : ℕ) (r : Response) (v : Version) → UnreadWithin n l → ReadsNext (interim_next g l k r v)
  interim_reads g l k r Http10 w = (reads Server k l w, none)
  interim_reads g l k r Http11 w = (reads Server k l w, none)

  status_reads : (g : Setup) (l : TraceState) (k : ℕ) (r : Response) (switches interim : Bool) → UnreadWithin n l → ReadsNext (status_next g l k r switches interim)
  status_reads g l k r true interim w = (w, none)
  status_reads g l k r false true w = interim_reads g l k r (asked_version (http_of l.host).came) w
  status_reads g l k r false false w = (reads Server k l w, none)

  response_reads : (g : Setup) (l : TraceState) (k : ℕ) (r : Result Response HttpFault) → UnreadWithin n l → ReadsNext (response_next g l k r)
  response_reads g l k (Err f) w = (w, none)
  response_reads g l k (Ok r) w = status_reads g l k r (nat_eq r.head.status 101) (is_interim r.head) w

  answer_reads : (g : Setup) (l : TraceState) (p : HeadPart) → UnreadWithin n l → ReadsNext (answer_next g l p)
  answer_reads g l (HeadOf k) w = response_reads g l k (g.heads.response (http_of l.host).came (take k (stream_of Server l).unread)) w
  answer_reads g l StreamEnds w = (w, none)
  answer_reads g l (Faulty f) w = (w, none)
  answer_reads g l NoHead w = tt

  reuse_reads : (g : Setup) (l : TraceState) (choices : List Choice) → UnreadWithin n l → ReadsNext (reuse_next g l choices)
  reuse_reads g l [] w = tt
  reuse_reads g l (Reuses true ∷ more) w = (w, none)
  reuse_reads g l (Reuses false ∷ more) w = (w, none)
  reuse_reads g l (PassesOn side k ∷ more) w = tt
  reuse_reads g l (Fires side ∷ more) w = tt

  server_leaves : (b : Behind) (v : ServerSide) → FewOfServer n v → FewOfServer n (leaving b v)
  server_leaves b NoServer w = w
  server_leaves b Sought w = w
  server_leaves b (There s) w = w
  server_leaves b (Leaving d s) w = w
  server_leaves b (Retired s) w = w

  server_retires : (v : ServerSide) → FewOfServer n v → FewOfServer n (retired v)
  server_retires NoServer w = w
  server_retires Sought w = w
  server_retires (There s) w = w
  server_retires (Leaving d s) w = w
  server_retires (Retired s) w = w

  body_end_reads : (l : TraceState) (side : Side) (k : ℕ) (counted standing : Bool) → UnreadWithin n l → ReadsNext (body_end_next l side k counted standing)
  body_end_reads l side k true standing w = (reads side k l w, none)
  body_end_reads l side k false standing w = (reads side k l w, none)

  sending_reads : (g : Setup) (l : TraceState) (side : Side) (s : BodyState) (standing : Bool) (p : Part) → UnreadWithin n l → ReadsNext (sending_next g l side s standing p)
  sending_reads g l side s standing Byte w = (reads side 1 l w, none)
  sending_reads g l side s standing (Chunk k size) w = (reads side k l w, none)
  sending_reads g l side s standing (End k) w = body_end_reads l side k (is_counted s) standing w
  sending_reads g l side s standing Pending w = tt
  sending_reads g l side s standing (Bad f) w = fault_reads g l side f w

  gathering_reads : (g : Setup) (l : TraceState) (side : Side) (wanted : ℕ) (s : BodyState) (p : Part) → UnreadWithin n l → ReadsNext (gathering_next g l side wanted s p)
  gathering_reads g l side wanted s Byte w = (reads side 1 l w, none)
  gathering_reads g l side wanted s (Chunk k size) w = (reads side k l w, none)
  gathering_reads g l side wanted s (End k) w = (reads side k l w, none)
  gathering_reads g l side wanted s Pending w = tt
  gathering_reads g l side wanted s (Bad f) w = fault_reads g l side f w

  dropping_reads : (g : Setup) (l : TraceState) (s : BodyState) (p : Part) → UnreadWithin n l → ReadsNext (dropping_next g l s p)
  dropping_reads g l s Byte w = (reads Client 1 l w, none)
  dropping_reads g l s (Chunk k size) w = (reads Client k l w, none)
  dropping_reads g l s (End k) w = (reads Client k l w, none)
  dropping_reads g l s Pending w = tt
  dropping_reads g l s (Bad f) w = fault_reads g l Client f w

  phase_reads : (g : Setup) (p : Phase) (l : TraceState) → UnreadWithin n l → ReadsNext (phase_next g p l)
  phase_reads g (InEvent e bodies) l w = bodies_reads g e bodies l w
  phase_reads g AtHead l w = head_reads g l (head_part l.client.unread l.client.ended) w
  phase_reads g Continuing l w = (w, none)
  phase_reads g (Gathering side wanted s) l w = gathering_reads g l side wanted s (part_of s (stream_of side l).unread (stream_of side l).ended) w
  phase_reads g AtReuse l w = reuse_reads g l l.answers.choices w
  phase_reads g (GivingUp b) l w = (record { of_client = w.of_client; of_server = server_leaves b l.server w.of_server; of_made = w.of_made }, none)
  phase_reads g (Retiring b) l w = (record { of_client = w.of_client; of_server = server_retires l.server w.of_server; of_made = w.of_made }, none)
  phase_reads g (Heading side) l w = (w, none)
  phase_reads g (Forwarding side s standing) l w = sending_reads g l side s standing (part_of s (stream_of side l).unread (stream_of side l).ended) w
  phase_reads g (Dropping s) l w = dropping_reads g l s (part_of s l.client.unread l.client.ended) w
  phase_reads g AtResponse l w = answer_reads g l (head_part (stream_of Server l).unread (stream_of Server l).ended) w
  phase_reads g Choosing l w = choosing_reads g l (with_selected None l.host) l.host.net.target w
  phase_reads g (Selecting call) l w = selecting_reads g call l l.answers.replies w
  phase_reads g (Connecting a) l w = (record { of_client = w.of_client; of_server = tt; of_made = w.of_made }, none)
  phase_reads g (Answering a) l w = answering_reads g l l.answers.connects w
  phase_reads g Releasing l w = (w, none)
  phase_reads g Relaying l w = relay_reads g l (relay_act (incoming Client l) (incoming Server l) l.answers.choices) w
  phase_reads g Collecting l w = collecting_reads g l l.host.net.client.asks w
  phase_reads g (Finishing r) l w = (w, none)
  phase_reads g Draining l w = tt

  cut_reads : (g : Setup) (l : TraceState) (cut : Option Cut) (o : Next) → UnreadWithin n l → ReadsNext o → ReadsNext (cut_next g cut l o)
  cut_reads g l None o w is = is
  cut_reads g l (Some c) o w is = by_end l.finished
    where
      by_place : (o : Next) → ReadsNext o → ReadsNext (cut_open g c l o)
      by_place (Does i m) is = by_test (may_give i l.sent c.took || not (cut_takes g.http c.reason None))
        where
          by_test : (b : Bool) → ReadsNext (if b then Does i m else finish g (CutBy c.reason) (uncut l))
          by_test true = is
          by_test false = (w, none)
      by_place (Waits k) is = by_test (cut_takes g.http c.reason (Some k))
        where
          by_test : (b : Bool) → ReadsNext (if b then finish g (CutBy c.reason) (uncut l) else Waits k)
          by_test true = (w, none)
          by_test false = tt
      by_place Over is = tt

      by_end : (b : Bool) → ReadsNext (if b then o else cut_open g c l o)
      by_end true = is
      by_end false = by_place o is

  counted_reads : (sent : Counts) (o : Next) → ReadsNext o → ReadsNext (counted sent o)
  counted_reads sent (Does i m) is = is
  counted_reads sent (Waits k) is = tt
  counted_reads sent Over is = tt

  item_reads : (g : Setup) (l m : TraceState) (i : Item) → UnreadWithin n l → next_item g l ≡ Does i m → UnreadWithin n m × (passed_by i ≤ n)
  unfolding next_item
  item_reads g l m i w is = subst ReadsNext is (counted_reads l.sent _ (cut_reads g l l.answers.cut (phase_next g l.phase l) w (phase_reads g l.phase l w)))

pub unread_within : (g : Setup) (n : ℕ) (l m : TraceState) (items : List Item) → UnreadWithin n l → Unfolds g l items m → ReadsOnly n m items
unread_within g n l m [] w is = record { within = subst (UnreadWithin n) is w; passes = tt }
unread_within g n l m (i ∷ items) w (mid, step, rest) =
    let one = item_reads n g l mid i w step in
    let more = unread_within g n mid m items one.0 rest in
    record { within = more.within; passes = (one.1, more.passes) }
