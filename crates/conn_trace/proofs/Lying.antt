-- What lies unread of a side, and what of it a collect may hold, item by item.
use Rattle.std.proofs.Common.{◌≡◌, ◌⊎◌, inl, inr, refl, sym, ap, subst, ◌∙◌, ℕ, zero, suc, ◌+◌, ◌≤◌, List, [], ◌∷◌, length, take, drop, nat_le, nat_eq, Bool, true, false, ◌&&◌, ◌||◌, not, true≢false, if◌then◌else◌, Option, Some, None, Result, Ok, Err, arith}
use Rattle.std.specs.Prelude.{slice_get}
use Rattle.std.proofs.lemmas.List.{length-append, length-drop, length-take}
use Rattle.px_bytes.specs.declared.addr.Addr.{Addr}
use Rattle.px_bytes.specs.declared.addr.Side.{Side}
use Rattle.px_bytes.specs.declared.addr.Side.TheVariants.{Client, Server}
use Rattle.px_bytes.specs.declared.fault.FaultKind.{FaultKind}
use Rattle.px_bytes.specs.declared.fault.TclFault.{TclFault}
use Rattle.px_bytes.specs.declared.fault.HttpFault.{HttpFault}
use Rattle.px_bytes.specs.declared.fault.HttpFault.TheVariants as fault
use Rattle.px_bytes.specs.declared.fault.Reply.{Reply}
use Rattle.px_bytes.specs.declared.fault.Reply.TheVariants as reply
use Rattle.rule_model.specs.Host as effect
use Rattle.rule_model.specs.Outcome as act
use Rattle.rule_model.specs.Outcome.{Act, Did, Outcome, Ends, Waits as Stops, uncaught_of}
use Rattle.rule_model.specs.Laws.{state_after}
use Rattle.event_order.specs.declared.event.EventName.{EventName}
use Rattle.event_order.specs.declared.event.EventName.TheVariants.{ClientAccepted, ClientData, ClientClosed, ServerConnected, ServerData, ServerClosed, LbSelected, LbFailed, HttpRequest, HttpResponse}
use Rattle.irule_net.specs.State.{asked_bytes, collected, other, side_of}
use Rattle.irule_net.specs.Steps.{target_pool}
use Rattle.irule_net.specs.declared.state.Asks.{Asks}
use Rattle.irule_net.specs.declared.state.Asks.TheVariants.{NotAsked, Stated}
use Rattle.irule_net.specs.declared.state.Selected.{Selected}
use Rattle.irule_net.specs.declared.state.Target.{Target}
use Rattle.irule_net.specs.declared.state.Target.TheVariants.{Default, PoolOf, MemberOf, NodeAt}
use Rattle.http_heads.specs.declared.line.Version.{Version}
use Rattle.http_heads.specs.declared.line.Version.TheVariants.{Http10, Http11}
use Rattle.http_frames.specs.Parts.{Part, Byte, Chunk, End, Pending, Bad, part_of}
use Rattle.http_frames.specs.declared.state.BodyState.{BodyState}
use Rattle.http_frames.specs.declared.state.BodyState.TheVariants as body
use Rattle.irule_http.specs.Laws.{ResponseWithin}
use Rattle.irule_http.specs.Payload.{payload_limit}
use Rattle.irule_http.specs.declared.state.Http.{Http}
use Rattle.irule_http.specs.declared.state.Request.{Request}
use Rattle.irule_http.specs.declared.state.Response.{Response}
use Rattle.conn_trace.specs.Bodies.{act_item, run_body, ended_next, act_next, bodies_next}
use Rattle.conn_trace.specs.Bounds.{FewOfServer, FewOfMade, HeadsFit, passed_by, read_limit}
use Rattle.http_heads.specs.Fronts.{head_limit, head_part}
use Rattle.http_heads.specs.declared.front.HeadPart.{HeadPart}
use Rattle.http_heads.specs.declared.front.HeadPart.TheVariants.{HeadOf, StreamEnds, Faulty, NoHead}
use Rattle.conn_trace.specs.Fronts.{after_byte, is_at_end, one_less}
use Rattle.conn_trace.specs.Http.{with_gathered, with_whole}
use Rattle.conn_trace.specs.SentBodies.{chunk_line, is_answered, last_line}
use Rattle.conn_trace.specs.Gates.{Counts, no_bytes, TakenCounts, none_taken, may_give, to_take}
use Rattle.conn_trace.specs.Host.{HostState, first_host, http_of, with_loose, with_selected}
use Rattle.conn_trace.specs.Item.{Item, Choice, PassesOn, Fires, Reuses, Reason, Closed, CutBy, Http as HttpReason, Tcl}
use Rattle.conn_trace.specs.Phases.{Orderly, OrderlyIn, Fits}
use Rattle.conn_trace.specs.Routing.{next_request, behind_message, behind_asked}
use Rattle.conn_trace.specs.Places.{Place, place, at, begun, bodies_left, closed_client, closed_server, closed, after_body, after_event, after_fault, enter, entered, is_closing, is_up, next_body, unless_ended, goes_on, giving_up, gather_event}
use Rattle.conn_trace.specs.Queries.{in_event_of, unread_limit}
use Rattle.conn_trace.specs.Relay.{incoming, RelayAct, BothDone, Passing, Firing, Resting, fired_host, relay_act, collect_act, behind_fires}
use Rattle.conn_trace.specs.Selected.{addr_of}
use Rattle.conn_trace.specs.Setup.{Handler, Setup}
use Rattle.conn_trace.specs.State.{Bodies, Gated, Running, Failing, Phase, InEvent, AtHead, Continuing, Gathering, AtReuse, GivingUp, Retiring, Heading, Forwarding, Dropping, AtResponse, Behind, BeforeSelect, BehindMessage, Leaving, Left, leaving, retired, Choosing, Selecting, Connecting, Answering, Releasing, Relaying, Collecting, Finishing, Draining, Stream, ServerSide, NoServer, Sought, There, Retired, Link, Absent, Asked, Up, GivenUp, link_of, Cut, Answers, TraceState, Next, Does, Waits, Over, stream_of, server_stream, read_server, read_side}
use Rattle.conn_trace.specs.Messages.{reads_next, fault_by, fault_next, request_host, response_host, request_next, head_next, interim_next, status_next, response_next, answer_next, asked_version, is_interim, reuse_next, behind_head, heading_next, moves_next, body_end_next, is_counted, sending_next, gathered_on, byte_gathered, http_at, gathering_next, dropping_next}
use Rattle.conn_trace.specs.Places.{finish}
use Rattle.conn_trace.specs.Trace.{serving, choosing_next, default_next, selected_next, selecting_next, answering_next, relay_next, fired_next, collect_next, collecting_next, phase_next, cut_takes, uncut, cut_open, cut_next, counted, next_item, start}
use Rattle.conn_trace.proofs.BodyKeeps.{acts_bytes}
use Rattle.conn_trace.proofs.HostFits.{BodyFits, HostFits, begun_fits, body_fits, credit, fired_fits, first_fits, gather_fits, request_fits, response_fits, selected_fits, serving_fits, unloosed_fits, whole_fits}
use Rattle.conn_trace.proofs.HostKeeps.{flows, is_stream}
use Rattle.conn_trace.proofs.Parts.{ShortHead, head_short}
use Rattle.conn_trace.specs.Spoken.{Speaks, is_http_phase}
use Rattle.conn_trace.proofs.PendingFits.{ActAsks, less_one, relay_asks}
use Rattle.conn_trace.proofs.PlacesFit.{Gathers, Idle, Outside, PhaseFits, PlaceFits, asked_out, at_gate, body_fits as behind_fits, closed_fits, enter_begun, enter_fits, fault_fits, giving_up_fits, message_out, next_request_out, on_idle, outside}

-- ---- events of a side

abbrev own_event : Side → EventName → Bool
own_event Client ClientAccepted = true
own_event Client ClientData = true
own_event Server ServerConnected = true
own_event Server ServerData = true
own_event side e = false

in_own : (side : Side) (e : EventName) (bodies : Bodies) → in_event_of side (InEvent e bodies) ≡ own_event side e
in_own Client ClientAccepted bodies = refl
in_own Client ClientData bodies = refl
in_own Server ServerConnected bodies = refl
in_own Server ServerData bodies = refl
in_own Client e bodies = refl
in_own Server e bodies = refl

outside_in : (side : Side) (p : Phase) → Outside p → in_event_of side p ≡ false
outside_in side (InEvent e bodies) o = absurd o
outside_in Client p o = refl
outside_in Server p o = refl

-- but in its own events the collect of a side stays
not_own : (side : Side) (e : EventName) → own_event side e ≡ false → (is_stream e ≡ false) ⊎ (other (side_of e) ≡ side)
not_own Client ServerConnected h = inr refl
not_own Client ServerData h = inr refl
not_own Server ClientAccepted h = inr refl
not_own Server ClientData h = inr refl
not_own Client ClientAccepted h = absurd (true≢false h)
not_own Client ClientData h = absurd (true≢false h)
not_own Server ServerConnected h = absurd (true≢false h)
not_own Server ServerData h = absurd (true≢false h)
not_own Client e h = inl refl
not_own Server e h = inl refl

-- a server's events run where there is a server
server_up : (e : EventName) (link : Link) → own_event Server e ≡ true → Fits e link → is_up link ≡ true
server_up ServerConnected link own f = f
server_up ServerData link own f = f
server_up e link own f = absurd (true≢false (sym own))

begun_keeps : (e : EventName) (link : Link) (h : HostState) (side : Side) → collected side (begun e link h).net ≡ collected side h.net
begun_keeps e link h Client = refl
begun_keeps e link h Server = refl

-- ---- where it is led

abbrev pub EventIs : Phase → HostState → Type 0
EventIs (InEvent e bodies) h = h.event ≡ e
EventIs (Gathering side wanted s) h = (length (http_of h).payload + wanted ≤ payload_limit) × (1 ≤ wanted)
EventIs other h = Unit {0}

idle_is : (p : Phase) (h : HostState) → Idle p h → EventIs p h
idle_is (InEvent e bodies) h o = absurd o.0
idle_is (Gathering side wanted s) h o = o.1
idle_is p h o = tt

-- no collect changes there, and no bodies of a side run but of these sides
record Led (own : Side → Bool) (q : Place) (h : HostState) : Type 0 where
  keeps : (side : Side) → collected side q.host.net ≡ collected side h.net
  out : (side : Side) → own side ≡ false → in_event_of side q.phase ≡ false

abbrev none_own : Side → Bool
none_own side = false

led_out : (own : Side → Bool) (p : Phase) (h : HostState) → Outside p → Led own (place p h) h
led_out own p h o = record { keeps = λ side. refl; out = λ side e. outside_in side p o }

closing_out : (side : Side) → own_event side ClientClosed ≡ false
closing_out Client = refl
closing_out Server = refl

server_out : (side : Side) → own_event side ServerClosed ≡ false
server_out Client = refl
server_out Server = refl

closed_client_led : (own : Side → Bool) (g : Setup) (link : Link) (h : HostState) → Led own (closed_client g link h) h
closed_client_led own g link h = by_bodies (g.handlers ClientClosed)
  where
    by_bodies : (bs : List Handler) → Led own (bodies_left ClientClosed bs (begun ClientClosed link h) (place Draining (begun ClientClosed link h))) h
    by_bodies [] = record { keeps = begun_keeps ClientClosed link h; out = λ side e. outside_in side Draining tt }
    by_bodies (b ∷ bs) = record { keeps = begun_keeps ClientClosed link h; out = λ side e. in_own side ClientClosed (Running b bs 0) ∙ closing_out side }

closed_server_led : (own : Side → Bool) (g : Setup) (link : Link) (h : HostState) → Led own (closed_server g link h) h
closed_server_led own g link h = by_bodies (g.handlers ServerClosed)
  where
    by_bodies : (bs : List Handler) → Led own (bodies_left ServerClosed bs (begun ServerClosed link h) (closed_client g link h)) h
    by_bodies [] = closed_client_led own g link h
    by_bodies (b ∷ bs) = record { keeps = begun_keeps ServerClosed link h; out = λ side e. in_own side ServerClosed (Running b bs 0) ∙ server_out side }

closed_led : (own : Side → Bool) (g : Setup) (link : Link) (h : HostState) → Led own (closed g link h) h
closed_led own g Absent h = closed_client_led own g Absent h
closed_led own g Asked h = closed_server_led own g Asked h
closed_led own g Up h = closed_server_led own g Up h
closed_led own g (Left b) h = closed_client_led own g (Left b) h
closed_led own g GivenUp h = closed_client_led own g GivenUp h

giving_up_led : (own : Side → Bool) (g : Setup) (b : Behind) (h : HostState) → Led own (giving_up g b h) h
giving_up_led own g b h = by_bodies (g.handlers ServerClosed)
  where
    by_bodies : (bs : List Handler) → Led own (bodies_left ServerClosed bs (begun ServerClosed (Left b) h) (place (Retiring b) (begun ServerClosed (Left b) h))) h
    by_bodies [] = record { keeps = begun_keeps ServerClosed (Left b) h; out = λ side e. outside_in side (Retiring b) tt }
    by_bodies (body ∷ bs) = record { keeps = begun_keeps ServerClosed (Left b) h; out = λ side e. in_own side ServerClosed (Running body bs 0) ∙ server_out side }

-- what is known of messages fits
abbrev FewKnown : HostState → Type 0
FewKnown h = length (http_of h).payload ≤ payload_limit

after_led : (own : Side → Bool) (g : Setup) (e : EventName) (finished : Bool) (link : Link) (h : HostState) → FewKnown h → Led own (after_event g e finished link h) h
after_led own g ServerClosed true link h few = closed_client_led own g link h
after_led own g ServerClosed false Absent h few = led_out own Choosing h tt
after_led own g ServerClosed false Asked h few = led_out own Choosing h tt
after_led own g ServerClosed false Up h few = led_out own Choosing h tt
after_led own g ServerClosed false (Left b) h few = led_out own (Retiring b) h tt
after_led own g ServerClosed false GivenUp h few = led_out own Choosing h tt
after_led own g ClientClosed finished link h few = led_out own Draining h tt
after_led own g e finished link h few = led_out own (unless_ended h.net.wishes.ends (goes_on e link h)) h (on_idle e link h few).0

enter_led : (g : Setup) (e : EventName) (link : Link) (h : HostState) → FewKnown (begun e link h) → Led (λ side. own_event side e) (enter g e link h) h
enter_led g e link h few = by_bodies (g.handlers e)
  where
    by_bodies : (bs : List Handler) → Led (λ side. own_event side e) (entered g e link bs (begun e link h)) h
    by_bodies [] =
        let k = after_led (λ side. own_event side e) g e false link (begun e link h) few in
        record { keeps = λ side. k.keeps side ∙ begun_keeps e link h side; out = k.out }
    by_bodies (b ∷ bs) = record { keeps = begun_keeps e link h; out = λ side o. in_own side e (Gated b bs) ∙ o }

next_led : (g : Setup) (e : EventName) (finished : Bool) (link : Link) (bs : List Handler) (h : HostState) → FewKnown h → Led (λ side. own_event side e) (next_body g e finished link bs h) h
next_led g e finished link [] h few = after_led (λ side. own_event side e) g e finished link h few
next_led g e finished link (b ∷ bs) h few = record { keeps = λ side. refl; out = λ side o. in_own side e (Running b bs 0) ∙ o }

fault_led : (g : Setup) (e : EventName) (finished : Bool) (link : Link) (kind : FaultKind) (bs : List Handler) (h : HostState) → FewKnown h → Led (λ side. own_event side e) (after_fault g e finished link kind bs h) h
fault_led g e finished link kind bs h few = by_closing (is_closing e)
  where
    by_closing : (b : Bool) → Led (λ side. own_event side e) (if b then next_body g e finished link bs h else place (Finishing (Tcl kind)) h) h
    by_closing true = next_led g e finished link bs h few
    by_closing false = led_out (λ side. own_event side e) _ h tt

body_led : (g : Setup) (e : EventName) (finished : Bool) (link : Link) (b : Handler) (bs : List Handler) (fault : Option TclFault) (h : HostState) → FewKnown h → Led (λ side. own_event side e) (after_body g e finished link b bs fault h) h
body_led g e finished link b bs None h few = next_led g e finished link bs h few
body_led g e finished link b bs (Some fault) h few = record { keeps = λ side. refl; out = λ side o. in_own side e _ ∙ o }

-- ---- what lies unread

-- how much of a side a collect in force may hold
abbrev pub allowed : Side → TraceState → ℕ
allowed side l = if in_event_of side l.phase then 0 else asked_bytes (collected side l.host.net).asks

-- No more lies unread than the limit and what a collect in force asks for; of a server that isn't there yet
-- nothing is collected.
pub record Lies (l : TraceState) : Type 0 where
  pub event : EventIs l.phase l.host
  pub host : HostFits l.host
  pub of_client : length l.client.unread ≤ unread_limit + allowed Client l
  pub of_server : FewOfServer (unread_limit + allowed Server l) l.server
  pub of_made : FewOfMade unread_limit l.answers.connects
  pub calm : is_up (link_of l.server) ≡ false → (collected Server l.host.net).asks ≡ NotAsked

few_server : (n k : ℕ) (v : ServerSide) → n ≤ k → FewOfServer n v → FewOfServer k v
few_server n k NoServer le w = tt
few_server n k Sought le w = tt
few_server n k (There s) le w = omega (arith, le, w)
few_server n k (Leaving b s) le w = omega (arith, le, w)
few_server n k (Retired s) le w = omega (arith, le, w)

-- what a side may hold doesn't shrink: its bodies ran, or none of its bodies run and its collect is the same
abbrev Holds : TraceState → TraceState → Side → Type 0
Holds l m side = (in_event_of side l.phase ≡ true) ⊎ ((in_event_of side m.phase ≡ false) × (collected side m.host.net ≡ collected side l.host.net))

allowed_less : (l m : TraceState) (side : Side) → Holds l m side → allowed side l ≤ allowed side m
allowed_less l m side (inl e) = let none : allowed side l ≡ 0 = ap (λ b. if b then 0 else asked_bytes (collected side l.host.net).asks) e in omega (arith, none)
allowed_less l m side (inr (e, same)) =
    let now : allowed side m ≡ asked_bytes (collected side m.host.net).asks = ap (λ b. if b then 0 else asked_bytes (collected side m.host.net).asks) e in
    let asks = ap (λ c. asked_bytes c.asks) same in
    let before = by_event (in_event_of side l.phase) in
    omega (arith, now, asks, before)
  where
    by_event : (b : Bool) → (if b then 0 else asked_bytes (collected side l.host.net).asks) ≤ asked_bytes (collected side l.host.net).asks
    by_event true = omega arith
    by_event false = omega arith

lies_on : (l m : TraceState) → Lies l → EventIs m.phase m.host → HostFits m.host → m.client ≡ l.client → m.server ≡ l.server → m.answers.connects ≡ l.answers.connects → ((side : Side) → allowed side l ≤ allowed side m)
    → (is_up (link_of l.server) ≡ false → (collected Server m.host.net).asks ≡ NotAsked) → Lies m
lies_on l m k event host client server connects allow calm = record {
  event = event;
  host = host;
  of_client = (let e = ap (λ (s : Stream). length s.unread) client in let a = allow Client in let w = k.of_client in omega (arith, e, a, w));
  of_server = subst (FewOfServer (unread_limit + allowed Server m)) (sym server) (few_server (unread_limit + allowed Server l) (unread_limit + allowed Server m) l.server (let a = allow Server in omega (arith, a)) k.of_server);
  of_made = subst (FewOfMade unread_limit) (sym connects) k.of_made;
  calm = λ e. calm (ap (λ v. is_up (link_of v)) (sym server) ∙ e);
}

-- ---- what comes next

-- before it: a server's events run where there is one, and of one that is given up nothing is collected
pub record Before (l : TraceState) : Type 0 where
  pub orderly : Orderly l
  pub spoken : Bool
  pub speaks : Speaks spoken l

module _ (g : Setup) (heads : HeadsFit g) where
  abbrev LiesNext : Next → Type 0
  LiesNext (Does i m) = Lies m × (passed_by i ≤ unread_limit)
  LiesNext (Waits w) = Unit {0}
  LiesNext Over = Unit {0}

  none : 0 ≤ unread_limit
  none = omega arith

  -- on a phase outside of bodies, with the same collects
  out_phase : (l : TraceState) (p : Phase) → Lies l → Outside p → EventIs p l.host → Lies (record l { phase = p })
  out_phase l p k o e = lies_on l (record l { phase = p }) k e k.host refl refl refl (λ side. allowed_less l (record l { phase = p }) side (inr (outside_in side p o, refl))) k.calm

  -- where a place leads whose own sides ran before
  led_lies : (own : Side → Bool) (q : Place) (l m : TraceState) → Lies l → m.phase ≡ q.phase → m.host ≡ q.host → m.client ≡ l.client → m.server ≡ l.server → m.answers.connects ≡ l.answers.connects
      → EventIs q.phase q.host → HostFits q.host → (h : HostState) → Led own q h
      → ((side : Side) → (in_event_of side l.phase ≡ true) ⊎ ((own side ≡ false) × (collected side h.net ≡ collected side l.host.net)))
      → (is_up (link_of l.server) ≡ false → (collected Server h.net).asks ≡ NotAsked) → Lies m
  led_lies own q l m k phase host client server connects event fits h led holds calm =
      lies_on l m k (subst (λ p. EventIs p m.host) (sym phase) (subst (EventIs q.phase) (sym host) event)) (subst HostFits (sym host) fits) client server connects
      (λ side. allowed_less l m side (held side (holds side)))
      (λ e. ap (λ x. (collected Server x.net).asks) host ∙ ap (λ c. c.asks) (led.keeps Server) ∙ calm e)
    where
      held : (side : Side) → (in_event_of side l.phase ≡ true) ⊎ ((own side ≡ false) × (collected side h.net ≡ collected side l.host.net)) → Holds l m side
      held side (inl e) = inl e
      held side (inr (o, same)) = inr (ap (in_event_of side) phase ∙ led.out side o, ap (λ x. collected side x.net) host ∙ led.keeps side ∙ same)

  event_of : (took : TakenCounts) (sent : Counts) (p : Phase) (h : HostState) → PhaseFits took sent p h → EventIs p h
  event_of took sent (InEvent e (Gated b bs)) h f = f
  event_of took sent (InEvent e (Running b bs n)) h f = f.0
  event_of took sent (InEvent e (Failing kind line bs)) h f = f
  event_of took sent (Gathering side wanted s) h f = f
  event_of took sent p h f = tt

  finish_lies : (r : Reason) (l : TraceState) → Lies l → LiesNext (finish g r l)
  finish_lies r l k =
      let p = closed_fits none_taken no_bytes g (link_of l.server) l.host k.host in
      (led_lies none_own (closed g (link_of l.server) l.host) l _ k refl refl refl refl refl (event_of none_taken no_bytes _ _ p.phase) p.host l.host (closed_led none_own g (link_of l.server) l.host) (λ side. inr (refl, refl)) k.calm, none)

  act_passes : (number : ℕ) (a : Act) → passed_by (act_item number a) ≤ unread_limit
  act_passes number (Did (effect.Logged text)) = none
  act_passes number (Did (effect.Sent side bytes)) = none
  act_passes number (act.Called path call) = none

  -- in the bodies of the same event
  same_event : (l : TraceState) (e : EventName) (before after : Bodies) → l.phase ≡ InEvent e before → Lies l → l.host.event ≡ e → Lies (record l { phase = InEvent e after })
  same_event l e before after at k is = lies_on l (record l { phase = InEvent e after }) k is k.host refl refl refl still k.calm
    where
      still : (side : Side) → allowed side l ≤ allowed side (record l { phase = InEvent e after })
      still side =
          let same : in_event_of side l.phase ≡ in_event_of side (InEvent e after) = ap (in_event_of side) at ∙ in_own side e before ∙ sym (in_own side e after) in
          let e' = ap (λ b. if b then 0 else asked_bytes (collected side l.host.net).asks) same in
          omega (arith, e')

  -- behind a body of this event, on what it leaves of the host's state
  body_leaves : (l : TraceState) (e : EventName) (bodies : Bodies) (h : HostState) (sent : Side → ℕ) → l.phase ≡ InEvent e bodies → l.host.event ≡ e → BodyFits l.host h sent → (side : Side)
      → (in_event_of side l.phase ≡ true) ⊎ ((own_event side e ≡ false) × (collected side h.net ≡ collected side l.host.net))
  body_leaves l e bodies h sent at is k side = by_own (own_event side e) refl
    where
      by_own : (b : Bool) → own_event side e ≡ b → (in_event_of side l.phase ≡ true) ⊎ ((own_event side e ≡ false) × (collected side h.net ≡ collected side l.host.net))
      by_own true o = inl (ap (in_event_of side) at ∙ in_own side e bodies ∙ o)
      by_own false o = inr (o, by_event (not_own side e o))
        where
          by_event : (is_stream e ≡ false) ⊎ (other (side_of e) ≡ side) → collected side h.net ≡ collected side l.host.net
          by_event (inl quiet) = k.collects (ap (λ v. is_stream v && not l.host.net.http) is ∙ ap (λ b. b && not l.host.net.http) quiet) side
          by_event (inr apart) = subst (λ s. collected s h.net ≡ collected s l.host.net) (ap (λ v. other (side_of v)) is ∙ apart) k.others

  body_calm : (l : TraceState) (e : EventName) (bodies : Bodies) (h : HostState) (sent : Side → ℕ) → l.phase ≡ InEvent e bodies → l.host.event ≡ e → BodyFits l.host h sent → Lies l → Fits e (link_of l.server)
      → is_up (link_of l.server) ≡ false → (collected Server h.net).asks ≡ NotAsked
  body_calm l e bodies h sent at is k w fits down = by_holds (own_event Server e) refl (body_leaves l e bodies h sent at is k Server)
    where
      by_holds : (b : Bool) → own_event Server e ≡ b → (in_event_of Server l.phase ≡ true) ⊎ ((own_event Server e ≡ false) × (collected Server h.net ≡ collected Server l.host.net)) → (collected Server h.net).asks ≡ NotAsked
      by_holds true o x = absurd (true≢false (sym (server_up e (link_of l.server) o fits) ∙ down))
      by_holds false o (inl i) = absurd (true≢false (sym i ∙ ap (in_event_of Server) at ∙ in_own Server e bodies ∙ o))
      by_holds false o (inr (q, same)) = ap (λ c. c.asks) same ∙ w.calm down

  ended_lies : (e : EventName) (b : Handler) (bs : List Handler) (n : ℕ) (l : TraceState) (o : Outcome HostState) → Lies l → l.phase ≡ InEvent e (Running b bs n) → l.host.event ≡ e → Fits e (link_of l.server)
      → BodyFits l.host (state_after o).host (λ side. acts_bytes side (state_after o).acts) → LiesNext (ended_next g e b bs l o)
  ended_lies e b bs n l (Stops path call st) k at is fits facts = tt
  ended_lies e b bs n l (Ends code st) k at is fits facts =
      let q = after_body g e l.finished (link_of l.server) b bs (uncaught_of code) st.host in
      let p = behind_fits none_taken no_bytes g e l.finished (link_of l.server) b bs (uncaught_of code) st.host facts.fits (facts.event ∙ is) (λ open_event side. nothing side (st.host)) in (
        led_lies (λ side. own_event side e) q l _ k refl refl refl refl refl (event_of none_taken no_bytes _ _ p.phase) p.host st.host (body_led g e l.finished (link_of l.server) b bs (uncaught_of code) st.host facts.fits.payload)
            (body_leaves l e (Running b bs n) st.host _ at is facts) (body_calm l e (Running b bs n) st.host _ at is facts k fits),
        none,
      )
    where
      nothing : (side : Side) (h : HostState) → to_take no_bytes none_taken side ≤ at_gate + credit e side h
      nothing Client h = omega arith
      nothing Server h = omega arith

  running_lies : (e : EventName) (b : Handler) (bs : List Handler) (n : ℕ) (l : TraceState) (v : Option Act) → Lies l → l.phase ≡ InEvent e (Running b bs n) → l.host.event ≡ e → Fits e (link_of l.server)
      → LiesNext (act_next e b bs n l v (ended_next g e b bs l (run_body g b l)))
  running_lies e b bs n l None k at is fits = ended_lies e b bs n l (run_body g b l) k at is fits (body_fits g b l k.host)
  running_lies e b bs n l (Some a) k at is fits = (same_event l e (Running b bs n) (Running b bs (n + 1)) at k is, act_passes l.sent.number a)

  failing_holds : (l : TraceState) (e : EventName) (bodies : Bodies) → l.phase ≡ InEvent e bodies → (side : Side) → (in_event_of side l.phase ≡ true) ⊎ ((own_event side e ≡ false) × (collected side l.host.net ≡ collected side l.host.net))
  failing_holds l e bodies at side = by_own (own_event side e) refl
    where
      by_own : (b : Bool) → own_event side e ≡ b → (in_event_of side l.phase ≡ true) ⊎ ((own_event side e ≡ false) × (collected side l.host.net ≡ collected side l.host.net))
      by_own true o = inl (ap (in_event_of side) at ∙ in_own side e bodies ∙ o)
      by_own false o = inr (o, refl)

  bodies_lie : (e : EventName) (bodies : Bodies) (l : TraceState) → Lies l → l.phase ≡ InEvent e bodies → l.host.event ≡ e → OrderlyIn (InEvent e bodies) l.finished (link_of l.server) → LiesNext (bodies_next g e bodies l)
  bodies_lie e (Gated b bs) l k at is o = (same_event l e (Gated b bs) (Running b bs 0) at k is, none)
  bodies_lie e (Running b bs n) l k at is o = running_lies e b bs n l (slice_get (state_after (run_body g b l)).acts n) k at is o.1.0
  bodies_lie e (Failing kind line bs) l k at is o =
      let p = fault_fits none_taken no_bytes g e l.finished (link_of l.server) kind bs l.host k.host is in (
        led_lies (λ side. own_event side e) (after_fault g e l.finished (link_of l.server) kind bs l.host) l _ k refl refl refl refl refl (event_of none_taken no_bytes _ _ p.phase) p.host l.host (fault_led g e l.finished (link_of l.server) kind bs l.host k.host.payload)
            (failing_holds l e (Failing kind line bs) at) k.calm,
        none,
      )

  -- an event of no side is entered
  enters : (e : EventName) (h : HostState) (l m : TraceState) → Lies l → m.phase ≡ (enter g e (link_of l.server) h).phase → m.host ≡ (enter g e (link_of l.server) h).host → m.client ≡ l.client → m.server ≡ l.server → m.answers.connects ≡ l.answers.connects
      → HostFits h → ((side : Side) → own_event side e ≡ false) → ((side : Side) → collected side h.net ≡ collected side l.host.net) → Lies m
  enters e h l m k phase host client server connects fits own same =
      let p = enter_fits none_taken no_bytes g e (link_of l.server) h fits in
      led_lies (λ side. own_event side e) (enter g e (link_of l.server) h) l m k phase host client server connects (event_of none_taken no_bytes _ _ p.phase) p.host h (enter_led g e (link_of l.server) h (begun_fits e (link_of l.server) h fits).payload) (λ side. inr (own side, same side)) (λ e. ap (λ c. c.asks) (same Server) ∙ k.calm e)

  failed_own : (side : Side) → own_event side LbFailed ≡ false
  failed_own Client = refl
  failed_own Server = refl

  selected_own : (side : Side) → own_event side LbSelected ≡ false
  selected_own Client = refl
  selected_own Server = refl

  select_keeps : (s : Option Selected) (h : HostState) (side : Side) → collected side (with_selected s h).net ≡ collected side h.net
  select_keeps s h Client = refl
  select_keeps s h Server = refl

  -- a phase outside of bodies, on a host's state with the same collects
  asks_on : (l : TraceState) (p : Phase) (h : HostState) → Lies l → Outside p → EventIs p h → HostFits h → ((side : Side) → collected side h.net ≡ collected side l.host.net) → Lies (record l { phase = p; host = h })
  asks_on l p h k o e fits same =
      lies_on l (record l { phase = p; host = h }) k e fits refl refl refl (λ side. allowed_less l (record l { phase = p; host = h }) side (inr (outside_in side p o, same side))) (λ d. ap (λ c. c.asks) (same Server) ∙ k.calm d)

  choosing_lies : (l : TraceState) (h : HostState) (target : Target) → Lies l → HostFits h → ((side : Side) → collected side h.net ≡ collected side l.host.net) → LiesNext (choosing_next g l h target)
  choosing_lies l h Default k u same = by_pool h.net.pool
    where
      by_pool : (pool : List ℕ) → LiesNext (default_next g l h pool)
      by_pool [] = (enters LbFailed h l _ k refl refl refl refl refl u failed_own same, none)
      by_pool (b ∷ bs) = (asks_on l _ h k tt tt u same, none)
  choosing_lies l h (PoolOf pool) k u same = (asks_on l _ h k tt tt u same, none)
  choosing_lies l h (MemberOf pool a) k u same = (asks_on l _ h k tt tt u same, none)
  choosing_lies l h (NodeAt a) k u same =
      let s = Some (record { pool = []; addr = a }) in
      (enters LbSelected (with_selected s h) l _ k refl refl refl refl refl (selected_fits s h u) selected_own (λ side. select_keeps s h side ∙ same side), none)

  selected_lies : (l : TraceState) (more : List Reply) (a : Option Addr) → Lies l → LiesNext (selected_next g l more a)
  selected_lies l more None k = (enters LbFailed l.host l _ k refl refl refl refl refl k.host failed_own (λ side. refl), none)
  selected_lies l more (Some a) k =
      let s = Some (record { pool = target_pool l.host.net.pool l.host.net.target; addr = a }) in
      (enters LbSelected (with_selected s l.host) l _ k refl refl refl refl refl (selected_fits s l.host k.host) selected_own (select_keeps s l.host), none)

  selecting_lies : (call : List (List ℕ)) (l : TraceState) (replies : List Reply) → Lies l → LiesNext (selecting_next g call l replies)
  selecting_lies call l [] k = tt
  selecting_lies call l (reply.Ok v ∷ more) k = selected_lies l more (addr_of v) k
  selecting_lies call l (reply.Fault f ∷ more) k = selected_lies l more None k

  -- ---- a server's answer

  answering_lies : (a : Addr) (l : TraceState) (connects : List (Option Stream)) → Lies l → l.phase ≡ Answering a → is_up (link_of l.server) ≡ false → FewOfMade unread_limit connects → LiesNext (answering_next g l connects)
  answering_lies a l [] k was down made = tt
  answering_lies a l (None ∷ more) k was down made =
      let l' = record l { server = NoServer; answers = record l.answers { connects = more } } in
      let k' : Lies l' = record { event = k.event; host = k.host; of_client = k.of_client; of_server = tt; of_made = made; calm = λ e. k.calm down } in
      let p = enter_fits none_taken no_bytes g LbFailed Absent l.host k.host in
      (led_lies (λ side. own_event side LbFailed) (enter g LbFailed Absent l.host) l' _ k' refl refl refl refl refl (event_of none_taken no_bytes _ _ p.phase) p.host l.host (enter_led g LbFailed Absent l.host (begun_fits LbFailed Absent l.host k.host).payload) (λ side. inr (failed_own side, refl)) (λ e. k.calm down), none)
  answering_lies a l (Some s ∷ more) k was down made =
      let h = serving l.host in
      let q = enter g ServerConnected Up h in
      let p = enter_fits none_taken no_bytes g ServerConnected Up h (serving_fits l.host k.host) in
      let led = enter_led g ServerConnected Up h (begun_fits ServerConnected Up h (serving_fits l.host k.host)).payload in
      let m = at q (record l { server = There s; answers = record l.answers { connects = more } }) in
      let client = allowed_less l m Client (inr (led.out Client refl, led.keeps Client)) in (
        record {
          event = event_of none_taken no_bytes _ _ p.phase;
          host = p.host;
          of_client = (let w = k.of_client in omega (arith, client, w));
          of_server = (let w = made.0 in omega (arith, w));
          of_made = made.1;
          calm = λ e. absurd (true≢false e);
        },
        none,
      )

  -- ---- what is read

  less_server : (n : ℕ) (j : ℕ) (v : ServerSide) → FewOfServer n v → FewOfServer n (read_server j v)
  less_server n j NoServer w = tt
  less_server n j Sought w = tt
  less_server n j (There s) w = let e = length-drop j s.unread in omega (arith, e, w)
  less_server n j (Leaving b s) w = w
  less_server n j (Retired s) w = w

  read_link : (j : ℕ) (v : ServerSide) → is_up (link_of (read_server j v)) ≡ is_up (link_of v)
  read_link j NoServer = refl
  read_link j Sought = refl
  read_link j (There s) = refl
  read_link j (Leaving b s) = refl
  read_link j (Retired s) = refl

  reads : (side : Side) (j : ℕ) (l : TraceState) (p : Phase) → Lies l → Outside p → EventIs p l.host → Lies (record (read_side side j l) { phase = p })
  reads Client j l p k o e =
      let m = record (read_side Client j l) { phase = p } in
      let a = allowed_less l m Client (inr (outside_in Client p o, refl)) in
      let b = allowed_less l m Server (inr (outside_in Server p o, refl)) in
      record {
        event = e;
        host = k.host;
        of_client = (let d = length-drop j l.client.unread in let w = k.of_client in omega (arith, a, d, w));
        of_server = few_server (unread_limit + allowed Server l) (unread_limit + allowed Server m) l.server (omega (arith, b)) k.of_server;
        of_made = k.of_made;
        calm = k.calm;
      }
  reads Server j l p k o e =
      let m = record (read_side Server j l) { phase = p } in
      let a = allowed_less l m Client (inr (outside_in Client p o, refl)) in
      let b = allowed_less l m Server (inr (outside_in Server p o, refl)) in
      record {
        event = e;
        host = k.host;
        of_client = (let w = k.of_client in omega (arith, a, w));
        of_server = less_server (unread_limit + allowed Server m) j l.server (few_server (unread_limit + allowed Server l) (unread_limit + allowed Server m) l.server (omega (arith, b)) k.of_server);
        of_made = k.of_made;
        calm = λ d. k.calm (sym (read_link j l.server) ∙ d);
      }

  -- of a side none of whose bodies run so much lies unread
  server_lies : (n : ℕ) (v : ServerSide) → FewOfServer n v → length (server_stream v).unread ≤ n
  server_lies n NoServer w = omega arith
  server_lies n Sought w = omega arith
  server_lies n (There s) w = w
  server_lies n (Leaving b s) w = omega arith
  server_lies n (Retired s) w = omega arith

  unread_of : (side : Side) (l : TraceState) → Lies l → length (stream_of side l).unread ≤ unread_limit + allowed side l
  unread_of Client l k = k.of_client
  unread_of Server l k = server_lies (unread_limit + allowed Server l) l.server k.of_server

  allowed_by : (side : Side) (l : TraceState) (asks : Asks) → (collected side l.host.net).asks ≡ asks → allowed side l ≤ asked_bytes asks
  allowed_by side l asks is = by_event (in_event_of side l.phase)
    where
      by_event : (b : Bool) → (if b then 0 else asked_bytes (collected side l.host.net).asks) ≤ asked_bytes asks
      by_event true = omega arith
      by_event false = let e = ap asked_bytes is in omega (arith, e)

  few_taken : (side : Side) (n : ℕ) (l : TraceState) → Lies l → (collected side l.host.net).asks ≡ NotAsked → length (take n (stream_of side l).unread) ≤ unread_limit
  few_taken side n l k asks =
      let w = unread_of side l k in
      let a = allowed_by side l NotAsked asks in
      let t = length-take n (stream_of side l).unread in omega (arith, w, a, t)

  -- ---- a collect that fires

  fired_lies : (l : TraceState) (side : Side) (n : ℕ) (more : List Choice) → Lies l → (side ≡ Server → is_up (link_of l.server) ≡ true) → (collected side l.host.net).asks ≡ Stated n → LiesNext (fired_next g l side n more)
  fired_lies l Client n more k up asks =
      let bytes = take n l.client.unread in
      let few = length-take n l.client.unread in
      let h = fired_host Client bytes l.host in
      let link = link_of l.server in
      let p = enter_begun none_taken no_bytes g ClientData link h (fired_fits Client n bytes ClientData link l.host k.host asks (omega (arith, few))) in
      let led = enter_led g ClientData link h (fired_fits Client n bytes ClientData link l.host k.host asks (omega (arith, few))).payload in
      let m = at (enter g ClientData link h) (record l { client = record l.client { unread = drop n l.client.unread } }) in
      let b = allowed_less l m Server (inr (led.out Server refl, led.keeps Server)) in (
        record {
          event = event_of none_taken no_bytes _ _ p.phase;
          host = p.host;
          of_client = (let d = length-drop n l.client.unread in let w = k.of_client in let a = allowed_by Client l (Stated n) asks in omega (arith, d, w, a));
          of_server = few_server (unread_limit + allowed Server l) (unread_limit + allowed Server m) l.server (omega (arith, b)) k.of_server;
          of_made = k.of_made;
          calm = λ d. ap (λ c. c.asks) (led.keeps Server) ∙ k.calm d;
        },
        none,
      )
  fired_lies l Server n more k up asks =
      let bytes = take n (stream_of Server l).unread in
      let few = length-take n (stream_of Server l).unread in
      let h = fired_host Server bytes l.host in
      let link = link_of l.server in
      let p = enter_begun none_taken no_bytes g ServerData link h (fired_fits Server n bytes ServerData link l.host k.host asks (omega (arith, few))) in
      let led = enter_led g ServerData link h (fired_fits Server n bytes ServerData link l.host k.host asks (omega (arith, few))).payload in
      let m = at (enter g ServerData link h) (record l { server = read_server n l.server }) in
      let a = allowed_less l m Client (inr (led.out Client refl, led.keeps Client)) in (
        record {
          event = event_of none_taken no_bytes _ _ p.phase;
          host = p.host;
          of_client = (let w = k.of_client in omega (arith, a, w));
          of_server = fired_server (unread_limit + allowed Server m) l.server (up refl) (omega arith) (let w = k.of_server in few_server (unread_limit + allowed Server l) (unread_limit + n) l.server (let b = allowed_by Server l (Stated n) asks in omega (arith, b)) w);
          of_made = k.of_made;
          calm = λ d. ap (λ c. c.asks) (led.keeps Server);
        },
        none,
      )
    where
      fired_server : (k : ℕ) (v : ServerSide) → is_up (link_of v) ≡ true → unread_limit ≤ k → FewOfServer (unread_limit + n) v → FewOfServer k (read_server n v)
      fired_server k NoServer is le w = tt
      fired_server k Sought is le w = tt
      fired_server k (There s) is le w = let e = length-drop n s.unread in omega (arith, e, w, le)
      fired_server k (Leaving b s) is le w = absurd (true≢false (sym is))
      fired_server k (Retired s) is le w = absurd (true≢false (sym is))

  -- choices change no stream
  chosen : (l : TraceState) (more : List Choice) → Lies l → Lies (record l { answers = record l.answers { choices = more } })
  chosen l more k = record { event = k.event; host = k.host; of_client = k.of_client; of_server = k.of_server; of_made = k.of_made; calm = k.calm }

  relay_lies : (l : TraceState) (a : RelayAct) → Lies l → is_up (link_of l.server) ≡ true → ActAsks l a → LiesNext (relay_next g l a)
  relay_lies l BothDone k up asks = finish_lies Closed l k
  relay_lies l (Passing Client n more) k up asks = (chosen _ more (reads Client n l Relaying k tt tt), few_taken Client n l k asks)
  relay_lies l (Passing Server n more) k up asks = (chosen _ more (reads Server n l Relaying k tt tt), few_taken Server n l k asks)
  relay_lies l (Firing side n more) k up asks = fired_lies l side n more k (λ e. up) asks
  relay_lies l Resting k up asks = tt

  collecting_lies : (l : TraceState) (asks : Asks) → l.host.net.client.asks ≡ asks → Lies l → LiesNext (collecting_next g l asks)
  collecting_lies l NotAsked is k = tt
  collecting_lies l (Stated n) is k = by_choice (behind_fires l.answers.choices)
    where
      by_choice : (o : Option (List Choice)) → LiesNext (collect_next g l (collect_act n l.client.unread o))
      by_choice None = tt
      by_choice (Some more) = by_test (nat_le n (length l.client.unread))
        where
          by_test : (b : Bool) → LiesNext (collect_next g l (if b then Firing Client n more else Resting))
          by_test true = fired_lies l Client n more k (λ e. absurd (cc)) is
          by_test false = tt

  -- ---- HTTP

  -- in a phase outside of bodies
  idle : (l : TraceState) (p : Phase) → Lies l → Idle p l.host → Lies (record l { phase = p })
  idle l p k o = out_phase l p k o.0 (idle_is p l.host o)

  -- bytes of a side are read, and it is led to a place on a host's state with the same collects
  reads_lie : (own : Side → Bool) (l : TraceState) (side : Side) (j : ℕ) (q : Place) (h : HostState) → Lies l → Outside l.phase → EventIs q.phase q.host → HostFits q.host → Led own q h → ((s : Side) → own s ≡ false)
      → ((s : Side) → collected s h.net ≡ collected s l.host.net) → LiesNext (reads_next l side j q)
  reads_lie own l Client j q h k o event fits led none_of same =
      let mid = record (read_side Client j l) { phase = l.phase } in
      let kmid = reads Client j l l.phase k o k.event in
      (led_lies own q mid (at q mid) kmid refl refl refl refl refl event fits h led (λ s. inr (none_of s, same s)) (λ e. ap (λ c. c.asks) (same Server) ∙ kmid.calm e), none)
  reads_lie own l Server j q h k o event fits led none_of same =
      let mid = record (read_side Server j l) { phase = l.phase } in
      let kmid = reads Server j l l.phase k o k.event in
      (led_lies own q mid (at q mid) kmid refl refl refl refl refl event fits h led (λ s. inr (none_of s, same s)) (λ e. ap (λ c. c.asks) (same Server) ∙ kmid.calm e), none)

  -- to a phase on the same host's state
  reads_idle : (l : TraceState) (side : Side) (j : ℕ) (p : Phase) → Lies l → Outside l.phase → Idle p l.host → LiesNext (reads_next l side j (place p l.host))
  reads_idle l side j p k o i = reads_lie none_own l side j (place p l.host) l.host k o (idle_is p l.host i) k.host (led_out none_own p l.host i.0) (λ s. refl) (λ s. refl)

  -- or where an event of no side is entered
  reads_enter : (l : TraceState) (side : Side) (j : ℕ) (e : EventName) (h : HostState) → Lies l → Outside l.phase → HostFits h → ((s : Side) → own_event s e ≡ false) → ((s : Side) → collected s h.net ≡ collected s l.host.net)
      → LiesNext (reads_next l side j (enter g e (link_of l.server) h))
  reads_enter l side j e h k o fits own same =
      let p = enter_fits none_taken no_bytes g e (link_of l.server) h fits in
      reads_lie (λ s. own_event s e) l side j (enter g e (link_of l.server) h) h k o (event_of none_taken no_bytes _ _ p.phase) p.host (enter_led g e (link_of l.server) h (begun_fits e (link_of l.server) h fits).payload) own same

  moves_lie : (l : TraceState) (side : Side) (j : ℕ) (bytes : List ℕ) (p : Phase) → Lies l → Idle p l.host → LiesNext (moves_next l side j bytes p)
  moves_lie l Client j bytes p k i = (reads Client j l p k i.0 (idle_is p l.host i), none)
  moves_lie l Server j bytes p k i = (reads Server j l p k i.0 (idle_is p l.host i), none)

  refused_lies : (l : TraceState) (side : Side) (f : HttpFault) → Lies l → LiesNext (fault_next g l side f)
  refused_lies l side f k = by_answer (is_answered side f)
    where
      by_answer : (b : Bool) → LiesNext (fault_by g l f b)
      by_answer true = (out_phase l (Finishing (HttpReason f)) k tt tt, none)
      by_answer false = finish_lies (HttpReason f) l k

  web_own : (side : Side) → (own_event side HttpRequest ≡ false) × (own_event side HttpResponse ≡ false)
  web_own Client = (refl, refl)
  web_own Server = (refl, refl)

  gather_own : (of : Side) (side : Side) → own_event side (gather_event of) ≡ false
  gather_own Client Client = refl
  gather_own Client Server = refl
  gather_own Server Client = refl
  gather_own Server Server = refl

  request_keeps : (r : Request) (h : HostState) (side : Side) → collected side (request_host r h).net ≡ collected side h.net
  request_keeps r h Client = refl
  request_keeps r h Server = refl

  response_keeps : (r : Response) (h : HostState) (side : Side) → collected side (response_host r h).net ≡ collected side h.net
  response_keeps r h Client = refl
  response_keeps r h Server = refl

  asked_lies : (l : TraceState) (n : ℕ) (r : Result Request HttpFault) → g.heads.request (take n l.client.unread) ≡ r → n ≤ head_limit → Lies l → Outside l.phase → LiesNext (request_next g l n r)
  asked_lies l n (Err f) is short k o = refused_lies l Client f k
  asked_lies l n (Ok r) is short k o =
      let few = heads.request (take n l.client.unread) r (omega (arith, short, length-take n l.client.unread)) is in
      reads_enter l Client n HttpRequest (request_host r l.host) k o (request_fits r l.host few k.host) (λ s. (web_own s).0) (request_keeps r l.host)

  head_lies : (l : TraceState) (p : HeadPart) → ShortHead p → Lies l → Outside l.phase → LiesNext (head_next g l p)
  head_lies l (HeadOf n) short k o = asked_lies l n (g.heads.request (take n l.client.unread)) refl short k o
  head_lies l StreamEnds short k o = finish_lies Closed l k
  head_lies l (Faulty f) short k o = refused_lies l Client f k
  head_lies l NoHead short k o = tt

  interim_lies : (l : TraceState) (n : ℕ) (r : Response) (v : Version) → Lies l → Outside l.phase → LiesNext (interim_next g l n r v)
  interim_lies l n r Http10 k o = reads_idle l Server n AtResponse k o (tt, tt)
  interim_lies l n r Http11 k o = (reads Server n l AtResponse k tt tt, none)

  status_lies : (l : TraceState) (n : ℕ) (r : Response) (switches interim : Bool) → ResponseWithin read_limit (Some r.head) → Lies l → Outside l.phase → LiesNext (status_next g l n r switches interim)
  status_lies l n r true interim short k o = finish_lies (HttpReason fault.Switching) l k
  status_lies l n r false true short k o = interim_lies l n r (asked_version (http_of l.host).came) k o
  status_lies l n r false false short k o = reads_enter l Server n HttpResponse (response_host r l.host) k o (response_fits r l.host short k.host) (λ s. (web_own s).1) (response_keeps r l.host)

  answered_lies : (l : TraceState) (n : ℕ) (r : Result Response HttpFault) → g.heads.response (http_of l.host).came (take n (stream_of Server l).unread) ≡ r → n ≤ head_limit → Lies l → Outside l.phase → LiesNext (response_next g l n r)
  answered_lies l n (Err f) is short k o = finish_lies (HttpReason f) l k
  answered_lies l n (Ok r) is short k o =
      let few = heads.response (http_of l.host).came (take n (stream_of Server l).unread) r (omega (arith, short, length-take n (stream_of Server l).unread)) is in
      status_lies l n r (nat_eq r.head.status 101) (is_interim r.head) few k o

  answer_lies : (l : TraceState) (p : HeadPart) → ShortHead p → Lies l → Outside l.phase → LiesNext (answer_next g l p)
  answer_lies l (HeadOf n) short k o = answered_lies l n (g.heads.response (http_of l.host).came (take n (stream_of Server l).unread)) refl short k o
  answer_lies l StreamEnds short k o = finish_lies (HttpReason fault.ShortBody) l k
  answer_lies l (Faulty f) short k o = finish_lies (HttpReason f) l k
  answer_lies l NoHead short k o = tt

  reuse_lies : (l : TraceState) (choices : List Choice) → Lies l → LiesNext (reuse_next g l choices)
  reuse_lies l [] k = tt
  reuse_lies l (Reuses true ∷ more) k = (chosen _ more (out_phase l (Heading Client) k tt tt), none)
  reuse_lies l (Reuses false ∷ more) k = (chosen _ more (out_phase l (GivingUp BeforeSelect) k tt tt), none)
  reuse_lies l (PassesOn side n ∷ more) k = tt
  reuse_lies l (Fires side ∷ more) k = tt

  -- a server connection is given up: of none that speaks HTTP anything is collected
  left_server : (n : ℕ) (b : Behind) (v : ServerSide) → FewOfServer n v → FewOfServer n (leaving b v)
  left_server n b NoServer w = w
  left_server n b Sought w = w
  left_server n b (There s) w = w
  left_server n b (Leaving c s) w = w
  left_server n b (Retired s) w = w

  retired_server : (n : ℕ) (v : ServerSide) → FewOfServer n v → FewOfServer n (retired v)
  retired_server n NoServer w = w
  retired_server n Sought w = w
  retired_server n (There s) w = w
  retired_server n (Leaving c s) w = w
  retired_server n (Retired s) w = w

  -- the server's side changes, of which nothing is collected
  gives_up : (l : TraceState) (q : Place) (v : ServerSide) (h : HostState) → Lies l → EventIs q.phase q.host → HostFits q.host → Led none_own q l.host → ((n : ℕ) → FewOfServer n l.server → FewOfServer n v) → (collected Server l.host.net).asks ≡ NotAsked
      → Lies (at q (record l { server = v }))
  gives_up l q v h k event fits led server asks =
      let m = at q (record l { server = v }) in
      let c = allowed_less l m Client (inr (led.out Client refl, led.keeps Client)) in
      let s = allowed_less l m Server (inr (led.out Server refl, led.keeps Server)) in
      record {
        event = event;
        host = fits;
        of_client = (let w = k.of_client in omega (arith, c, w));
        of_server = few_server (unread_limit + allowed Server l) (unread_limit + allowed Server m) v (omega (arith, s)) (server (unread_limit + allowed Server l) k.of_server);
        of_made = k.of_made;
        calm = λ d. ap (λ c. c.asks) (led.keeps Server) ∙ asks;
      }

  heading_lies : (l : TraceState) (side : Side) → Lies l → LiesNext (heading_next g l side)
  heading_lies l side k = by_whole (http_of l.host).whole
    where
      by_whole : (b : Bool) → Lies (record l { phase = behind_head side l.host b }) × (0 ≤ unread_limit)
      by_whole true = (idle l (behind_message side l.host) k (message_out side l.host), none)
      by_whole false = (out_phase l _ k tt tt, none)

  body_end_lies : (l : TraceState) (side : Side) (n : ℕ) (counted standing : Bool) → Lies l → Outside l.phase → LiesNext (body_end_next l side n counted standing)
  body_end_lies l side n true standing k o = reads_idle l side n (behind_message side l.host) k o (message_out side l.host)
  body_end_lies l side n false standing k o = moves_lie l side n (last_line standing) (behind_message side l.host) k (message_out side l.host)

  sending_lies : (l : TraceState) (side : Side) (s : BodyState) (standing : Bool) (p : Part) → Lies l → Outside l.phase → LiesNext (sending_next g l side s standing p)
  sending_lies l side s standing Byte k o = moves_lie l side 1 (take 1 (stream_of side l).unread) (Forwarding side (after_byte s) standing) k (tt, tt)
  sending_lies l side s standing (Chunk n size) k o = moves_lie l side n (chunk_line standing size) (Forwarding side (body.Chunk size) true) k (tt, tt)
  sending_lies l side s standing (End n) k o = body_end_lies l side n (is_counted s) standing k o
  sending_lies l side s standing Pending k o = tt
  sending_lies l side s standing (Bad f) k o = refused_lies l side f k

  -- a host's state of which only what is known of messages changed
  http_keeps : (http : Http) (h : HostState) (side : Side) → collected side (http_at http h).net ≡ collected side h.net
  http_keeps http h Client = refl
  http_keeps http h Server = refl

  gathered_lies : (l : TraceState) (side : Side) (j wanted : ℕ) (s : BodyState) (whole : Bool) (http : Http) → Lies l → Outside l.phase → HostFits (http_at http l.host) → length http.payload + wanted ≤ payload_limit
      → LiesNext (reads_next l side j (gathered_on g side (link_of l.server) wanted s whole (http_at http l.host)))
  gathered_lies l side j wanted s true http k o u few = reads_enter l side j (gather_event side) (http_at http l.host) k o u (gather_own side) (http_keeps http l.host)
  gathered_lies l side j zero s false http k o u few = reads_enter l side j (gather_event side) (http_at http l.host) k o u (gather_own side) (http_keeps http l.host)
  gathered_lies l side j (suc n) s false http k o u few =
      let h = http_at http l.host in
      reads_lie none_own l side j (place (Gathering side (suc n) s) h) h k o (few, omega arith) u (led_out none_own (Gathering side (suc n) s) h tt) (λ s. refl) (http_keeps http l.host)

  byte_lies : (l : TraceState) (side : Side) (wanted : ℕ) (s : BodyState) (bytes : List ℕ) → Lies l → Outside l.phase → length (http_of l.host).payload + wanted ≤ payload_limit → 1 ≤ wanted → length bytes ≤ 1
      → LiesNext (reads_next l side 1 (byte_gathered g side (link_of l.server) wanted s bytes l.host))
  byte_lies l side wanted s bytes k o few some one =
      let size = length-append (http_of l.host).payload bytes in
      let less = less_one wanted some in
      gathered_lies l side 1 (one_less wanted) s (is_at_end s) (with_gathered bytes s (http_of l.host)) k o (gather_fits bytes s l.host (omega (arith, less, few, one, some)) k.host) (omega (arith, size, less, few, one))

  gathering_lies : (l : TraceState) (side : Side) (wanted : ℕ) (s : BodyState) (p : Part) → Lies l → Outside l.phase → length (http_of l.host).payload + wanted ≤ payload_limit → 1 ≤ wanted → LiesNext (gathering_next g l side wanted s p)
  gathering_lies l side wanted s Byte k o few some = byte_lies l side wanted (after_byte s) (take 1 (stream_of side l).unread) k o few some (omega (arith, length-take 1 (stream_of side l).unread))
  gathering_lies l side wanted s (Chunk n size) k o few some = reads_idle l side n (Gathering side wanted (body.Chunk size)) k o (tt, (few, some))
  gathering_lies l side wanted s (End n) k o few some = reads_enter l side n (gather_event side) (http_at (with_whole (http_of l.host)) l.host) k o (whole_fits l.host k.host) (gather_own side) (http_keeps (with_whole (http_of l.host)) l.host)
  gathering_lies l side wanted s Pending k o few some = tt
  gathering_lies l side wanted s (Bad f) k o few some = refused_lies l side f k

  dropping_lies : (l : TraceState) (s : BodyState) (p : Part) → Lies l → Outside l.phase → LiesNext (dropping_next g l s p)
  dropping_lies l s Byte k o = reads_idle l Client 1 (Dropping (after_byte s)) k o (tt, tt)
  dropping_lies l s (Chunk n size) k o = reads_idle l Client n (Dropping (body.Chunk size)) k o (tt, tt)
  dropping_lies l s (End n) k o = reads_idle l Client n (next_request l.host) k o (next_request_out l.host l.host)
  dropping_lies l s Pending k o = tt
  dropping_lies l s (Bad f) k o = refused_lies l Client f k

  -- where HTTP is spoken nothing is collected
  not_asked : (l : TraceState) (spoken : Bool) → Speaks spoken l → is_http_phase l.phase ≡ true → (collected Server l.host.net).asks ≡ NotAsked
  not_asked l spoken v is = by_http spoken refl
    where
      by_http : (b : Bool) → spoken ≡ b → (collected Server l.host.net).asks ≡ NotAsked
      by_http true w = v.host.quiet w Server
      by_http false w = absurd (true≢false (sym is ∙ v.plain w))

  outside_at : (l : TraceState) (p : Phase) → l.phase ≡ p → Outside p → Outside l.phase
  outside_at l p at o = subst Outside (sym at) o

  loose_keeps : (h : HostState) (side : Side) → collected side (with_loose [] h).net ≡ collected side h.net
  loose_keeps h Client = refl
  loose_keeps h Server = refl

  phase_lies : (p : Phase) (l : TraceState) → l.phase ≡ p → Lies l → EventIs p l.host → Before l → OrderlyIn p l.finished (link_of l.server) → LiesNext (phase_next g p l)
  phase_lies (InEvent e bodies) l at k is before o = bodies_lie e bodies l k at is o
  phase_lies AtHead l at k is before o = head_lies l (head_part l.client.unread l.client.ended) (head_short l.client.unread l.client.ended) k (outside_at l AtHead at tt)
  phase_lies Continuing l at k is before o = (idle l (behind_asked (link_of l.server) l.host) k (asked_out (link_of l.server) l.host k.host.payload), none)
  phase_lies (Gathering side wanted s) l at k is before o =
      gathering_lies l side wanted s (part_of s (stream_of side l).unread (stream_of side l).ended) k (outside_at l (Gathering side wanted s) at tt) is.0 is.1
  phase_lies AtReuse l at k is before o = reuse_lies l l.answers.choices k
  phase_lies (GivingUp b) l at k is before o =
      let p = giving_up_fits none_taken no_bytes g b l.host k.host in
      (gives_up l (giving_up g b l.host) (leaving b l.server) l.host k (event_of none_taken no_bytes _ _ p.phase) p.host (giving_up_led none_own g b l.host) (λ n. left_server n b l.server) (not_asked l before.spoken before.speaks (ap is_http_phase at)), none)
  phase_lies (Retiring BeforeSelect) l at k is before o =
      (gives_up l (place Choosing l.host) (retired l.server) l.host k tt k.host (led_out none_own Choosing l.host tt) (λ n. retired_server n l.server) (not_asked l before.spoken before.speaks (ap is_http_phase at)), none)
  phase_lies (Retiring BehindMessage) l at k is before o =
      let i = next_request_out l.host l.host in
      (gives_up l (place (next_request l.host) l.host) (retired l.server) l.host k (idle_is (next_request l.host) l.host i) k.host (led_out none_own (next_request l.host) l.host i.0) (λ n. retired_server n l.server) (not_asked l before.spoken before.speaks (ap is_http_phase at)), none)
  phase_lies (Heading side) l at k is before o = heading_lies l side k
  phase_lies (Forwarding side s standing) l at k is before o =
      sending_lies l side s standing (part_of s (stream_of side l).unread (stream_of side l).ended) k (outside_at l (Forwarding side s standing) at tt)
  phase_lies (Dropping s) l at k is before o = dropping_lies l s (part_of s l.client.unread l.client.ended) k (outside_at l (Dropping s) at tt)
  phase_lies AtResponse l at k is before o =
      answer_lies l (head_part (stream_of Server l).unread (stream_of Server l).ended) (head_short (stream_of Server l).unread (stream_of Server l).ended) k (outside_at l AtResponse at tt)
  phase_lies Choosing l at k is before o = choosing_lies l (with_selected None l.host) l.host.net.target k (selected_fits None l.host k.host) (select_keeps None l.host)
  phase_lies (Selecting call) l at k is before o = selecting_lies call l l.answers.replies k
  phase_lies (Connecting a) l at k is before o =
      let m = record l { phase = Answering a; server = Sought } in
      let c = allowed_less l m Client (inr (refl, refl)) in (
        record {
          event = tt;
          host = k.host;
          of_client = (let w = k.of_client in omega (arith, c, w));
          of_server = tt;
          of_made = k.of_made;
          calm = λ d. k.calm o.1;
        },
        none,
      )
  phase_lies (Answering a) l at k is before o = answering_lies a l l.answers.connects k at o.1 k.of_made
  phase_lies Releasing l at k is before o = (asks_on l Relaying (with_loose [] l.host) k tt tt (unloosed_fits l.host k.host) (loose_keeps l.host), none)
  phase_lies Relaying l at k is before o = relay_lies l (relay_act (incoming Client l) (incoming Server l) l.answers.choices) k o.1 (relay_asks l l.answers.choices)
  phase_lies Collecting l at k is before o = collecting_lies l l.host.net.client.asks refl k
  phase_lies (Finishing r) l at k is before o = finish_lies r l k
  phase_lies Draining l at k is before o = tt

  cut_finish : (r : Reason) (l : TraceState) → Lies l → LiesNext (finish g r (uncut l))
  cut_finish r l k = finish_lies r (uncut l) (record { event = k.event; host = k.host; of_client = k.of_client; of_server = k.of_server; of_made = k.of_made; calm = k.calm })

  cut_lies : (l : TraceState) (cut : Option Cut) (o : Next) → Lies l → LiesNext o → LiesNext (cut_next g cut l o)
  cut_lies l None o k is = is
  cut_lies l (Some c) o k is = by_end l.finished
    where
      by_place : (o : Next) → LiesNext o → LiesNext (cut_open g c l o)
      by_place (Does i m) is = by_test (may_give i l.sent c.took || not (cut_takes g.http c.reason None))
        where
          by_test : (b : Bool) → LiesNext (if b then Does i m else finish g (CutBy c.reason) (uncut l))
          by_test true = is
          by_test false = cut_finish (CutBy c.reason) l k
      by_place (Waits w) is = by_test (cut_takes g.http c.reason (Some w))
        where
          by_test : (b : Bool) → LiesNext (if b then finish g (CutBy c.reason) (uncut l) else Waits w)
          by_test true = cut_finish (CutBy c.reason) l k
          by_test false = tt
      by_place Over is = tt

      by_end : (b : Bool) → LiesNext (if b then o else cut_open g c l o)
      by_end true = is
      by_end false = by_place o is

  counted_lies : (sent : Counts) (o : Next) → LiesNext o → LiesNext (counted sent o)
  counted_lies sent (Does i m) is = (record { event = is.0.event; host = is.0.host; of_client = is.0.of_client; of_server = is.0.of_server; of_made = is.0.of_made; calm = is.0.calm }, is.1)
  counted_lies sent (Waits w) is = tt
  counted_lies sent Over is = tt

  pub item_lies : (l m : TraceState) (i : Item) → Lies l → Before l → next_item g l ≡ Does i m → Lies m × (passed_by i ≤ unread_limit)
  unfolding next_item
  item_lies l m i k before is = subst LiesNext is (counted_lies l.sent _ (cut_lies l l.answers.cut (phase_next g l.phase l) k (phase_lies l.phase l refl k k.event before before.orderly)))

  pub start_lies : (client : Stream) (answers : Answers) → length client.unread ≤ unread_limit → FewOfMade unread_limit answers.connects → Lies (start g client answers)
  start_lies client answers few made =
      let p = enter_fits none_taken no_bytes g ClientAccepted Absent (first_host g) (first_fits g) in
      let led = enter_led g ClientAccepted Absent (first_host g) (begun_fits ClientAccepted Absent (first_host g) (first_fits g)).payload in
      record {
        event = event_of none_taken no_bytes _ _ p.phase;
        host = p.host;
        of_client = omega (arith, few);
        of_server = tt;
        of_made = made;
        calm = λ d. ap (λ c. c.asks) (led.keeps Server);
      }
