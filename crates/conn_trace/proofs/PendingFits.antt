-- What is pending to a side, item by item.
use Rattle.std.proofs.Common.{◌≡◌, refl, sym, ap, subst, ◌∙◌, ℕ, zero, suc, ◌+◌, ◌<◌, ◌≤◌, List, [], ◌∷◌, length, take, nat_lt, Bool, true, false, ◌&&◌, ◌||◌, not, nat_le, true≢false, if◌then◌else◌, Option, Some, None, arith}
use Rattle.std.specs.Prelude.{slice_get}
use Rattle.std.proofs.lemmas.Bool.{and_parts}
use Rattle.std.proofs.lemmas.List.{length-take}
use Rattle.std.proofs.lemmas.Bool.Decides.{nat_tests}
use Rattle.px_bytes.specs.declared.addr.Addr.{Addr}
use Rattle.px_bytes.specs.declared.addr.Side.{Side}
use Rattle.px_bytes.specs.declared.addr.Side.TheVariants.{Client, Server}
use Rattle.px_bytes.specs.declared.fault.Reply.{Reply}
use Rattle.px_bytes.specs.declared.fault.Reply.TheVariants as reply
use Rattle.rule_model.specs.Host as effect
use Rattle.rule_model.specs.Outcome as act
use Rattle.rule_model.specs.Outcome.{Act, Did, Outcome, Ends, Waits as Stops, uncaught_of}
use Rattle.rule_model.specs.Laws.{state_after}
use Rattle.event_order.specs.declared.event.EventName.{EventName}
use Rattle.event_order.specs.declared.event.EventName.TheVariants.{ClientAccepted, ServerConnected, LbSelected, LbFailed}
use Rattle.irule_net.specs.State.{collected}
use Rattle.irule_net.specs.Steps.{target_pool}
use Rattle.irule_net.specs.declared.state.Asks.{Asks}
use Rattle.irule_net.specs.declared.state.Asks.TheVariants.{NotAsked, Stated}
use Rattle.irule_net.specs.declared.state.Target.{Target}
use Rattle.irule_net.specs.declared.state.Target.TheVariants.{Default, PoolOf, MemberOf, NodeAt}
use Rattle.conn_trace.specs.Bodies.{act_item, peer_of, run_body, ended_next, act_next, bodies_next}
use Rattle.conn_trace.specs.Bounds.{passed_by, PassWithin, pending_limit}
use Rattle.conn_trace.specs.Gates.{Counts, no_bytes, TakenCounts, other, untaken, taken_of, to_take, room_limit, has_room, may_give, sent_after, sent_from, Met}
use Rattle.conn_trace.specs.Host.{HostState, first_host, with_selected, http_of}
use Rattle.conn_trace.specs.Item.{Item, Choice, PassesOn, Fires, Reuses, Reason, Closed, CutBy, Moved, Rejected}
use Rattle.conn_trace.specs.Places.{at, is_closing, enter, data_event}
use Rattle.conn_trace.specs.Queries.{unread_limit}
use Rattle.conn_trace.specs.Relay.{incoming, is_done, passes, meets, RelayAct, BothDone, Passing, Firing, Resting, firing, by_side, chosen_act, fired_host, relay_act, collect_act, behind_fires}
use Rattle.conn_trace.specs.Selected.{addr_of}
use Rattle.conn_trace.specs.Setup.{Handler, Setup}
use Rattle.conn_trace.specs.State.{Bodies, Gated, Running, Failing, Phase, InEvent, Choosing, Selecting, Connecting, Answering, Releasing, Relaying, Collecting, Finishing, Draining, Stream, Absent, Up, link_of, Cut, Answers, TraceState, Next, Does, Waits, Over, stream_of}
use Rattle.conn_trace.specs.Places.{finish}
use Rattle.conn_trace.specs.Trace.{choosing_next, default_next, selected_next, selecting_next, answering_next, relay_next, fired_next, collect_next, collecting_next, phase_next, cut_takes, uncut, cut_open, cut_next, counted, next_item, Unfolds, start}
use Rattle.conn_trace.proofs.BodyKeeps.{act_bytes, acts_bytes, all_bytes, next_bytes, part_bytes}
use Rattle.conn_trace.proofs.Given.{sent_counted, sent_step}
use Rattle.conn_trace.proofs.HostFits.{BodyFits, HostFits, body_fits, credit, credit_few, fired_fits, first_fits, loose_few, selected_fits as host_selected, unloosed_fits}
use Rattle.std.proofs.Common.{Result, Ok, Err, nat_eq, ◌/◌, ◌%◌, ◌++◌}
use Rattle.std.specs.Char.{digit_char}
use Rattle.std.specs.Option.{is_some}
use Rattle.std.proofs.lemmas.List.{length-append}
use Rattle.event_order.specs.declared.event.EventName.TheVariants.{HttpRequest, HttpResponse}
use Rattle.px_bytes.specs.declared.fault.HttpFault.{HttpFault}
use Rattle.px_bytes.specs.declared.fault.HttpFault.TheVariants as fault
use Rattle.http_frames.specs.declared.state.BodyState.{BodyState}
use Rattle.http_frames.specs.declared.state.BodyState.TheVariants as body
use Rattle.conn_trace.specs.Item.{Sent, ToClient, Http as HttpReason}
use Rattle.http_heads.specs.Fronts.{head_part}
use Rattle.http_heads.specs.declared.front.HeadPart.{HeadPart}
use Rattle.http_heads.specs.declared.front.HeadPart.TheVariants.{HeadOf, StreamEnds, Faulty, NoHead}
use Rattle.conn_trace.specs.Fronts.{after_byte, one_less, is_at_end}
use Rattle.conn_trace.specs.Http.{with_gathered, with_whole, Heads, no_heads}
use Rattle.conn_trace.specs.SentBodies.{is_answered, continue_text, chunk_line, last_line, hex, hex_digits, closing, end_of_line, payload_chunk, rest_line, behind_payload, gathered_part, payload_part, is_chunked}
use Rattle.http_frames.specs.Parts.{Part, Byte, Chunk, End, Pending, Bad, part_of}
use Rattle.irule_http.specs.Payload.{payload_limit}
use Rattle.irule_http.specs.declared.state.Http.{Http}
use Rattle.irule_http.specs.declared.state.Request.{Request}
use Rattle.irule_http.specs.declared.state.Response.{Response}
use Rattle.conn_trace.specs.State.{AtHead, Continuing, Gathering, AtReuse, GivingUp, Retiring, Heading, Forwarding, Dropping, AtResponse, Behind, BeforeSelect, BehindMessage}
use Rattle.conn_trace.specs.Routing.{next_request, behind_message, behind_asked}
use Rattle.conn_trace.specs.Places.{Place, place, gather_event}
use Rattle.conn_trace.specs.Messages.{reads_next, fault_by, fault_next, request_host, response_host, request_next, head_next, interim_next, asked_version, is_interim, status_next, response_next, answer_next, moves_next, body_end_next, is_counted, sending_next, gathered_place, gathered_on, byte_gathered, http_at, gathering_next, dropping_next, reuse_next, retiring_next, heading_next, head_bytes, behind_head}
use Rattle.conn_trace.specs.Trace.{serving}
use Rattle.conn_trace.specs.Phases.{Orderly, OrderlyIn}
use Rattle.conn_trace.proofs.Stepping.{steps, start_orderly}
use Rattle.conn_trace.specs.Bounds.{HeadsFit, refusal_limit, read_limit}
use Rattle.http_heads.specs.declared.line.Version.{Version}
use Rattle.http_heads.specs.declared.line.Version.TheVariants.{Http10, Http11}
use Rattle.irule_http.specs.Laws.{ResponseWithin}
use Rattle.http_heads.specs.Fronts.{head_limit}
use Rattle.conn_trace.proofs.HostFits.{request_fits, response_fits, gather_fits, serving_fits, whole_fits, sent_limit}
use Rattle.conn_trace.proofs.Parts.{ShortHead, head_short}
use Rattle.conn_trace.proofs.PlacesFit.{PlaceFits, Idle, outside, next_request_out, message_out, asked_out, giving_up_fits}
use Rattle.conn_trace.proofs.PlacesFit.{at_gate, PhaseFits, body_fits as behind_fits, closed_fits, enter_begun, enter_fits, fault_fits}

-- heads that are never read
pub no_heads_fit : (g : Setup) → g.heads ≡ no_heads → HeadsFit g
no_heads_fit g is = record {
  request = λ bytes r short read. absurd (let e : no_heads.request bytes ≡ Ok r = sym (ap (λ (h : Heads). h.request bytes) is) ∙ read in cc);
  response = λ came bytes r short read. absurd (let e : no_heads.response came bytes ≡ Ok r = sym (ap (λ (h : Heads). h.response came bytes) is) ∙ read in cc);
  sent = λ side h few. (let e = ap (λ (x : Heads). length (x.sent side h)) is in omega (arith, e));
  interim = λ r few. (let e = ap (λ (x : Heads). length (x.interim r)) is in omega (arith, e));
  refusal = λ f. (let e = ap (λ (x : Heads). length (x.refusal f)) is in omega (arith, e));
}

-- ---- how much an item adds

untaken_more : (s n : ℕ) (t : Option ℕ) → untaken (s + n) t ≤ untaken s t + n
untaken_more s n None = omega arith
untaken_more s n (Some k) = omega arith

none_untaken : (t : Option ℕ) → untaken 0 t ≤ 0
none_untaken None = omega arith
none_untaken (Some k) = omega arith

act_adds : (took : TakenCounts) (sent : Counts) (a : Act) (side : Side) → to_take (sent_after (act_item sent.number a) sent) took side ≤ to_take sent took side + act_bytes side a
act_adds took sent (Did (effect.Logged text)) side = omega arith
act_adds took sent (act.Called path call) side = omega arith
act_adds took sent (Did (effect.Sent Client bytes)) Client = untaken_more sent.client (length bytes) took.client
act_adds took sent (Did (effect.Sent Client bytes)) Server = omega arith
act_adds took sent (Did (effect.Sent Server bytes)) Client = omega arith
act_adds took sent (Did (effect.Sent Server bytes)) Server = untaken_more sent.server (length bytes) (taken_of took.servers sent.number)

-- bytes of one side go to the other
over_adds : (took : TakenCounts) (sent : Counts) (from : Side) (n : ℕ) (bytes : List ℕ) (side : Side) → to_take (sent_after (Moved from n (peer_of sent.number (other from)) bytes) sent) took side ≤ to_take sent took side + length bytes
over_adds took sent Client n bytes Client = omega arith
over_adds took sent Client n bytes Server = untaken_more sent.server (length bytes) (taken_of took.servers sent.number)
over_adds took sent Server n bytes Client = untaken_more sent.client (length bytes) took.client
over_adds took sent Server n bytes Server = omega arith

-- only to the other
over_keeps : (took : TakenCounts) (sent : Counts) (from : Side) (n : ℕ) (bytes : List ℕ) → to_take (sent_after (Moved from n (peer_of sent.number (other from)) bytes) sent) took from ≡ to_take sent took from
over_keeps took sent Client n bytes = refl
over_keeps took sent Server n bytes = refl

-- at an open gate
room_few : (took : TakenCounts) (sent : Counts) (side : Side) → has_room sent took side ≡ true → to_take sent took side ≤ at_gate
room_few took sent side e = few (to_take sent took side) e
  where
    few : (n : ℕ) → nat_lt n room_limit ≡ true → n ≤ at_gate
    few n e = grind (arith, nat_tests)

-- ---- what is sent of a body

hex_few : (n size : ℕ) → length (hex_digits n size) ≤ n
hex_few zero size = omega arith
hex_few (suc n) size = by_test (nat_lt size 16) (hex_few n (size / 16))
  where
    by_test : (b : Bool) → length (hex_digits n (size / 16)) ≤ n → length (if b then digit_char size ∷ [] else hex_digits n (size / 16) ++ digit_char (size % 16) ∷ []) ≤ suc n
    by_test true few = omega arith
    by_test false few = let e = length-append (hex_digits n (size / 16)) (digit_char (size % 16) ∷ []) in omega (arith, e, few)

closing_few : (standing : Bool) → length (closing standing) ≤ 2
closing_few true = omega arith
closing_few false = omega arith

line_few : (standing : Bool) (size : ℕ) → length (chunk_line standing size) ≤ 20
line_few standing size =
    let whole : length (chunk_line standing size) ≡ length (closing standing ++ hex size) + length end_of_line = length-append (closing standing ++ hex size) end_of_line in
    let front : length (closing standing ++ hex size) ≡ length (closing standing) + length (hex size) = length-append (closing standing) (hex size) in
    let end : length end_of_line ≡ 2 = refl in
    let digits : length (hex size) ≤ 16 = hex_few 16 size in
    let first = closing_few standing in
    omega (arith, whole, front, end, digits, first)

last_few : (standing : Bool) → length (last_line standing) ≤ 7
last_few true = omega arith
last_few false = omega arith

joined_few : (line payload : List ℕ) → length line ≤ 20 → length (line ++ payload ++ end_of_line) ≤ length payload + 22
joined_few line payload few =
    let whole : length (line ++ payload ++ end_of_line) ≡ length (line ++ payload) + length end_of_line = length-append (line ++ payload) end_of_line in
    let front : length (line ++ payload) ≡ length line + length payload = length-append line payload in
    let end : length end_of_line ≡ 2 = refl in
    omega (arith, whole, front, end, few)

chunk_few : (payload : List ℕ) → length (payload_chunk payload) ≤ length payload + 22
chunk_few [] = omega arith
chunk_few (b ∷ bs) = joined_few (chunk_line false (length (b ∷ bs))) (b ∷ bs) (line_few false (length (b ∷ bs)))

rest_few : (s : BodyState) → length (rest_line s) ≤ 20
rest_few (body.Chunk n) = line_few false n
rest_few s = omega arith

behind_few : (whole : Bool) (s : BodyState) → length (behind_payload whole s) ≤ 20
behind_few true s = omega arith
behind_few false s = rest_few s

payload_few : (h : Http) → length (payload_part h) ≤ length h.payload + 50
payload_few h = by_gathered (is_some h.gathered)
  where
    by_chunked : (b : Bool) → length (gathered_part b h) ≤ length h.payload + 50
    by_chunked true = let a = length-append (payload_chunk h.payload) (behind_payload h.whole h.reader) in let c = chunk_few h.payload in let d = behind_few h.whole h.reader in omega (arith, a, c, d)
    by_chunked false = omega arith

    by_gathered : (b : Bool) → length (if b then gathered_part (is_chunked h.body) h else []) ≤ length h.payload + 50
    by_gathered true = by_chunked (is_chunked h.body)
    by_gathered false = omega arith

-- ---- what a relay does, by its collects

abbrev pub ActAsks : TraceState → RelayAct → Type 0
ActAsks l (Firing side n more) = (collected side l.host.net).asks ≡ Stated n
ActAsks l (Passing side n more) = (collected side l.host.net).asks ≡ NotAsked
ActAsks l other = Unit {0}

meets_stated : (asks : Asks) (unread : List ℕ) (n : ℕ) → meets asks unread ≡ Some n → asks ≡ Stated n
meets_stated NotAsked unread n is = absurd (cc)
meets_stated (Stated k) unread n is = by_test (nat_le k (length unread)) is
  where
    by_test : (b : Bool) → (if b then Some k else None) ≡ Some n → Stated k ≡ Stated n
    by_test true e = let same : k ≡ n = cc in ap Stated same
    by_test false e = absurd (cc)

pub relay_asks : (l : TraceState) (choices : List Choice) → ActAsks l (relay_act (incoming Client l) (incoming Server l) choices)
relay_asks l choices = by_done (is_done (incoming Client l) && is_done (incoming Server l)) choices
  where
    side_asks : (side : Side) → (by_side side (incoming Client l) (incoming Server l)).asks ≡ (collected side l.host.net).asks
    side_asks Client = refl
    side_asks Server = refl

    fires : (side : Side) (more : List Choice) (o : Option ℕ) → meets (by_side side (incoming Client l) (incoming Server l)).asks (by_side side (incoming Client l) (incoming Server l)).stream.unread ≡ o → ActAsks l (firing side more o)
    fires side more None is = tt
    fires side more (Some n) is = sym (side_asks side) ∙ meets_stated (by_side side (incoming Client l) (incoming Server l)).asks (by_side side (incoming Client l) (incoming Server l)).stream.unread n is

    not_asked : (asks : Asks) (n : ℕ) (unread : List ℕ) → passes asks n unread ≡ true → asks ≡ NotAsked
    not_asked NotAsked n unread is = refl
    not_asked (Stated k) n unread is = absurd (true≢false (sym is))

    passes_on : (b : Bool) (side : Side) (n : ℕ) (more : List Choice) → passes (by_side side (incoming Client l) (incoming Server l)).asks n (by_side side (incoming Client l) (incoming Server l)).stream.unread ≡ b → ActAsks l (if b then Passing side n more else Resting)
    passes_on true side n more is = sym (side_asks side) ∙ not_asked (by_side side (incoming Client l) (incoming Server l)).asks n (by_side side (incoming Client l) (incoming Server l)).stream.unread is
    passes_on false side n more is = tt

    chosen : (choices : List Choice) → ActAsks l (chosen_act (incoming Client l) (incoming Server l) choices)
    chosen [] = tt
    chosen (PassesOn side n ∷ more) = passes_on (passes (by_side side (incoming Client l) (incoming Server l)).asks n (by_side side (incoming Client l) (incoming Server l)).stream.unread) side n more refl
    chosen (Fires side ∷ more) = fires side more (meets (by_side side (incoming Client l) (incoming Server l)).asks (by_side side (incoming Client l) (incoming Server l)).stream.unread) refl
    chosen (Reuses again ∷ more) = tt

    by_done : (b : Bool) (choices : List Choice) → ActAsks l (if b then BothDone else chosen_act (incoming Client l) (incoming Server l) choices)
    by_done true choices = tt
    by_done false choices = chosen choices

pub collect_asks : (l : TraceState) (n : ℕ) → l.host.net.client.asks ≡ Stated n → (more : Option (List Choice)) → ActAsks l (collect_act n l.client.unread more)
collect_asks l n is None = tt
collect_asks l n is (Some more) = by_test (nat_le n (length l.client.unread))
  where
    by_test : (b : Bool) → ActAsks l (if b then Firing Client n more else Resting)
    by_test true = is
    by_test false = tt

-- one fewer is wanted
pub less_one : (n : ℕ) → 1 ≤ n → one_less n + 1 ≡ n
less_one zero some = absurd (omega (arith, some))
less_one (suc n) some = omega arith

-- ---- what is pending

-- with all that the bodies of one event send
abbrev pub at_most : ℕ
at_most = 2300000

abbrev low : (finished : Bool) → ℕ
low true = at_most + refusal_limit
low false = at_most

abbrev most : (finished : Bool) → Phase → ℕ
most finished (Finishing r) = at_most + refusal_limit
most finished other = low finished

low_high : (finished : Bool) → low finished ≤ at_most + refusal_limit
low_high true = omega arith
low_high false = omega arith

at_low : (finished : Bool) → at_most ≤ low finished
at_low true = omega arith
at_low false = omega arith

low_most : (finished : Bool) (p : Phase) → low finished ≤ most finished p
low_most finished (Finishing r) = low_high finished
low_most finished other = omega arith

most_high : (finished : Bool) (p : Phase) → most finished p ≤ at_most + refusal_limit
most_high finished (Finishing r) = omega arith
most_high finished other = low_high finished

module _ (g : Setup) (heads : HeadsFit g) (took : TakenCounts) where
  abbrev acts_of : Handler → TraceState → List Act
  acts_of b l = (state_after (run_body g b l)).acts

  -- in each phase
  abbrev InPhase : Phase → TraceState → Type 0
  InPhase (InEvent e (Gated b bs)) l = l.host.event ≡ e
  InPhase (InEvent e (Running b bs n)) l = (l.host.event ≡ e) × (is_closing e ≡ false → (side : Side) → to_take l.sent took side ≤ at_gate + (credit e side l.host + acts_bytes side (take n (acts_of b l))))
  InPhase (InEvent e (Failing kind line bs)) l = l.host.event ≡ e
  InPhase (Gathering side wanted s) l = (length (http_of l.host).payload + wanted ≤ payload_limit) × (1 ≤ wanted)
  InPhase other l = Unit {0}

  record Fits (l : TraceState) : Type 0 where
    phase : InPhase l.phase l
    host : HostFits l.host
    few : (side : Side) → to_take l.sent took side ≤ most l.finished l.phase

  -- where it isn't about to finish
  record Low (l : TraceState) : Type 0 where
    host : HostFits l.host
    few : (side : Side) → to_take l.sent took side ≤ low l.finished

  -- an item that comes through its gate
  abbrev FitsNext : Counts → Next → Type 0
  FitsNext sent (Does i m) = may_give i sent took ≡ true → passed_by i ≤ unread_limit → Fits (record m { sent = sent_after i sent })
  FitsNext sent (Waits k) = Unit {0}
  FitsNext sent Over = Unit {0}

  in_phase : (p : Phase) (l : TraceState) → PhaseFits took l.sent p l.host → InPhase p l
  in_phase (InEvent e (Gated b bs)) l is = is
  in_phase (InEvent e (Running b bs n)) l is = (is.0, λ open_event side. (let f = is.1 open_event side in omega (arith, f)))
  in_phase (InEvent e (Failing kind line bs)) l is = is
  in_phase (Gathering side wanted s) l is = is
  in_phase other l is = tt

  placed : (m : TraceState) → PhaseFits took m.sent m.phase m.host → HostFits m.host → ((side : Side) → to_take m.sent took side ≤ low m.finished) → Fits m
  placed m phase host few = record { phase = in_phase m.phase m phase; host = host; few = λ side. (let f = few side in let n = low_most m.finished m.phase in omega (arith, f, n)) }

  finish_high : (r : Reason) (l : TraceState) → HostFits l.host → ((side : Side) → to_take l.sent took side ≤ at_most + refusal_limit) → FitsNext l.sent (finish g r l)
  finish_high r l host few = λ may small. (let p = closed_fits took l.sent g (link_of l.server) l.host host in placed _ p.phase p.host few)

  finish_fits : (r : Reason) (l : TraceState) → Low l → FitsNext l.sent (finish g r l)
  finish_fits r l k = finish_high r l k.host (λ side. (let f = k.few side in let n = low_high l.finished in omega (arith, f, n)))

  -- ---- bodies

  act_few : (e : EventName) (b : Handler) (n : ℕ) (l : TraceState) (a : Act) → Low l → (l.host.event ≡ e) → slice_get (acts_of b l) n ≡ Some a
      → (is_closing e ≡ false → (side : Side) → to_take l.sent took side ≤ at_gate + (credit e side l.host + acts_bytes side (take n (acts_of b l))))
      → (side : Side) → to_take (sent_after (act_item l.sent.number a) l.sent) took side ≤ low l.finished
  act_few e b n l a k is there few side = by_closing (is_closing e) refl
    where
      facts : BodyFits l.host (state_after (run_body g b l)).host (λ side. acts_bytes side (acts_of b l))
      facts = body_fits g b l k.host

      by_closing : (c : Bool) → is_closing e ≡ c → to_take (sent_after (act_item l.sent.number a) l.sent) took side ≤ low l.finished
      by_closing false c =
          let all = subst (λ v. credit v side l.host + acts_bytes side (acts_of b l) ≤ credit v side (state_after (run_body g b l)).host) is (facts.credits side) in
          let limit = subst (λ v. credit v side (state_after (run_body g b l)).host ≤ sent_limit) (facts.event ∙ is) (credit_few side (state_after (run_body g b l)).host facts.fits) in
          let before = few c side in
          let adds = act_adds took l.sent a side in
          let one = next_bytes side n (acts_of b l) a there in
          let part = part_bytes side (n + 1) (acts_of b l) in
          let most = at_low l.finished in
          omega (arith, all, limit, before, adds, one, part, most)
      by_closing true c =
          let none = facts.silent (subst (λ v. is_closing v ≡ true) (sym is) c) side in
          let one = next_bytes side n (acts_of b l) a there in
          let part = part_bytes side (n + 1) (acts_of b l) in
          let adds = act_adds took l.sent a side in
          let before = k.few side in
          omega (arith, none, one, part, adds, before)

  act_fits : (e : EventName) (b : Handler) (bs : List Handler) (n : ℕ) (l : TraceState) (a : Act) → Low l → InPhase (InEvent e (Running b bs n)) l → slice_get (acts_of b l) n ≡ Some a
      → Fits (record l { phase = InEvent e (Running b bs (n + 1)); sent = sent_after (act_item l.sent.number a) l.sent })
  act_fits e b bs n l a k is there = record {
    phase = (
      is.0,
      λ open_event side. (
          let before = is.1 open_event side in
          let adds = act_adds took l.sent a side in
          let one = next_bytes side n (acts_of b l) a there in
          omega (arith, before, adds, one)
          ),
    );
    host = k.host;
    few = act_few e b n l a k is.0 there is.1;
  }

  ended_fits : (e : EventName) (b : Handler) (bs : List Handler) (l : TraceState) (o : Outcome HostState) → Low l → BodyFits l.host (state_after o).host (λ side. acts_bytes side (state_after o).acts) → l.host.event ≡ e
      → (is_closing e ≡ false → (side : Side) → to_take l.sent took side ≤ at_gate + (credit e side l.host + acts_bytes side (state_after o).acts)) → FitsNext l.sent (ended_next g e b bs l o)
  ended_fits e b bs l (Stops path call st) k facts is few = tt
  ended_fits e b bs l (Ends code st) k facts is few = λ may small. (
      let p = behind_fits took l.sent g e l.finished (link_of l.server) b bs (uncaught_of code) st.host facts.fits (facts.event ∙ is)
      (λ open_event side. (
      let before = few open_event side in
      let all = subst (λ v. credit v side l.host + acts_bytes side st.acts ≤ credit v side st.host) is (facts.credits side) in
      omega (arith, before, all)
      )) in
      placed _ p.phase p.host k.few)

  body_fits_next : (e : EventName) (b : Handler) (bs : List Handler) (n : ℕ) (l : TraceState) (v : Option Act) → Low l → InPhase (InEvent e (Running b bs n)) l → slice_get (acts_of b l) n ≡ v
      → FitsNext l.sent (act_next e b bs n l v (ended_next g e b bs l (run_body g b l)))
  body_fits_next e b bs n l None k is there =
      ended_fits e b bs l (run_body g b l) k (body_fits g b l k.host) is.0 (λ open_event side. (let before = is.1 open_event side in let all = all_bytes side n (acts_of b l) there in omega (arith, before, all)))
  body_fits_next e b bs n l (Some a) k is there = λ may small. act_fits e b bs n l a k is there

  bodies_fit : (e : EventName) (bodies : Bodies) (l : TraceState) → Low l → InPhase (InEvent e bodies) l → FitsNext l.sent (bodies_next g e bodies l)
  bodies_fit e (Gated b bs) l k is = λ may small. (
      let both = and_parts (has_room l.sent took Client) (has_room l.sent took Server) may in
      let room : (side : Side) → to_take l.sent took side ≤ at_gate = both_sides both.0 both.1 in
      record { phase = (is, λ open_event side. (let r = room side in omega (arith, r))); host = k.host; few = k.few })
    where
      both_sides : has_room l.sent took Client ≡ true → has_room l.sent took Server ≡ true → (side : Side) → to_take l.sent took side ≤ at_gate
      both_sides c s Client = room_few took l.sent Client c
      both_sides c s Server = room_few took l.sent Server s
  bodies_fit e (Running b bs n) l k is = body_fits_next e b bs n l (slice_get (acts_of b l) n) k is refl
  bodies_fit e (Failing kind line bs) l k is = λ may small. (let p = fault_fits took l.sent g e l.finished (link_of l.server) kind bs l.host k.host is in placed _ p.phase p.host k.few)

  -- ---- other phases

  enters : (e : EventName) (h : HostState) (l : TraceState) → HostFits h → Low l → Fits (at (enter g e (link_of l.server) h) l)
  enters e h l u k = let p = enter_fits took l.sent g e (link_of l.server) h u in placed _ p.phase p.host k.few

  choosing_fits : (l : TraceState) (h : HostState) (target : Target) → Low l → HostFits h → FitsNext l.sent (choosing_next g l h target)
  choosing_fits l h Default k u = by_pool h.net.pool
    where
      by_pool : (pool : List ℕ) → FitsNext l.sent (default_next g l h pool)
      by_pool [] = λ may small. enters LbFailed h l u k
      by_pool (b ∷ bs) = λ may small. record { phase = tt; host = u; few = k.few }
  choosing_fits l h (PoolOf pool) k u = λ may small. record { phase = tt; host = u; few = k.few }
  choosing_fits l h (MemberOf pool a) k u = λ may small. record { phase = tt; host = u; few = k.few }
  choosing_fits l h (NodeAt a) k u = λ may small. enters LbSelected (with_selected (Some (record { pool = []; addr = a })) h) l (host_selected _ h u) k

  selected_fits : (l : TraceState) (more : List Reply) (a : Option Addr) → Low l → FitsNext l.sent (selected_next g l more a)
  selected_fits l more None k = λ may small. (let p = enter_fits took l.sent g LbFailed (link_of l.server) l.host k.host in placed _ p.phase p.host k.few)
  selected_fits l more (Some a) k = λ may small. (
      let h = with_selected (Some (record { pool = target_pool l.host.net.pool l.host.net.target; addr = a })) l.host in
      let p = enter_fits took l.sent g LbSelected (link_of l.server) h (host_selected _ l.host k.host) in
      placed _ p.phase p.host k.few)

  selecting_fits : (call : List (List ℕ)) (l : TraceState) (replies : List Reply) → Low l → FitsNext l.sent (selecting_next g call l replies)
  selecting_fits call l [] k = tt
  selecting_fits call l (reply.Ok v ∷ more) k = selected_fits l more (addr_of v) k
  selecting_fits call l (reply.Fault f ∷ more) k = selected_fits l more None k

  -- to a new server connection nothing was sent
  renewed_few : (l : TraceState) → Low l → (side : Side) → to_take (record l.sent { server = 0; number = l.sent.number + 1 }) took side ≤ low l.finished
  renewed_few l k Client = k.few Client
  renewed_few l k Server = let n = none_untaken (taken_of took.servers (l.sent.number + 1)) in let z = at_low l.finished in omega (arith, n, z)

  answering_fits : (l : TraceState) (connects : List (Option Stream)) → Low l → FitsNext l.sent (answering_next g l connects)
  answering_fits l [] k = tt
  answering_fits l (Some s ∷ more) k = λ may small. (
      let p = enter_fits took (record l.sent { server = 0; number = l.sent.number + 1 }) g ServerConnected Up (serving l.host) (serving_fits l.host k.host) in
      placed _ p.phase p.host (renewed_few l k))
  answering_fits l (None ∷ more) k = λ may small. (let p = enter_fits took l.sent g LbFailed Absent l.host k.host in placed _ p.phase p.host k.few)

  fired_next_fits : (l : TraceState) (side : Side) (n : ℕ) (more : List Choice) → Low l → (collected side l.host.net).asks ≡ Stated n → FitsNext l.sent (fired_next g l side n more)
  fired_next_fits l Client n more k asks = λ may small. (
      let bytes = take n l.client.unread in
      let few = length-take n l.client.unread in
      let p = enter_begun took l.sent g (data_event Client) (link_of l.server) (fired_host Client bytes l.host) (fired_fits Client n bytes (data_event Client) (link_of l.server) l.host k.host asks (omega (arith, few))) in
      placed _ p.phase p.host k.few)
  fired_next_fits l Server n more k asks = λ may small. (
      let bytes = take n (stream_of Server l).unread in
      let few = length-take n (stream_of Server l).unread in
      let p = enter_begun took l.sent g (data_event Server) (link_of l.server) (fired_host Server bytes l.host) (fired_fits Server n bytes (data_event Server) (link_of l.server) l.host k.host asks (omega (arith, few))) in
      placed _ p.phase p.host k.few)

  -- bytes that go over where the other side has room
  over_few : (l : TraceState) (from : Side) (n : ℕ) (bytes : List ℕ) → Low l → has_room l.sent took (other from) ≡ true → length bytes ≤ 1180000
      → (side : Side) → to_take (sent_after (Moved from n (peer_of l.sent.number (other from)) bytes) l.sent) took side ≤ low l.finished
  over_few l Client n bytes k room few Client = k.few Client
  over_few l Client n bytes k room few Server = let r = room_few took l.sent Server room in let a = over_adds took l.sent Client n bytes Server in let z = at_low l.finished in omega (arith, r, a, few, z)
  over_few l Server n bytes k room few Client = let r = room_few took l.sent Client room in let a = over_adds took l.sent Server n bytes Client in let z = at_low l.finished in omega (arith, r, a, few, z)
  over_few l Server n bytes k room few Server = k.few Server

  relay_fits : (l : TraceState) (a : RelayAct) → Low l → ActAsks l a → FitsNext l.sent (relay_next g l a)
  relay_fits l BothDone k asks = finish_fits Closed l k
  relay_fits l (Passing Client n more) k asks = λ may small. record { phase = tt; host = k.host; few = over_few l Client n (take n l.client.unread) k may (omega (arith, small)) }
  relay_fits l (Passing Server n more) k asks = λ may small. record { phase = tt; host = k.host; few = over_few l Server n (take n (stream_of Server l).unread) k may (omega (arith, small)) }
  relay_fits l (Firing side n more) k asks = fired_next_fits l side n more k asks
  relay_fits l Resting k asks = tt

  collect_fits : (l : TraceState) (a : RelayAct) → Low l → ActAsks l a → FitsNext l.sent (collect_next g l a)
  collect_fits l BothDone k asks = finish_fits Closed l k
  collect_fits l (Passing side n more) k asks = tt
  collect_fits l (Firing side n more) k asks = fired_next_fits l side n more k asks
  collect_fits l Resting k asks = tt

  collecting_fits : (l : TraceState) (asks : Asks) → l.host.net.client.asks ≡ asks → Low l → FitsNext l.sent (collecting_next g l asks)
  collecting_fits l NotAsked is k = tt
  collecting_fits l (Stated n) is k = collect_fits l (collect_act n l.client.unread (behind_fires l.answers.choices)) k (collect_asks l n is (behind_fires l.answers.choices))

  -- ---- HTTP

  left_low : (side : Side) (n : ℕ) (l : TraceState) → Low l → (m : TraceState) → m.sent ≡ l.sent → m.finished ≡ l.finished → (s : Side) → to_take m.sent took s ≤ low m.finished
  left_low side n l k m sent finished s = (let f = k.few s in let a = ap (λ x. to_take x took s) sent in let b = ap low finished in omega (arith, f, a, b))

  -- n bytes of a side were read, and it goes to such a place
  reads_fits : (l : TraceState) (side : Side) (n : ℕ) (p : Place) → Low l → PlaceFits took l.sent p → FitsNext l.sent (reads_next l side n p)
  reads_fits l Client n p k fits = λ may small. placed _ fits.phase fits.host k.few
  reads_fits l Server n p k fits = λ may small. placed _ fits.phase fits.host k.few

  idle_place : (l : TraceState) (p : Phase) → Low l → Idle p l.host → PlaceFits took l.sent (place p l.host)
  idle_place l p k idle = record { phase = outside took l.sent p l.host idle; host = k.host }

  moves_fits : (l : TraceState) (side : Side) (n : ℕ) (bytes : List ℕ) (p : Phase) → Low l → length bytes ≤ 1180000 → Idle p l.host → FitsNext l.sent (moves_next l side n bytes p)
  moves_fits l Client n bytes p k few idle = λ may small. placed _ (outside took _ p l.host idle) k.host (over_few l Client n bytes k may few)
  moves_fits l Server n bytes p k few idle = λ may small. placed _ (outside took _ p l.host idle) k.host (over_few l Server n bytes k may few)

  refused_fits : (l : TraceState) (side : Side) (f : HttpFault) → Low l → l.finished ≡ false → FitsNext l.sent (fault_next g l side f)
  refused_fits l side f k was = by_answer (is_answered side f)
    where
      adds : (s : Side) → to_take (sent_after (Sent ToClient (g.heads.refusal f)) l.sent) took s ≤ to_take l.sent took s + length (g.heads.refusal f)
      adds Client = untaken_more l.sent.client (length (g.heads.refusal f)) took.client
      adds Server = omega arith

      by_answer : (b : Bool) → FitsNext l.sent (fault_by g l f b)
      by_answer true = λ may small. record { phase = tt; host = k.host; few = λ s. (let a = adds s in let few = k.few s in let same = ap low was in let most = heads.refusal f in omega (arith, a, few, same, most)) }
      by_answer false = finish_fits (HttpReason f) l k

  asked_fits : (l : TraceState) (n : ℕ) (r : Result Request HttpFault) → g.heads.request (take n l.client.unread) ≡ r → n ≤ head_limit → Low l → l.finished ≡ false → FitsNext l.sent (request_next g l n r)
  asked_fits l n (Err f) is short k was = refused_fits l Client f k was
  asked_fits l n (Ok r) is short k was =
      let few = heads.request (take n l.client.unread) r (omega (arith, short, length-take n l.client.unread)) is in
      reads_fits l Client n _ k (enter_fits took l.sent g HttpRequest (link_of l.server) (request_host r l.host) (request_fits r l.host few k.host))

  head_fits : (l : TraceState) (p : HeadPart) → ShortHead p → Low l → l.finished ≡ false → FitsNext l.sent (head_next g l p)
  head_fits l (HeadOf n) short k was = asked_fits l n (g.heads.request (take n l.client.unread)) refl short k was
  head_fits l StreamEnds short k was = finish_fits Closed l k
  head_fits l (Faulty f) short k was = refused_fits l Client f k was
  head_fits l NoHead short k was = tt

  interim_fits : (l : TraceState) (n : ℕ) (r : Response) (v : Version) → ResponseWithin read_limit (Some r.head) → Low l → FitsNext l.sent (interim_next g l n r v)
  interim_fits l n r Http10 short k = reads_fits l Server n (place AtResponse l.host) k (idle_place l AtResponse k (tt, tt))
  interim_fits l n r Http11 short k = λ may small. record { phase = tt; host = k.host; few = over_few l Server n (g.heads.interim r) k may (let few = heads.interim r short in omega (arith, few)) }

  status_fits : (l : TraceState) (n : ℕ) (r : Response) (switches interim : Bool) → ResponseWithin read_limit (Some r.head) → Low l → FitsNext l.sent (status_next g l n r switches interim)
  status_fits l n r true interim short k = finish_fits (HttpReason fault.Switching) l k
  status_fits l n r false true short k = interim_fits l n r (asked_version (http_of l.host).came) short k
  status_fits l n r false false short k = reads_fits l Server n _ k (enter_fits took l.sent g HttpResponse (link_of l.server) (response_host r l.host) (response_fits r l.host short k.host))

  answered_fits : (l : TraceState) (n : ℕ) (r : Result Response HttpFault) → g.heads.response (http_of l.host).came (take n (stream_of Server l).unread) ≡ r → n ≤ head_limit → Low l → FitsNext l.sent (response_next g l n r)
  answered_fits l n (Err f) is short k = finish_fits (HttpReason f) l k
  answered_fits l n (Ok r) is short k =
      let few = heads.response (http_of l.host).came (take n (stream_of Server l).unread) r (omega (arith, short, length-take n (stream_of Server l).unread)) is in
      status_fits l n r (nat_eq r.head.status 101) (is_interim r.head) few k

  answer_fits : (l : TraceState) (p : HeadPart) → ShortHead p → Low l → FitsNext l.sent (answer_next g l p)
  answer_fits l (HeadOf n) short k = answered_fits l n (g.heads.response (http_of l.host).came (take n (stream_of Server l).unread)) refl short k
  answer_fits l StreamEnds short k = finish_fits (HttpReason fault.ShortBody) l k
  answer_fits l (Faulty f) short k = finish_fits (HttpReason f) l k
  answer_fits l NoHead short k = tt

  reuse_fits : (l : TraceState) (choices : List Choice) → Low l → FitsNext l.sent (reuse_next g l choices)
  reuse_fits l [] k = tt
  reuse_fits l (Reuses true ∷ more) k = λ may small. record { phase = tt; host = k.host; few = k.few }
  reuse_fits l (Reuses false ∷ more) k = λ may small. record { phase = tt; host = k.host; few = k.few }
  reuse_fits l (PassesOn side n ∷ more) k = tt
  reuse_fits l (Fires side ∷ more) k = tt

  retiring_fits : (l : TraceState) (b : Behind) → Low l → FitsNext l.sent (retiring_next l b)
  retiring_fits l BeforeSelect k = λ may small. record { phase = tt; host = k.host; few = k.few }
  retiring_fits l BehindMessage k = λ may small. placed _ (outside took _ (next_request l.host) l.host (next_request_out l.host l.host)) k.host k.few

  head_idle : (side : Side) (h : HostState) (whole : Bool) → Idle (behind_head side h whole) h
  head_idle side h true = message_out side h
  head_idle side h false = (tt, tt)

  heading_fits : (l : TraceState) (side : Side) → Low l → FitsNext l.sent (heading_next g l side)
  heading_fits l side k = by_side side
    where
      small_head : (side : Side) → length (head_bytes g side (http_of l.host)) ≤ 1180000
      small_head side = let a = heads.sent side (http_of l.host) k.host.heads in let b = payload_few (http_of l.host) in let c = k.host.payload in let e = length-append (g.heads.sent side (http_of l.host)) (payload_part (http_of l.host)) in omega (arith, a, b, c, e)

      by_side : (side : Side) → FitsNext l.sent (heading_next g l side)
      by_side Client = λ may small. placed _ (outside took _ (behind_head Client l.host (http_of l.host).whole) l.host (head_idle Client l.host (http_of l.host).whole)) k.host (over_few l Client 0 (head_bytes g Client (http_of l.host)) k may (small_head Client))
      by_side Server = λ may small. placed _ (outside took _ (behind_head Server l.host (http_of l.host).whole) l.host (head_idle Server l.host (http_of l.host).whole)) k.host (over_few l Server 0 (head_bytes g Server (http_of l.host)) k may (small_head Server))

  one_byte : (bytes : List ℕ) → length (take 1 bytes) ≤ 1
  one_byte bytes = let e = length-take 1 bytes in omega (arith, e)

  body_end_fits : (l : TraceState) (side : Side) (n : ℕ) (counted standing : Bool) → Low l → FitsNext l.sent (body_end_next l side n counted standing)
  body_end_fits l side n true standing k = reads_fits l side n _ k (idle_place l (behind_message side l.host) k (message_out side l.host))
  body_end_fits l side n false standing k = moves_fits l side n (last_line standing) (behind_message side l.host) k (let few = last_few standing in omega (arith, few)) (message_out side l.host)

  sending_fits : (l : TraceState) (side : Side) (s : BodyState) (standing : Bool) (p : Part) → Low l → l.finished ≡ false → FitsNext l.sent (sending_next g l side s standing p)
  sending_fits l side s standing Byte k was = moves_fits l side 1 (take 1 (stream_of side l).unread) (Forwarding side (after_byte s) standing) k (let few = one_byte (stream_of side l).unread in omega (arith, few)) (tt, tt)
  sending_fits l side s standing (Chunk n size) k was = moves_fits l side n (chunk_line standing size) (Forwarding side (body.Chunk size) true) k (let few = line_few standing size in omega (arith, few)) (tt, tt)
  sending_fits l side s standing (End n) k was = body_end_fits l side n (is_counted s) standing k
  sending_fits l side s standing Pending k was = tt
  sending_fits l side s standing (Bad f) k was = refused_fits l side f k was

  gathered_fits : (l : TraceState) (side : Side) (h : HostState) → HostFits h → PlaceFits took l.sent (gathered_place g side (link_of l.server) h)
  gathered_fits l side h u = enter_fits took l.sent g (gather_event side) (link_of l.server) h u

  gathered_on_fits : (l : TraceState) (side : Side) (wanted : ℕ) (s : BodyState) (whole : Bool) (h : HostState) → HostFits h → length (http_of h).payload + wanted ≤ payload_limit → PlaceFits took l.sent (gathered_on g side (link_of l.server) wanted s whole h)
  gathered_on_fits l side wanted s true h u few = gathered_fits l side h u
  gathered_on_fits l side zero s false h u few = gathered_fits l side h u
  gathered_on_fits l side (suc n) s false h u few = record { phase = (few, omega arith); host = u }

  byte_fits : (l : TraceState) (side : Side) (wanted : ℕ) (s : BodyState) (bytes : List ℕ) → HostFits l.host → length (http_of l.host).payload + wanted ≤ payload_limit → 1 ≤ wanted → length bytes ≤ 1 → PlaceFits took l.sent (byte_gathered g side (link_of l.server) wanted s bytes l.host)
  byte_fits l side wanted s bytes u few some one =
      let size = length-append (http_of l.host).payload bytes in
      let less = less_one wanted some in
      gathered_on_fits l side (one_less wanted) s (is_at_end s) (http_at (with_gathered bytes s (http_of l.host)) l.host) (gather_fits bytes s l.host (omega (arith, less, few, one, some)) u) (omega (arith, size, less, few, one))

  gathering_fits : (l : TraceState) (side : Side) (wanted : ℕ) (s : BodyState) (p : Part) → Low l → l.finished ≡ false → length (http_of l.host).payload + wanted ≤ payload_limit → 1 ≤ wanted → FitsNext l.sent (gathering_next g l side wanted s p)
  gathering_fits l side wanted s Byte k was few some = reads_fits l side 1 _ k (byte_fits l side wanted (after_byte s) (take 1 (stream_of side l).unread) k.host few some (one_byte (stream_of side l).unread))
  gathering_fits l side wanted s (Chunk n size) k was few some = reads_fits l side n _ k (record { phase = (few, some); host = k.host })
  gathering_fits l side wanted s (End n) k was few some = reads_fits l side n _ k (gathered_fits l side (http_at (with_whole (http_of l.host)) l.host) (whole_fits l.host k.host))
  gathering_fits l side wanted s Pending k was few some = tt
  gathering_fits l side wanted s (Bad f) k was few some = refused_fits l side f k was

  dropping_fits : (l : TraceState) (s : BodyState) (p : Part) → Low l → l.finished ≡ false → FitsNext l.sent (dropping_next g l s p)
  dropping_fits l s Byte k was = reads_fits l Client 1 _ k (idle_place l (Dropping (after_byte s)) k (tt, tt))
  dropping_fits l s (Chunk n size) k was = reads_fits l Client n _ k (idle_place l (Dropping (body.Chunk size)) k (tt, tt))
  dropping_fits l s (End n) k was = reads_fits l Client n _ k (idle_place l (next_request l.host) k (next_request_out l.host l.host))
  dropping_fits l s Pending k was = tt
  dropping_fits l s (Bad f) k was = refused_fits l Client f k was

  low_of : (l : TraceState) → HostFits l.host → ((side : Side) → to_take l.sent took side ≤ low l.finished) → Low l
  low_of l host few = record { host = host; few = few }

  phase_fits : (p : Phase) (l : TraceState) → HostFits l.host → ((side : Side) → to_take l.sent took side ≤ most l.finished p) → OrderlyIn p l.finished (link_of l.server) → InPhase p l → FitsNext l.sent (phase_next g p l)
  phase_fits (InEvent e bodies) l host few was is = bodies_fit e bodies l (low_of l host few) is
  phase_fits AtHead l host few was is = head_fits l (head_part l.client.unread l.client.ended) (head_short l.client.unread l.client.ended) (low_of l host few) was
  phase_fits Continuing l host few was is = λ may small. placed _ (outside took _ (behind_asked (link_of l.server) l.host) l.host (asked_out (link_of l.server) l.host host.payload)) host (over_few l Server 0 continue_text (low_of l host few) may (omega arith))
  phase_fits (Gathering side wanted s) l host few was is = gathering_fits l side wanted s (part_of s (stream_of side l).unread (stream_of side l).ended) (low_of l host few) was.0 is.0 is.1
  phase_fits AtReuse l host few was is = reuse_fits l l.answers.choices (low_of l host few)
  phase_fits (GivingUp b) l host few was is = λ may small. (let p = giving_up_fits took l.sent g b l.host host in placed _ p.phase p.host few)
  phase_fits (Retiring b) l host few was is = retiring_fits l b (low_of l host few)
  phase_fits (Heading side) l host few was is = heading_fits l side (low_of l host few)
  phase_fits (Forwarding side s standing) l host few was is = sending_fits l side s standing (part_of s (stream_of side l).unread (stream_of side l).ended) (low_of l host few) was.0
  phase_fits (Dropping s) l host few was is = dropping_fits l s (part_of s l.client.unread l.client.ended) (low_of l host few) was
  phase_fits AtResponse l host few was is = answer_fits l (head_part (stream_of Server l).unread (stream_of Server l).ended) (head_short (stream_of Server l).unread (stream_of Server l).ended) (low_of l host few)
  phase_fits Choosing l host few was is = choosing_fits l (with_selected None l.host) l.host.net.target (low_of l host few) (host_selected None l.host host)
  phase_fits (Selecting call) l host few was is = selecting_fits call l l.answers.replies (low_of l host few)
  phase_fits (Connecting a) l host few was is = λ may small. record { phase = tt; host = host; few = few }
  phase_fits (Answering a) l host few was is = answering_fits l l.answers.connects (low_of l host few)
  phase_fits Releasing l host few was is = λ may small.
      record { phase = tt; host = unloosed_fits l.host host; few = over_few l Client 0 l.host.net.loose (low_of l host few) may (let f = loose_few l.host host in omega (arith, f)) }
  phase_fits Relaying l host few was is = relay_fits l (relay_act (incoming Client l) (incoming Server l) l.answers.choices) (low_of l host few) (relay_asks l l.answers.choices)
  phase_fits Collecting l host few was is = collecting_fits l l.host.net.client.asks refl (low_of l host few)
  phase_fits (Finishing r) l host few was is = finish_high r l host few
  phase_fits Draining l host few was is = tt

  -- ---- with a cut

  cut_finish : (r : Reason) (l : TraceState) → Fits l → FitsNext l.sent (finish g r (uncut l))
  cut_finish r l k = λ may small. (let p = closed_fits took l.sent g (link_of l.server) l.host k.host in placed _ p.phase p.host (λ s. (let f = k.few s in let n = most_high l.finished l.phase in omega (arith, f, n))))

  cut_fits : (l : TraceState) (cut : Option Cut) (o : Next) → Fits l → FitsNext l.sent o → FitsNext l.sent (cut_next g cut l o)
  cut_fits l None o k is = is
  cut_fits l (Some c) o k is = by_end l.finished
    where
      by_place : (o : Next) → FitsNext l.sent o → FitsNext l.sent (cut_open g c l o)
      by_place (Does i m) is = by_test (may_give i l.sent c.took || not (cut_takes g.http c.reason None))
        where
          by_test : (b : Bool) → FitsNext l.sent (if b then Does i m else finish g (CutBy c.reason) (uncut l))
          by_test true = is
          by_test false = cut_finish (CutBy c.reason) l k
      by_place (Waits w) is = by_test (cut_takes g.http c.reason (Some w))
        where
          by_test : (b : Bool) → FitsNext l.sent (if b then finish g (CutBy c.reason) (uncut l) else Waits w)
          by_test true = cut_finish (CutBy c.reason) l k
          by_test false = tt
      by_place Over is = tt

      by_end : (b : Bool) → FitsNext l.sent (if b then o else cut_open g c l o)
      by_end true = is
      by_end false = by_place o is

  -- the item that comes, with what was sent counted
  abbrev FitsBehind : Counts → Next → Type 0
  FitsBehind sent (Does i m) = may_give i sent took ≡ true → passed_by i ≤ unread_limit → Fits m
  FitsBehind sent (Waits w) = Unit {0}
  FitsBehind sent Over = Unit {0}

  counted_fits : (sent : Counts) (o : Next) → FitsNext sent o → FitsBehind sent (counted sent o)
  counted_fits sent (Does i m) is = is
  counted_fits sent (Waits w) is = tt
  counted_fits sent Over is = tt

  item_fits : (l m : TraceState) (i : Item) → Fits l → Orderly l → next_item g l ≡ Does i m → may_give i l.sent took ≡ true → passed_by i ≤ unread_limit → Fits m
  unfolding next_item
  item_fits l m i k was is = subst (FitsBehind l.sent) is (counted_fits l.sent _ (cut_fits l l.answers.cut (phase_next g l.phase l) k (phase_fits l.phase l k.host k.few was k.phase)))

  items_fit : (l m : TraceState) (items : List Item) → Fits l → Orderly l → Unfolds g l items m → Met l.sent took items → PassWithin unread_limit items → Fits m
  items_fit l m [] k was is met small = subst Fits is k
  items_fit l m (i ∷ items) k was (mid, step, rest) met small =
      items_fit mid m items (item_fits l mid i k was step met.0 small.0) (steps g l mid i was step).orderly rest (subst (λ s. Met s took items) (sym (sent_step g l mid i step)) met.1) small.1

  start_fits : (client : Stream) (answers : Answers) → Fits (start g client answers)
  start_fits client answers = let p = enter_fits took no_bytes g ClientAccepted Absent (first_host g) (first_fits g) in placed _ p.phase p.host none
    where
      none : (side : Side) → to_take no_bytes took side ≤ low false
      none Client = let n = none_untaken took.client in omega (arith, n)
      none Server = let n = none_untaken (taken_of took.servers 0) in omega (arith, n)

pub pending_bounded : (g : Setup) → HeadsFit g → (client : Stream) (answers : Answers) (m : TraceState) (items : List Item) (took : TakenCounts) (side : Side) → Unfolds g (start g client answers) items m → Met no_bytes took items → PassWithin unread_limit items
    → to_take (sent_from no_bytes items) took side < pending_limit
pending_bounded g heads client answers m items took side is met small =
    let fits = items_fit g heads took (start g client answers) m items (start_fits g heads took client answers) (start_orderly g client answers) is met small in
    let few = fits.few side in
    let high = most_high m.finished m.phase in
    let same = ap (λ s. to_take s took side) (sent_counted g (start g client answers) m items is) in
    omega (arith, few, high, same)
