-- Where an action outside of bodies leads: a body has just begun there, or none runs; and no more than sixteen
-- such actions are made one after another without a note.
use Rattle.std.proofs.Common.{◌≡◌, ◌⊎◌, ◌≤◌, inl, inr, refl, sym, ap, subst, ◌∙◌, ℕ, zero, suc, ◌+◌, ◌-◌, ◌*◌, min, List, [], ◌∷◌, ◌++◌, length, length-append, append-nil, take, drop, nat_lt, Bool, true, false, true≢false, Option, Some, None, Result, Ok, Err, if◌then◌else◌, arith}
use Rattle.std.specs.Option.{is_some}
use Rattle.std.specs.Prelude.{option_map}
use Rattle.std.specs.Bool.{MatchBool}
use Rattle.px_bytes.specs.declared.addr.Addr.{Addr}
use Rattle.px_bytes.specs.declared.fault.FaultKind.{FaultKind}
use Rattle.px_bytes.specs.declared.addr.Side.TheVariants.{Client}
use Rattle.px_bytes.specs.declared.fault.HttpFault.{HttpFault}
use Rattle.px_bytes.specs.declared.fault.TclFault.{TclFault}
use Rattle.http_answers.specs.Refusals.{continue_text, refusal}
use Rattle.http_frames.specs.Parts.{Part, Byte, Chunk, End, Pending, Bad, part_of}
use Rattle.http_frames.specs.declared.state.BodyState.{BodyState}
use Rattle.http_messages.specs.Messages.{request_of}
use Rattle.irule_http.specs.Sent.{client_closes}
use Rattle.irule_http.specs.State.{expects_by}
use Rattle.irule_http.specs.declared.state.Request.{Request}
use Rattle.http_heads.specs.declared.front.HeadPart.{HeadPart}
use Rattle.http_heads.specs.declared.front.HeadPart.TheVariants.{HeadOf, StreamEnds, Faulty, NoHead}
use Rattle.http_heads.specs.Fronts.{head_part}
use Rattle.conn_trace.specs.Host.{http_known}
use Rattle.conn_trace.specs.Fronts.{after_byte}
use Rattle.conn_trace.specs.Http.{wanted_more, with_gathered, with_whole}
use Rattle.irule_http.specs.Payload.{payload_limit}
use Rattle.conn_trace.specs.Places.{http_begun}
use Rattle.conn_trace.specs.SentBodies.{is_answered}
use Rattle.core_events.specs.declared.note.CutReason.{CutReason}
use Rattle.core_events.specs.declared.note.Note.{Note}
use Rattle.conn_trace.specs.Relay.{meets}
use Rattle.conn_trace.specs.Setup.{Handler, uncaught_line}
use Rattle.irule_http.specs.declared.state.Http.{Http}
use Rattle.irule_net.specs.declared.state.Selected.{Selected}
use Rattle.conn.specs.Acted.{Acted, ActedAt}
use Rattle.conn.specs.Acts.{cut_by, is_server}
use Rattle.conn.specs.Acts.{AnswersBy, BehindFault, CollectsBy, RelaysBy, Rests, RestsBy, cut_of, has_room, Connects}
use Rattle.conn.specs.Acts.{DropsBy, HeadBy, RefusesBy, RequestBy, SendsClient, client_room, dropped}
use Rattle.conn.specs.Bodies.{Fresh}
use Rattle.conn.specs.Changes.{Closes, ClosesClient, ClosesServer, Enters, GoesTo, Leaves, NextBody, StartsBody, left_stage}
use Rattle.conn.specs.Choosing.{ChoosesBy, TakesChosen, plan_of}
use Rattle.conn.specs.Ends.{end_of, is_sought, is_up}
use Rattle.conn.specs.Events.{event_of, gathered_at, is_closing}
use Rattle.conn.specs.Hosts.{begun_host, requested_host}
use Rattle.conn.specs.Relaying.{Releases, read_ends, relay_plan, round_begun}
use Rattle.conn.specs.Setups.{places_at}
use Rattle.conn.specs.Stages.{asked_stage, connected_stage, connecting_stage, entered_by, failed_stage, gathering_stage, has_body, headed_stage, http_in, is_running, leaving_stage, loose_stage, request_data_stage, message_stage, next_by, next_stage, request_stage, response_stage, retired_stage, routed_stage, spent_stage, unless_ended}
use Rattle.conn_trace.specs.Messages.{is_counted, is_interim}
use Rattle.conn_trace.specs.Routing.{is_left, is_spent_link}
use Rattle.conn_trace.specs.SentBodies.{last_line}
use Rattle.irule_http.specs.declared.state.Response.{Response}
use Rattle.px_bytes.specs.declared.addr.Side.{Side}
use Rattle.conn.specs.Changes.{LeavesServer}
use Rattle.conn.specs.Forwarding.{Passage, answer_of, ends_room, part_at, switches}
use Rattle.conn.specs.Gathering.{part_there}
use Rattle.conn.specs.Gathering as intake
use Rattle.conn.specs.Hosts.{responded_host, seen_host}
use Rattle.conn.specs.Messages.{AnswerBy, Becomes, EndsBy, FrontBy, Retires, StatusBy, head_bytes, is_whole, passed_to, with_ends}
use Rattle.conn.specs.Relaying.{moved_as}
use Rattle.conn.specs.Servers.{closed_notes}
use Rattle.conn.specs.declared.ends.Behind.{Behind}
use Rattle.conn.specs.declared.ends.Behind.TheVariants as behind
use Rattle.conn.specs.declared.response.Answer.{Answer}
use Rattle.conn.specs.declared.response.Answer.TheVariants as answer
use Rattle.conn.proofs.Going.{asked_no_body, headed_no_body, message_no_body, next_no_body, retired_no_body, reuse_no_body}
use Rattle.conn.specs.Steps.{GoesOn, ended_of}
use Rattle.conn.specs.declared.connection.Conn.{Conn}
use Rattle.conn.specs.declared.ends.Ends.{Ends}
use Rattle.conn.specs.declared.ends.Link.{Link}
use Rattle.conn.specs.declared.ends.Link.TheVariants as link
use Rattle.conn.specs.declared.events.At.{At}
use Rattle.conn.specs.declared.events.At.TheVariants as event
use Rattle.conn.specs.declared.host.RuleHost.{RuleHost}
use Rattle.conn.specs.declared.relay.Relay.{Relay}
use Rattle.conn.specs.declared.relay.Relay.TheVariants as relay
use Rattle.conn.specs.declared.select.Plan.{Plan}
use Rattle.conn.specs.declared.select.Plan.TheVariants as plan
use Rattle.conn.specs.declared.setup.Place.{Place}
use Rattle.conn.specs.declared.setup.Setup as code
use Rattle.conn.specs.declared.stage.Finish.TheVariants as finish
use Rattle.conn.specs.declared.stage.Stage.{Stage}
use Rattle.conn.specs.declared.stage.Stage.TheVariants as stage
use Rattle.conn.specs.declared.turn.Act.{Act}
use Rattle.conn.specs.declared.turn.Act.TheVariants as done
use Rattle.conn.proofs.Fitting.{after_no_body, entered_no_body}
use Rattle.conn.proofs.Releasing.{server_room}
use Rattle.seg_buffer.specs.Bytes.{is_empty}
use Rattle.conn.specs.Queues.{queue_in}
use Rattle.px_bytes.specs.declared.addr.Side.TheVariants.{Server}

-- its body has just begun
pub record BodyBegins (c : Conn) (budget : ℕ) : Type 0 where
  pub runs : is_running c.stage ≡ true
  pub fresh : Fresh c.body budget

abbrev pub Starts : code.Setup → Conn → Type 0
Starts s c = (has_body c.stage ≡ false) ⊎ BodyBegins c s.budget

starts_body : (s : code.Setup) (at : At) (n : ℕ) (old new : Conn) → StartsBody s at n old new → Starts s new
starts_body s at n old new k = inr (record { runs = ap is_running k.there; fresh = k.fresh })

goes_to : (s : code.Setup) (st : Stage) (old new : Conn) → has_body st ≡ false → GoesTo st old new → Starts s new
goes_to s st old new calm k = inl (ap has_body k.there ∙ calm)

closes_client : (s : code.Setup) (old new : Conn) → ClosesClient s old new → Starts s new
closes_client s old new k = by_test (nat_lt 0 (length (places_at s event.Closed))) k.goes
  where
    by_test : (b : Bool) → MatchBool b (StartsBody s event.Closed 0 k.mid new) (GoesTo stage.Draining k.mid new) → Starts s new
    by_test true c = starts_body s event.Closed 0 k.mid new c
    by_test false c = goes_to s stage.Draining k.mid new refl c

leaves : (s : code.Setup) (at : At) (old new : Conn) → Leaves s at old new → Starts s new
leaves s event.Accepted old new k = goes_to s (left_stage event.Accepted old) old new (after_no_body event.Accepted old.ends.link old.host) k
leaves s event.ClientData old new k = goes_to s (left_stage event.ClientData old) old new (after_no_body event.ClientData old.ends.link old.host) k
leaves s event.Selected old new k = goes_to s (left_stage event.Selected old) old new (after_no_body event.Selected old.ends.link old.host) k
leaves s event.Failed old new k = goes_to s (left_stage event.Failed old) old new (after_no_body event.Failed old.ends.link old.host) k
leaves s event.Connected old new k = goes_to s (left_stage event.Connected old) old new (after_no_body event.Connected old.ends.link old.host) k
leaves s event.Request old new k = goes_to s (left_stage event.Request old) old new (after_no_body event.Request old.ends.link old.host) k
leaves s event.RequestData old new k = goes_to s (left_stage event.RequestData old) old new (after_no_body event.RequestData old.ends.link old.host) k
leaves s event.Response old new k = goes_to s (left_stage event.Response old) old new (after_no_body event.Response old.ends.link old.host) k
leaves s event.ResponseData old new k = goes_to s (left_stage event.ResponseData old) old new (after_no_body event.ResponseData old.ends.link old.host) k
leaves s event.Leaving old new k = goes_to s (left_stage event.Leaving old) old new (after_no_body event.Leaving old.ends.link old.host) k
leaves s event.ServerData old new k = goes_to s (left_stage event.ServerData old) old new (after_no_body event.ServerData old.ends.link old.host) k
leaves s event.ServerClosed old new k = closes_client s old new k
leaves s event.Closed old new k = goes_to s (left_stage event.Closed old) old new (after_no_body event.Closed old.ends.link old.host) k

next : (s : code.Setup) (at : At) (n : ℕ) (old new : Conn) → NextBody s at n old new → Starts s new
next s at n old new k = by_test (nat_lt n (length (places_at s at))) k
  where
    by_test : (b : Bool) → MatchBool b (StartsBody s at n old new) (Leaves s at old new) → Starts s new
    by_test true c = starts_body s at n old new c
    by_test false c = leaves s at old new c

closes : (s : code.Setup) (old new : Conn) → Closes s old new → Starts s new
closes s old new k = by_test (is_sought old.ends.link) k
  where
    by_test : (b : Bool) → MatchBool b (ClosesServer s old new) (ClosesClient s old new) → Starts s new
    by_test true c = next s event.ServerClosed 0 c.mid new c.goes
    by_test false c = closes_client s old new c

behind_fault : (s : code.Setup) (at : At) (n : ℕ) (kind : FaultKind) (old new : Conn) → BehindFault s at n kind old new → Starts s new
behind_fault s at n kind old new k = by_test (is_closing at) k
  where
    by_test : (b : Bool) → MatchBool b (NextBody s at n old new) (GoesTo (stage.Finishing (finish.Fault kind)) old new) → Starts s new
    by_test true c = next s at n old new c
    by_test false c = goes_to s (stage.Finishing (finish.Fault kind)) old new refl c

enters : (s : code.Setup) (at : At) (h : RuleHost) (e : Ends) (old new : Conn) → Enters s at h e old new → Starts s new
enters s at h e old new k = inl (ap has_body k.there ∙ entered_no_body at e.link new.host (places_at s at))

-- behind a body that ended
pub ended_starts : (s : code.Setup) (h : Handler) (at : At) (n : ℕ) (mid new : Conn) (f : Option TclFault) (did : Act) → GoesOn s at n (ended_of h at f) mid new did → Starts s new
ended_starts s h at n mid new None did k = next s at (n + 1) mid new k.1
ended_starts s h at n mid new (Some fault) did k = goes_to s (stage.Failing at (n + 1) fault.kind (uncaught_line h.rule (event_of at) fault.text)) mid new refl k.1

-- How many actions may come without a note before a body runs, or bytes are passed on. Where a rule has answered the
-- request at hand LB_FAILED without bodies drops what is left of it; the next request isn't answered yet.
abbrev pub rank : Stage → (answered : Bool) → ℕ
rank (stage.Gated at) answered = 1
rank stage.Choosing answered = if answered then 9 else 2
rank (stage.Chosen addr) answered = if answered then 9 else 2
rank (stage.Retiring behind.BeforeSelect) answered = if answered then 10 else 3
rank (stage.GivingUp behind.BeforeSelect) answered = if answered then 11 else 4
rank (stage.Gathering Client wanted reader) answered = if answered then 12 else 5
rank stage.Continuing answered = if answered then 13 else 6
rank stage.AtHead answered = 7
rank (stage.Dropping reader) answered = 8
rank (stage.Retiring behind.BehindMessage) answered = 8
rank (stage.GivingUp behind.BehindMessage) answered = 9
rank (stage.Forwarding Server reader standing) answered = 10
rank (stage.Heading Server) answered = 11
rank (stage.Gathering Server wanted reader) answered = 12
rank stage.AtResponse answered = 13
rank (stage.Forwarding Client reader standing) answered = 14
rank (stage.Heading Client) answered = 15
rank (stage.Answering to) answered = 16
rank stage.Releasing answered = 1
rank other answered = 0

abbrev pub is_answered_in : RuleHost → Bool
is_answered_in h = is_some (http_in h).answer

abbrev pub rank_of : Conn → ℕ
rank_of c = rank c.stage (is_answered_in c.host)

few_by : (b : Bool) (x y : ℕ) → x ≤ 16 → y ≤ 16 → (if b then x else y) ≤ 16
few_by true x y p q = p
few_by false x y p q = q

pub rank_few : (st : Stage) (answered : Bool) → rank st answered ≤ 16
rank_few (stage.Gated at) answered = omega arith
rank_few stage.Choosing answered = few_by answered 9 2 (omega arith) (omega arith)
rank_few (stage.Chosen addr) answered = few_by answered 9 2 (omega arith) (omega arith)
rank_few (stage.Retiring behind.BeforeSelect) answered = few_by answered 10 3 (omega arith) (omega arith)
rank_few (stage.GivingUp behind.BeforeSelect) answered = few_by answered 11 4 (omega arith) (omega arith)
rank_few (stage.Gathering Client wanted reader) answered = few_by answered 12 5 (omega arith) (omega arith)
rank_few (stage.Gathering Server wanted reader) answered = omega arith
rank_few stage.Continuing answered = few_by answered 13 6 (omega arith) (omega arith)
rank_few stage.AtHead answered = omega arith
rank_few (stage.Dropping reader) answered = omega arith
rank_few (stage.Retiring behind.BehindMessage) answered = omega arith
rank_few (stage.GivingUp behind.BehindMessage) answered = omega arith
rank_few (stage.Forwarding Server reader standing) answered = omega arith
rank_few (stage.Heading Server) answered = omega arith
rank_few stage.AtResponse answered = omega arith
rank_few (stage.Forwarding Client reader standing) answered = omega arith
rank_few (stage.Heading Client) answered = omega arith
rank_few (stage.Answering to) answered = omega arith
rank_few stage.Releasing answered = omega arith
rank_few other answered = omega arith

-- where a server is selected or asked for
abbrev high : Bool → ℕ
high answered = if answered then 9 else 2

high_few : (answered : Bool) → high answered ≤ 9
high_few true = omega arith
high_few false = omega arith

below_high : (answered : Bool) (n : ℕ) → n ≤ 1 → n + 1 ≤ high answered
below_high true n low = omega (arith, low)
below_high false n low = omega (arith, low)

-- an event is entered at which no body has run yet
record EntersLow (at : At) : Type 0 where
  low : (k : Link) (host : RuleHost) (up : Bool) (new : RuleHost) (ps : List Place) → new ≡ begun_host at up host → rank (entered_by at k new ps) (is_answered_in new) + 1 ≤ high (is_answered_in new)

connecting_low : (o : Option Selected) (answered : Bool) → rank (connecting_stage o) answered ≤ 1
connecting_low None answered = omega arith
connecting_low (Some s) answered = omega arith

loose_low : (loose : List ℕ) (answered : Bool) → rank (loose_stage loose) answered ≤ 1
loose_low [] answered = omega arith
loose_low (b ∷ bs) answered = omega arith

connected_low : (http : Bool) (loose : List ℕ) (answered : Bool) → rank (connected_stage http loose) answered ≤ 15
connected_low true loose answered = omega arith
connected_low false loose answered = let k = loose_low loose answered in omega (arith, k)

low_by : (at : At) (k : Link) (host : RuleHost) (up : Bool) (new : RuleHost) (ps : List Place) → new ≡ begun_host at up host → (let h = begun_host at up host in rank (entered_by at k h ps) (is_answered_in h) + 1 ≤ high (is_answered_in h)) → rank (entered_by at k new ps) (is_answered_in new) + 1 ≤ high (is_answered_in new)
low_by at k host up new ps is low = subst (λ n. rank (entered_by at k n ps) (is_answered_in n) + 1 ≤ high (is_answered_in n)) (sym is) low

failed_rank : (answer : Option Bool) (http : Http) → rank (failed_stage answer false http) (is_some answer) + 1 ≤ high (is_some answer)
failed_rank None http = omega arith
failed_rank (Some closing) http = omega arith

failed_low : EntersLow event.Failed
failed_low = record { low = λ k host up new ps is. low_by event.Failed k host up new ps is (by_places k host up ps) }
  where
    by_places : (k : Link) (host : RuleHost) (up : Bool) (ps : List Place) → (let h = begun_host event.Failed up host in rank (entered_by event.Failed k h ps) (is_answered_in h) + 1 ≤ high (is_answered_in h))
    by_places k host up [] = failed_rank (http_in (begun_host event.Failed up host)).answer (http_in (begun_host event.Failed up host))
    by_places k host up (p ∷ ps) = below_high (is_answered_in (begun_host event.Failed up host)) 1 (omega arith)

selected_low : EntersLow event.Selected
selected_low = record { low = λ k host up new ps is. low_by event.Selected k host up new ps is (by_places k host up ps) }
  where
    by_places : (k : Link) (host : RuleHost) (up : Bool) (ps : List Place) → (let h = begun_host event.Selected up host in rank (entered_by event.Selected k h ps) (is_answered_in h) + 1 ≤ high (is_answered_in h))
    by_places k host up [] = below_high (is_answered_in (begun_host event.Selected up host)) _ (connecting_low host.net.selected (is_answered_in (begun_host event.Selected up host)))
    by_places k host up (p ∷ ps) = below_high (is_answered_in (begun_host event.Selected up host)) 1 (omega arith)

connects_low : (k : Link) (new : RuleHost) (ps : List Place) → new.net.wishes.ends ≡ None → rank (entered_by event.Connected k new ps) (is_answered_in new) ≤ 15
connects_low k new [] none =
    subst (λ o. rank (unless_ended o (connected_stage (is_some new.http) new.net.loose)) (is_answered_in new) ≤ 15) (sym none) (connected_low (is_some new.http) new.net.loose (is_answered_in new))
connects_low k new (p ∷ ps) none = omega arith

-- an event leaves whether a rule has answered; a request that begins isn't answered
answered_still : (at : At) (up : Bool) (h : RuleHost) → is_answered_in (begun_host at up h) ≡ is_answered_in h
answered_still at up h = by_http h.http
  where
    by_http : (o : Option Http) → is_some (http_known (option_map (http_begun h.net) o)).answer ≡ is_some (http_known o).answer
    by_http None = refl
    by_http (Some http) = refl

-- a request that was read
routed_low : (up left answered : Bool) → rank (routed_stage up left) answered ≤ (if answered then 11 else 4)
routed_low false left true = omega arith
routed_low false left false = omega arith
routed_low true true true = omega arith
routed_low true true false = omega arith
routed_low true false true = omega arith
routed_low true false false = omega arith

gathering_low : (side : Side) (n : ℕ) (http : Http) (st : Stage) (answered : Bool) → rank st answered + 1 ≤ rank (stage.Gathering side 1 http.reader) answered → rank (gathering_stage side n http st) answered ≤ rank (stage.Gathering side 1 http.reader) answered
gathering_low side zero http st answered low = omega (arith, low)
gathering_low Client (suc n) http st answered low = omega arith
gathering_low Server (suc n) http st answered low = omega arith

below_gathering : (up left answered : Bool) (reader : BodyState) → rank (routed_stage up left) answered + 1 ≤ rank (stage.Gathering Client 1 reader) answered
below_gathering up left true reader = let k = routed_low up left true in omega (arith, k)
below_gathering up left false reader = let k = routed_low up left false in omega (arith, k)

asked_low : (k : Link) (h : RuleHost) (answered : Bool) → rank (asked_stage k h) answered ≤ (if answered then 12 else 5)
asked_low k h answered = gathering_low Client (wanted_more (http_in h)) (http_in h) (routed_stage (is_up k) (is_left (seen_host h))) answered (below_gathering (is_up k) (is_left (seen_host h)) answered (http_in h).reader)

begins_low : (expects : Bool) (k : Link) (h : RuleHost) → rank (request_stage None expects k h) false ≤ 6
begins_low true k h = omega arith
begins_low false k h = let low = asked_low k h false in omega (arith, low)

request_low : (k : Link) (r : Request) (host : RuleHost) (up : Bool) (new : RuleHost) (ps : List Place) → new ≡ begun_host event.Request up (requested_host r host) → rank (entered_by event.Request k new ps) (is_answered_in new) ≤ 6
request_low k r host up new ps is = subst (λ n. rank (entered_by event.Request k n ps) (is_answered_in n) ≤ 6) (sym is) (by_places ps)
  where
    by_places : (ps : List Place) → rank (entered_by event.Request k (begun_host event.Request up (requested_host r host)) ps) false ≤ 6
    by_places [] = begins_low (expects_by (http_in (begun_host event.Request up (requested_host r host))).came) k (begun_host event.Request up (requested_host r host))
    by_places (p ∷ ps) = omega arith

-- and a response
answered_low : (answer : Option Bool) (http : Http) (answered : Bool) → rank (response_stage answer http) answered ≤ 12
answered_low (Some closing) http answered = omega arith
answered_low None http answered = gathering_low Server (wanted_more http) http (stage.Heading Server) answered (omega arith)

response_low : (k : Link) (r : Response) (host : RuleHost) (up : Bool) (new : RuleHost) (ps : List Place) → new ≡ begun_host event.Response up (responded_host r host) → rank (entered_by event.Response k new ps) (is_answered_in new) ≤ 12
response_low k r host up new ps is = subst (λ n. rank (entered_by event.Response k n ps) (is_answered_in n) ≤ 12) (sym is) (by_places ps)
  where
    by_places : (ps : List Place) → (let h = begun_host event.Response up (responded_host r host) in rank (entered_by event.Response k h ps) (is_answered_in h) ≤ 12)
    by_places [] = let h = begun_host event.Response up (responded_host r host) in answered_low (http_in h).answer (http_in h) (is_answered_in h)
    by_places (p ∷ ps) = omega arith

-- behind what was gathered nothing more is collected, where no body asked for it
wanted_none : (at : At) (up : Bool) (h : RuleHost) → wanted_more (http_in (begun_host at up h)) ≡ 0
wanted_none at up h = by_http h.http
  where
    by_whole : (b : Bool) (n : ℕ) → (if b then 0 else min 0 n) ≡ 0
    by_whole true n = refl
    by_whole false n = omega arith

    by_http : (o : Option Http) → wanted_more (http_known (option_map (http_begun h.net) o)) ≡ 0
    by_http None = refl
    by_http (Some x) = by_whole x.whole (payload_limit - length x.payload)

request_data_low : (answer : Option Bool) (k : Link) (h : RuleHost) (reader : BodyState) → wanted_more (http_in h) ≡ 0 → rank (request_data_stage answer k h) (is_some answer) + 1 ≤ rank (stage.Gathering Client 1 reader) (is_some answer)
request_data_low (Some closing) k h reader none = omega arith
request_data_low None k h reader none =
    let st = routed_stage (is_up k) (is_left (seen_host h)) in
    let low = below_gathering (is_up k) (is_left (seen_host h)) false reader in
    subst (λ n. rank (gathering_stage Client n (http_in h) st) false + 1 ≤ 5) (sym none) low

response_data_low : (answer : Option Bool) (http : Http) (answered : Bool) → wanted_more http ≡ 0 → rank (response_stage answer http) answered + 1 ≤ 12
response_data_low (Some closing) http answered none = omega arith
response_data_low None http answered none = subst (λ n. rank (gathering_stage Server n http (stage.Heading Server)) answered + 1 ≤ 12) (sym none) (omega arith)

gathered_low : (side : Side) (k : Link) (host : RuleHost) (up : Bool) (new : RuleHost) (ps : List Place) (reader : BodyState) → new ≡ begun_host (gathered_at side) up host → rank (entered_by (gathered_at side) k new ps) (is_answered_in new) + 1 ≤ rank (stage.Gathering side 1 reader) (is_answered_in new)
gathered_low side k host up new ps reader is = subst (λ n. rank (entered_by (gathered_at side) k n ps) (is_answered_in n) + 1 ≤ rank (stage.Gathering side 1 reader) (is_answered_in n)) (sym is) (by_side side ps)
  where
    gate_low : (x : Side) (answered : Bool) → 1 + 1 ≤ rank (stage.Gathering x 1 reader) answered
    gate_low Client true = omega arith
    gate_low Client false = omega arith
    gate_low Server answered = omega arith

    by_side : (x : Side) (qs : List Place) → (let h = begun_host (gathered_at x) up host in rank (entered_by (gathered_at x) k h qs) (is_answered_in h) + 1 ≤ rank (stage.Gathering x 1 reader) (is_answered_in h))
    by_side x (q ∷ qs) = gate_low x (is_answered_in (begun_host (gathered_at x) up host))
    by_side Client [] = let h = begun_host event.RequestData up host in request_data_low (http_in h).answer k h reader (wanted_none event.RequestData up host)
    by_side Server [] = let h = begun_host event.ResponseData up host in response_data_low (http_in h).answer (http_in h) (is_answered_in h) (wanted_none event.ResponseData up host)

gathering_same : (side : Side) (m n : ℕ) (r q : BodyState) (answered : Bool) → rank (stage.Gathering side m r) answered ≡ rank (stage.Gathering side n q) answered
gathering_same Client m n r q answered = refl
gathering_same Server m n r q answered = refl

gathering_few : (side : Side) (n : ℕ) (r : BodyState) (answered : Bool) → 1 ≤ rank (stage.Gathering side n r) answered
gathering_few Client n r true = omega arith
gathering_few Client n r false = omega arith
gathering_few Server n r answered = omega arith

-- what was gathered leaves whether a rule has answered
unit_answer : (side : Side) (p q : intake.Gathered) → intake.GathersUnit side p q → q.http.answer ≡ p.http.answer
unit_answer side p q (intake.Piece n k) = refl
unit_answer side p q (intake.Line line size k) = refl

gathers_answer : (side : Side) (from p : intake.Gathered) → intake.Gathers side from p → p.http.answer ≡ from.http.answer
gathers_answer side from p intake.NoneYet = refl
gathers_answer side from p (intake.Then m q g u) = unit_answer side m q u ∙ gathers_answer side from m g

one_above : (answered : Bool) (n : ℕ) → n ≤ (if answered then 12 else 5) → n + 1 ≤ rank stage.Continuing answered
one_above true n low = omega (arith, low)
one_above false n low = omega (arith, low)

next_low : (closes answered : Bool) → rank (next_by closes) answered ≤ 7
next_low true answered = omega arith
next_low false answered = omega arith

message_low : (side : Side) (h : RuleHost) (answered : Bool) → rank (message_stage side h) answered ≤ 13
message_low Client h answered = omega arith
message_low Server h answered = by_spent (is_spent_link (seen_host h))
  where
    by_spent : (x : Bool) → rank (spent_stage x (http_in h)) answered ≤ 13
    by_spent true = omega arith
    by_spent false = let k = next_low (client_closes (http_in h)) answered in omega (arith, k)

server_low : (h : RuleHost) (answered : Bool) → rank (message_stage Server h) answered ≤ 9
server_low h answered = by_spent (is_spent_link (seen_host h))
  where
    by_spent : (x : Bool) → rank (spent_stage x (http_in h)) answered ≤ 9
    by_spent true = omega arith
    by_spent false = let k = next_low (client_closes (http_in h)) answered in omega (arith, k)

-- behind a message of a side, and behind its head
below_body : (side : Side) (reader : BodyState) (standing : Bool) (h : RuleHost) (answered : Bool) → rank (message_stage side h) answered + 1 ≤ rank (stage.Forwarding side reader standing) answered
below_body Client reader standing h answered = omega arith
below_body Server reader standing h answered = let k = server_low h answered in omega (arith, k)

below_head : (side : Side) (h : RuleHost) (answered whole : Bool) → rank (headed_stage side h whole) answered + 1 ≤ rank (stage.Heading side) answered
below_head Client h answered true = omega arith
below_head Client h answered false = omega arith
below_head Server h answered true = let k = server_low h answered in omega (arith, k)
below_head Server h answered false = omega arith

body_few : (side : Side) (reader : BodyState) (standing answered : Bool) → 1 ≤ rank (stage.Forwarding side reader standing) answered
body_few Client reader standing answered = omega arith
body_few Server reader standing answered = omega arith

body_same : (side : Side) (r q : BodyState) (x y answered : Bool) → rank (stage.Forwarding side r x) answered ≡ rank (stage.Forwarding side q y) answered
body_same Client r q x y answered = refl
body_same Server r q x y answered = refl

-- and where a server connection is given up
retired_low : (w : Behind) (http : Http) (answered : Bool) → rank (retired_stage w http) answered + 1 ≤ rank (stage.Retiring w) answered
retired_low behind.BeforeSelect http true = omega arith
retired_low behind.BeforeSelect http false = omega arith
retired_low behind.BehindMessage http answered = let k = next_low (client_closes http) answered in omega (arith, k)

gives_low : (w : Behind) (answered : Bool) → rank (stage.Retiring w) answered + 1 ≤ rank (stage.GivingUp w) answered
gives_low behind.BeforeSelect true = omega arith
gives_low behind.BeforeSelect false = omega arith
gives_low behind.BehindMessage answered = omega arith

gives_few : (w : Behind) (answered : Bool) → 1 ≤ rank (stage.GivingUp w) answered
gives_few behind.BeforeSelect true = omega arith
gives_few behind.BeforeSelect false = omega arith
gives_few behind.BehindMessage answered = omega arith

-- where it leads, and that it comes nearer to a body or a note
pub record Led (s : code.Setup) (old new : Conn) (before after : List Note) (did : Act) : Type 0 where
  pub starts : Starts s new
  pub moves : did ≡ done.Goes → rank_of new + 17 * length before + 1 ≤ rank_of old + 17 * length after

module _ (s : code.Setup) (c : ℕ) (old new : Conn) (before after : List Note) (did : Act) where
  abbrev Leads : Type 0
  Leads = Led s old new before after did

  noted : (n : Note) → Starts s new → after ≡ before ++ n ∷ [] → Leads
  noted n starts is = record { starts = starts; moves = λ goes. (let k = ap length is ∙ length-append before (n ∷ []) in let r = rank_few new.stage (is_answered_in new.host) in omega (arith, k, r)) }

  rests : (base : Conn) → has_body base.stage ≡ false → did ≡ done.Rests → new ≡ base → Leads
  rests base calm rest same = record { starts = inl (ap (λ x. has_body x.stage) same ∙ calm); moves = λ goes. absurd (let e = sym rest ∙ goes in cc) }

  by_rest : (o : Option CutReason) (base : Conn) → has_body base.stage ≡ false → RestsBy o s c base new before after did → Leads
  by_rest None base calm k = rests base calm k.0 k.1
  by_rest (Some reason) base calm k = noted _ (closes s base new k.1.0) k.1.1

  lower : (r : ℕ) → rank_of old ≡ r → rank_of new + 1 ≤ r → after ≡ before → Starts s new → Leads
  lower r is low quiet starts = record { starts = starts; moves = λ goes. (let n = ap length quiet in omega (arith, is, low, n)) }

  entered : (at : At) (h : RuleHost) (e : Ends) → EntersLow at → is_answered_in h ≡ is_answered_in old.host → rank_of old ≡ high (is_answered_in old.host) → after ≡ before → Enters s at h e old new → Leads
  entered at h e low same is quiet k =
      let flag : is_answered_in new.host ≡ is_answered_in old.host = ap is_answered_in k.host ∙ answered_still at (is_up e.link) h ∙ same in
      let r : rank_of new + 1 ≤ high (is_answered_in new.host) = subst (λ st. rank st (is_answered_in new.host) + 1 ≤ high (is_answered_in new.host)) (sym k.there) (low.low e.link h (is_up e.link) new.host (places_at s at) k.host) in
      lower (high (is_answered_in old.host)) is (subst (λ b. rank_of new + 1 ≤ high b) flag r) quiet (enters s at h e old new k)

  by_gate : (at : At) → rank_of old ≡ 1 → has_body old.stage ≡ false → (b : Bool) → MatchBool b ((did ≡ done.Goes) × StartsBody s at 0 old new × (after ≡ before)) (Rests s c old new before after did) → Leads
  by_gate at is calm true k = lower 1 is (let r = ap (λ st. rank st (is_answered_in new.host)) k.1.there in omega (arith, r)) k.2 (starts_body s at 0 old new k.1)
  by_gate at is calm false k = by_rest (cut_of old) old calm k

  by_plan : rank_of old ≡ high (is_answered_in old.host) → after ≡ before → (p : Plan) → ChoosesBy p s old new did → Leads
  by_plan is quiet plan.Nothing k = entered event.Failed _ _ failed_low refl is quiet k.1
  by_plan is quiet (plan.Node addr) k = entered event.Selected _ _ selected_low refl is quiet k.1
  by_plan is quiet (plan.Member pool only) k = record { starts = inl (ap has_body k.there); moves = λ goes. absurd (let e = sym k.asks ∙ goes in cc) }

  by_reply : rank_of old ≡ high (is_answered_in old.host) → after ≡ before → (addr : Option Addr) → TakesChosen s addr old new → Leads
  by_reply is quiet None k = entered event.Failed _ _ failed_low refl is quiet k
  by_reply is quiet (Some addr) k = entered event.Selected _ _ selected_low refl is quiet k

  by_answer : rank_of old ≡ 16 → has_body old.stage ≡ false → (l : Link) → AnswersBy l s c old new before after did → Leads
  by_answer is calm link.Made k =
      let low = connects_low link.Up new.host (places_at s event.Connected) (ap (λ h. h.net.wishes.ends) k.1.host) in
      lower 16 is (subst (λ st. rank st (is_answered_in new.host) + 1 ≤ 16) (sym k.1.there) (omega (arith, low))) k.2 (enters s event.Connected _ _ old new k.1)
  by_answer is calm link.Refused k =
      let flag : is_answered_in new.host ≡ is_answered_in old.host = ap is_answered_in k.1.host ∙ answered_still event.Failed (is_up link.Absent) old.host in
      let r : rank_of new + 1 ≤ high (is_answered_in new.host) = subst (λ st. rank st (is_answered_in new.host) + 1 ≤ high (is_answered_in new.host)) (sym k.1.there) (failed_low.low link.Absent old.host (is_up link.Absent) new.host (places_at s event.Failed) k.1.host) in
      let few = high_few (is_answered_in new.host) in
      lower 16 is (omega (arith, r, few)) k.2 (enters s event.Failed _ _ old new k.1)
  by_answer is calm link.Absent k = by_rest (cut_of old) old calm k
  by_answer is calm link.Asked k = by_rest (cut_of old) old calm k
  by_answer is calm link.Up k = by_rest (cut_of old) old calm k
  by_answer is calm link.GivenUp k = by_rest (cut_of old) old calm k
  by_answer is calm (link.Leaving w) k = by_rest (cut_of old) old calm k

  by_connect : has_body old.stage ≡ false → (to : Addr) (b : Bool) → MatchBool b ((did ≡ done.Goes) × Connects c to old new before after) (Rests s c old new before after did) → Leads
  by_connect calm to true k = noted _ (inl (ap has_body k.1.there)) k.1.noted
  by_connect calm to false k = by_rest (cut_of old) old calm k

  by_collect : has_body old.stage ≡ false → (o : Option ℕ) → CollectsBy o s c old new before after did → Leads
  by_collect calm None k = by_rest (cut_of old) old calm k
  by_collect calm (Some n) k = noted _ (enters s _ _ _ old new k.1.enters) k.1.noted

  by_release : rank_of old ≡ 1 → has_body old.stage ≡ false → (b : Bool) → MatchBool b ((did ≡ done.Goes) × Releases old new × (after ≡ before)) (Rests s c old new before after did) → Leads
  by_release is calm true k = lower 1 is (let r = ap (λ st. rank st (is_answered_in new.host)) k.1.there in omega (arith, r)) k.2 (inl (ap has_body k.1.there))
  by_release is calm false k = by_rest (cut_of old) old calm k

  by_relay : (r : Relay) → RelaysBy r s c old new before after did → Leads
  by_relay relay.Done k = noted _ (closes s old new k.1.0) k.1.1
  by_relay (relay.Pass side n) k = noted _ (inl (ap has_body k.1.there)) k.1.noted
  by_relay (relay.Fire side n) k = noted _ (enters s _ _ _ old new k.1.enters) k.1.noted
  by_relay relay.Rest k = by_rest (cut_of (round_begun old)) (round_begun old) refl k

  -- requests
  sends : (r : ℕ) (bytes : List ℕ) (st : Stage) → rank_of old ≡ r → has_body st ≡ false → rank st (is_answered_in old.host) + 1 ≤ r → after ≡ before → SendsClient bytes st old new → Leads
  sends r bytes st is calm low quiet k =
      let same : rank_of new ≡ rank st (is_answered_in old.host) = ap (λ x. rank x (is_answered_in new.host)) k.there ∙ ap (λ h. rank st (is_answered_in h)) k.host in
      lower r is (omega (arith, same, low)) quiet (inl (ap has_body k.there ∙ calm))

  by_tell : rank_of old ≡ rank stage.Continuing (is_answered_in old.host) → has_body old.stage ≡ false → (b : Bool) → MatchBool b ((did ≡ done.Goes) × SendsClient continue_text (asked_stage old.ends.link old.host) old new × (after ≡ before)) (Rests s c old new before after did) → Leads
  by_tell is calm true k =
      let low = asked_low old.ends.link old.host (is_answered_in old.host) in
      sends (rank stage.Continuing (is_answered_in old.host)) continue_text (asked_stage old.ends.link old.host) is (asked_no_body old.ends.link old.host) (one_above (is_answered_in old.host) _ low) k.2 k.1
  by_tell is calm false k = by_rest (cut_of old) old calm k

  by_front : (reader : BodyState) (size : ℕ) → rank_of old ≡ 8 → (p : Part) → DropsBy p s c (dropped reader size old) new before after did → Leads
  by_front reader size is Byte k = absurd k
  by_front reader size is (Chunk line n) k = absurd k
  by_front reader size is (End n) k =
      let same : rank_of new ≡ rank (next_stage (http_in old.host)) (is_answered_in new.host) = ap (λ x. rank x (is_answered_in new.host)) k.1.there in
      let low = next_low (client_closes (http_in old.host)) (is_answered_in new.host) in
      lower 8 is (omega (arith, same, low)) k.2 (inl (ap has_body k.1.there ∙ next_no_body (http_in old.host)))
  by_front reader size is Pending k = by_rest (cut_of (dropped reader size old)) (dropped reader size old) refl k
  by_front reader size is (Bad f) k = by_answered (is_answered Client f) k
    where
      by_answered : (x : Bool) → RefusesBy x f s c (dropped reader size old) new before after did → Leads
      by_answered true k =
          let same : rank_of new ≡ 0 = ap (λ x. rank x (is_answered_in new.host)) k.1.there in
          lower 8 is (omega (arith, same)) k.2 (inl (ap has_body k.1.there))
      by_answered false k = noted _ (closes s (dropped reader size old) new k.1.0) k.1.1

  refuses : (f : HttpFault) → rank_of old ≡ 7 → (x : Bool) → RefusesBy x f s c old new before after did → Leads
  refuses f is true k = sends 7 (refusal f) (stage.Finishing (finish.Http f)) is refl (omega arith) k.2 k.1
  refuses f is false k = noted _ (closes s old new k.1.0) k.1.1

  by_request : (n : ℕ) → rank_of old ≡ 7 → (r : Result Request HttpFault) → RequestBy r n s c old new before after did → Leads
  by_request n is (Ok r) k =
      let low : rank_of new ≤ 6 = subst (λ st. rank st (is_answered_in new.host) ≤ 6) (sym k.1.there) (request_low old.ends.link r old.host (is_up old.ends.link) new.host (places_at s event.Request) k.1.host) in
      lower 7 is (omega (arith, low)) k.2 (enters s event.Request _ _ old new k.1)
  by_request n is (Err f) k = refuses f is (is_answered Client f) k

  by_head : rank_of old ≡ 7 → has_body old.stage ≡ false → (p : HeadPart) → HeadBy p s c old new before after did → Leads
  by_head is calm (HeadOf n) k = by_request n is (request_of (take n old.ends.client.unread)) k
  by_head is calm StreamEnds k = noted _ (closes s old new k.1.0) k.1.1
  by_head is calm (Faulty f) k = refuses f is (is_answered Client f) k
  by_head is calm NoHead k = by_rest (cut_of old) old calm k

  -- messages
  becomes_lower : (r : ℕ) (st : Stage) (e : Ends) → rank_of old ≡ r → has_body st ≡ false → rank st (is_answered_in old.host) + 1 ≤ r → after ≡ before → Becomes st e old new → Leads
  becomes_lower r st e is calm low quiet k =
      let same : rank_of new ≡ rank st (is_answered_in old.host) = ap (λ x. rank x (is_answered_in new.host)) k.there ∙ ap (λ h. rank st (is_answered_in h)) k.host in
      lower r is (omega (arith, same, low)) quiet (inl (ap has_body k.there ∙ calm))

  -- a server connection that is given up
  by_giving : (w : Behind) → rank_of old ≡ rank (stage.GivingUp w) (is_answered_in old.host) → after ≡ before → LeavesServer s w old new → Leads
  by_giving w is quiet k = by_test (nat_lt 0 (length (places_at s event.Leaving))) k.goes
    where
      flag : is_answered_in k.mid.host ≡ is_answered_in old.host
      flag = ap is_answered_in k.host ∙ answered_still event.Leaving false old.host

      by_test : (x : Bool) → MatchBool x (StartsBody s event.Leaving 0 k.mid new) (Leaves s event.Leaving k.mid new) → Leads
      by_test true c =
          let none : rank_of new ≡ 0 = ap (λ st. rank st (is_answered_in new.host)) c.there in
          let few = gives_few w (is_answered_in old.host) in
          lower _ is (omega (arith, none, few)) quiet (starts_body s event.Leaving 0 k.mid new c)
      by_test false c =
          let there : new.stage ≡ stage.Retiring w = c.there ∙ ap (λ e. leaving_stage e.link) k.ends in
          let same : rank_of new ≡ rank (stage.Retiring w) (is_answered_in old.host) = ap (λ x. rank x (is_answered_in new.host)) there ∙ ap (λ h. rank (stage.Retiring w) (is_answered_in h)) c.host ∙ ap (rank (stage.Retiring w)) flag in
          let low = gives_low w (is_answered_in old.host) in
          lower _ is (omega (arith, same, low)) quiet (inl (ap has_body there))

  by_retiring : (w : Behind) → rank_of old ≡ rank (stage.Retiring w) (is_answered_in old.host) → Retires c w old new before after → Leads
  by_retiring w is k = by_taken (is_empty (queue_in Server old)) refl k.noted
    where
      calm : has_body (retired_stage w (http_in old.host)) ≡ false
      calm = retired_no_body w (http_in old.host)

      by_taken : (x : Bool) → is_empty (queue_in Server old) ≡ x → after ≡ before ++ closed_notes c x → Leads
      by_taken true e noted' = noted _ (inl (ap has_body k.becomes.there ∙ calm)) noted'
      by_taken false e noted' = becomes_lower _ _ _ is calm (retired_low w (http_in old.host) (is_answered_in old.host)) (noted' ∙ append-nil before) k.becomes

  by_heading : (side : Side) → rank_of old ≡ rank (stage.Heading side) (is_answered_in old.host) → has_body old.stage ≡ false → (x : Bool) → MatchBool x ((did ≡ done.Goes) × Becomes (headed_stage side old.host (http_in old.host).whole) (moved_as side 0 (head_bytes side (http_in old.host)) old.ends) old new × (after ≡ before)) (Rests s c old new before after did) → Leads
  by_heading side is calm true k = becomes_lower _ _ _ is (headed_no_body side old.host (http_in old.host).whole) (below_head side old.host (is_answered_in old.host) (http_in old.host).whole) k.2 k.1
  by_heading side is calm false k = by_rest (cut_of old) old calm k

  -- what stands in front of what is left of a body
  module _ (side : Side) (reader : BodyState) (standing : Bool) (to : Passage) (is : rank_of old ≡ rank (stage.Forwarding side reader standing) (is_answered_in old.host)) where
    abbrev mid : Conn
    mid = passed_to side to old

    at_mid : rank_of old ≡ rank (stage.Forwarding side to.at.reader to.at.standing) (is_answered_in old.host)
    at_mid = is ∙ body_same side reader to.at.reader standing to.at.standing (is_answered_in old.host)

    goes_lower : (st : Stage) (e : Ends) → has_body st ≡ false → rank st (is_answered_in old.host) + 1 ≤ rank (stage.Forwarding side to.at.reader to.at.standing) (is_answered_in old.host) → after ≡ before → Becomes st e mid new → Leads
    goes_lower st e calm low quiet k =
        let same : rank_of new ≡ rank st (is_answered_in old.host) = ap (λ x. rank x (is_answered_in new.host)) k.there ∙ ap (λ h. rank st (is_answered_in h)) k.host in
        lower _ at_mid (omega (arith, same, low)) quiet (inl (ap has_body k.there ∙ calm))

    by_end : (n : ℕ) (x : Bool) → EndsBy x side to.at.standing n s c mid new before after did → Leads
    by_end n true k = goes_lower _ _ (message_no_body side old.host) (below_body side to.at.reader to.at.standing old.host (is_answered_in old.host)) k.2 k.1
    by_end n false k = by_room (ends_room side to.ends) k
      where
        by_room : (r : Bool) → MatchBool r ((did ≡ done.Goes) × Becomes (message_stage side old.host) (moved_as side n (last_line to.at.standing) to.ends) mid new × (after ≡ before)) (Rests s c mid new before after did) → Leads
        by_room true k = goes_lower _ _ (message_no_body side old.host) (below_body side to.at.reader to.at.standing old.host (is_answered_in old.host)) k.2 k.1
        by_room false k = by_rest (cut_of mid) mid refl k

    by_part : (p : Part) → FrontBy p side to.at.reader to.at.standing s c mid new before after did → Leads
    by_part Byte k = by_rest (cut_of mid) mid refl k.1
    by_part (Chunk line size) k = by_rest (cut_of mid) mid refl k.1
    by_part (End n) k = by_end n (is_counted to.at.reader) k
    by_part Pending k = by_rest (cut_by (is_server side) mid) mid refl k
    by_part (Bad f) k = by_fault (is_answered side f) k
      where
        by_fault : (x : Bool) → RefusesBy x f s c mid new before after did → Leads
        by_fault true k =
            let none : rank_of new ≡ 0 = ap (λ x. rank x (is_answered_in new.host)) k.1.there in
            let few = body_few side to.at.reader to.at.standing (is_answered_in old.host) in
            lower _ at_mid (omega (arith, none, few)) k.2 (inl (ap has_body k.1.there))
        by_fault false k = noted _ (closes s mid new k.1.0) k.1.1

  -- a body that is gathered
  module _ (side : Side) (wanted : ℕ) (reader : BodyState) (to : intake.Gathered) (passes : intake.Gathers side (intake.gathered (record { wanted = wanted; reader = reader }) (http_in old.host) old.ends) to) (is : rank_of old ≡ rank (stage.Gathering side wanted reader) (is_answered_in old.host)) where
    abbrev so_far : Conn
    so_far = intake.gathered_to side to old

    at_first : rank_of old ≡ rank (stage.Gathering side 1 reader) (is_answered_in old.host)
    at_first = is ∙ gathering_same side wanted 1 reader reader (is_answered_in old.host)

    by_event : (n : ℕ) (http : Http) → http.answer ≡ to.http.answer → intake.EntersGathered side n http s so_far new → after ≡ before → Leads
    by_event n http same k quiet =
        let e = read_ends side n to.ends in
        let h = intake.http_of_host http so_far.host in
        let flag : is_answered_in new.host ≡ is_answered_in old.host = ap is_answered_in k.host ∙ answered_still (gathered_at side) (is_up e.link) h ∙ ap is_some (same ∙ gathers_answer side _ to passes) in
        let r : rank_of new + 1 ≤ rank (stage.Gathering side 1 reader) (is_answered_in new.host) =
        subst (λ st. rank st (is_answered_in new.host) + 1 ≤ rank (stage.Gathering side 1 reader) (is_answered_in new.host)) (sym k.there) (gathered_low side e.link h (is_up e.link) new.host (places_at s (gathered_at side)) reader k.host) in
        lower (rank (stage.Gathering side 1 reader) (is_answered_in old.host)) at_first (subst (λ b. rank_of new + 1 ≤ rank (stage.Gathering side 1 reader) b) flag r) quiet (enters s (gathered_at side) h e so_far new k)

    by_gathered : (p : Part) → intake.GathersBy p side to.at s c so_far new before after did → Leads
    by_gathered Byte k = by_event 1 (with_gathered (take 1 (end_of side to.ends).unread) (after_byte to.at.reader) to.http) refl k.2 k.3
    by_gathered (Chunk line size) k = absurd k
    by_gathered (End n) k = by_event n (with_whole to.http) refl k.1 k.2
    by_gathered Pending k = by_rest (cut_by (is_server side) so_far) so_far refl k
    by_gathered (Bad f) k = by_fault (is_answered side f) k
      where
        by_fault : (x : Bool) → RefusesBy x f s c so_far new before after did → Leads
        by_fault true k =
            let none : rank_of new ≡ 0 = ap (λ x. rank x (is_answered_in new.host)) k.1.there in
            let few = gathering_few side 1 reader (is_answered_in old.host) in
            lower _ at_first (omega (arith, none, few)) k.2 (inl (ap has_body k.1.there))
        by_fault false k = noted _ (closes s so_far new k.1.0) k.1.1

  -- a response
  module _ (to : Ends) (is : rank_of old ≡ 13) (calm : has_body old.stage ≡ false) where
    abbrev before_final : Conn
    before_final = with_ends to old

    by_status : (n : ℕ) (r : Response) (x y : Bool) → StatusBy x y n r s c before_final new before after did → Leads
    by_status n r true y k = noted _ (closes s before_final new k.1.0) k.1.1
    by_status n r false true k = by_rest (cut_of before_final) before_final calm k.1
    by_status n r false false k =
        let low : rank_of new ≤ 12 = subst (λ st. rank st (is_answered_in new.host) ≤ 12) (sym k.1.there) (response_low to.link r old.host (is_up to.link) new.host (places_at s event.Response) k.1.host) in
        lower 13 is (omega (arith, low)) k.2 (enters s event.Response _ _ before_final new k.1)

    by_read : (x : Answer) → AnswerBy x s c before_final new before after did → Leads
    by_read (answer.Head n r) k = by_status n r (switches r) (is_interim r.head) k
    by_read answer.Ends k = noted _ (closes s before_final new k.1.0) k.1.1
    by_read (answer.Fault f) k = noted _ (closes s before_final new k.1.0) k.1.1
    by_read answer.NoHead k = by_rest (cut_by true before_final) before_final calm k

  pub outside_led : (ticks : ℕ) → Acted s c old new before after did ticks → has_body old.stage ≡ false → Leads
  outside_led ticks k calm = by_stage old.stage refl k
    where
      in_a_body : (st : Stage) → old.stage ≡ st → has_body st ≡ true → Leads
      in_a_body st is runs = absurd (true≢false (sym runs ∙ sym (ap has_body is) ∙ calm))

      at_rank : {st : Stage} → old.stage ≡ st → rank_of old ≡ rank st (is_answered_in old.host)
      at_rank is = ap (λ x. rank x (is_answered_in old.host)) is

      by_stage : (st : Stage) → old.stage ≡ st → ActedAt st s c old new before after did ticks → Leads
      by_stage (stage.Gated at) is k = by_gate at (at_rank is) calm (has_room old) k
      by_stage (stage.Running at n) is k = in_a_body (stage.Running at n) is refl
      by_stage (stage.Asking at n) is k = in_a_body (stage.Asking at n) is refl
      by_stage stage.Selecting is k = rests old calm k.0 k.1
      by_stage (stage.Failing at n kind line) is k = noted _ (behind_fault s at n kind old new k.1) k.2
      by_stage stage.Choosing is k = by_plan (at_rank is) k.1 (plan_of old.host.net) k.0
      by_stage (stage.Chosen addr) is k = by_reply (at_rank is) k.2 addr k.1
      by_stage (stage.Connecting to) is k = by_connect calm to (is_empty (queue_in Server old)) k
      by_stage (stage.Answering to) is k = by_answer (at_rank is) calm old.ends.link k
      by_stage stage.Collecting is k = by_collect calm (meets old.host.net.client.asks old.ends.client.unread) k
      by_stage stage.AtHead is k = by_head (at_rank is) calm (head_part old.ends.client.unread old.ends.client.ended) k.1
      by_stage stage.Continuing is (spoken, k) = by_tell (at_rank is) calm (client_room old) k
      by_stage (stage.Gathering side wanted reader) is (spoken, k) = by_gathered side wanted reader k.to k.passes (at_rank is) (part_there side k.to) k.goes
      by_stage stage.AtReuse is k = noted _ (inl (ap has_body k.1.becomes.there ∙ reuse_no_body (is_whole old.ends.server))) k.1.noted
      by_stage (stage.GivingUp w) is k = by_giving w (at_rank is) k.2 k.1
      by_stage (stage.Retiring w) is k = by_retiring w (at_rank is) k.1
      by_stage (stage.Heading side) is (spoken, k) = by_heading side (at_rank is) calm (ends_room side old.ends) k
      by_stage (stage.Forwarding side reader standing) is (spoken, k) = by_part side reader standing k.to (at_rank is) (part_at side k.to) k.goes
      by_stage stage.AtResponse is (spoken, k) = by_read k.to (at_rank is) calm (answer_of (http_in old.host).came k.to.server) k.goes
      by_stage (stage.Dropping reader) is (spoken, k) = by_front k.left k.size (at_rank is) (part_of k.left (drop k.size old.ends.client.unread) old.ends.client.ended) k.goes
      by_stage stage.Releasing is k = by_release (at_rank is) calm (server_room old) k
      by_stage (stage.Relaying first) is k = by_relay (relay_plan first old.host.net old.ends) k
      by_stage (stage.Finishing f) is k = noted _ (closes s old new k.1.0) k.1.1
      by_stage stage.Draining is k = rests old calm k.0 k.1
      by_stage stage.OutOfMemory is k = rests old calm k.0 k.1
      by_stage (stage.Dropped n) is k = rests old calm k.0 k.1

-- so each action that goes on comes nearer to a note or counts a step
pub progress : (s : code.Setup) (c : ℕ) (old new : Conn) (before after : List Note) (ticks : ℕ) → Acted s c old new before after done.Goes ticks → (is_running old.stage ≡ true → 1 ≤ ticks) → length before ≤ length after
    → rank_of new + 17 * length before + 1 ≤ rank_of old + 17 * (ticks + length after)
progress s c old new before after ticks k counts grows = by_stage old.stage refl k
  where
    outside : (st : Stage) → old.stage ≡ st → has_body st ≡ false → rank_of new + 17 * length before + 1 ≤ rank_of old + 17 * (ticks + length after)
    outside st is calm = let m = (outside_led s c old new before after done.Goes ticks k (ap has_body is ∙ calm)).moves refl in omega (arith, m)

    by_stage : (st : Stage) → old.stage ≡ st → ActedAt st s c old new before after done.Goes ticks → rank_of new + 17 * length before + 1 ≤ rank_of old + 17 * (ticks + length after)
    by_stage (stage.Running at n) is k = let t = counts (ap is_running is) in let r = rank_few new.stage (is_answered_in new.host) in omega (arith, t, r, grows)
    by_stage (stage.Asking at n) is k = absurd (let e = k.0 in cc)
    by_stage other is k = outside other is refl
