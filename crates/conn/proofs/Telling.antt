-- What an action tells the outside of its ends.
use Rattle.std.proofs.Common.{◌≡◌, refl, sym, ap, ◌∙◌, ℕ, ◌+◌, List, [], take, length, Bool, true, false, Option, Some, None, Result, Ok, Err, nat_lt}
use Rattle.std.specs.Bool.{MatchBool}
use Rattle.px_bytes.specs.declared.addr.Addr.{Addr}
use Rattle.px_bytes.specs.declared.addr.Side.{Side}
use Rattle.px_bytes.specs.declared.addr.Side.TheVariants.{Client, Server}
use Rattle.px_bytes.specs.declared.fault.FaultKind.{FaultKind}
use Rattle.px_bytes.specs.declared.fault.HttpFault.{HttpFault}
use Rattle.http_answers.specs.Refusals.{continue_text}
use Rattle.http_frames.specs.Parts.{Part, Byte, Chunk, End, Pending, Bad}
use Rattle.http_messages.specs.Messages.{request_of}
use Rattle.irule_http.specs.declared.state.Request.{Request}
use Rattle.http_heads.specs.declared.front.HeadPart.{HeadPart}
use Rattle.http_heads.specs.declared.front.HeadPart.TheVariants.{HeadOf, StreamEnds, Faulty, NoHead}
use Rattle.conn_trace.specs.SentBodies.{is_answered}
use Rattle.core_events.specs.Edges.{edges_noted}
use Rattle.conn_trace.specs.Setup.{Handler, Setup}
use Rattle.core_events.specs.declared.note.CutReason.{CutReason}
use Rattle.core_events.specs.declared.note.Note.{Note}
use Rattle.conn.specs.Acts.{AnswersBy, BehindFault, CollectsBy, PassesGate, PassesReleased, RelaysBy, Rests, RestsBy, cut_of, has_room, Connects, ConnectsNext}
use Rattle.conn.specs.Acts.{DropsBy, HeadBy, RefusesBy, RequestBy, SendsClient, TellsToGoOn, client_room}
use Rattle.conn.specs.Changes.{Closes, ClosesClient, ClosesServer, GoesTo, Leaves, NextBody, StartsBody}
use Rattle.conn.specs.Choosing.{ChoosesBy, TakesChosen}
use Rattle.conn.specs.Ends.{is_sought}
use Rattle.conn.specs.Events.{is_closing}
use Rattle.conn.specs.Hosts.{client_bytes, made_in, server_bytes}
use Rattle.conn.specs.Relaying.{Releases, moved, read_ends, round_begun}
use Rattle.conn.specs.Setups.{places_at}
use Rattle.conn.specs.Stages.{asked_stage, http_in}
use Rattle.conn.specs.Steps.{BodySteps, GoesOn, one_of, queue_both, said_of}
use Rattle.conn.specs.declared.body_step.Said.{Said}
use Rattle.conn.specs.declared.body_step.Said.TheVariants as said
use Rattle.conn.specs.declared.connection.Conn.{Conn}
use Rattle.conn.specs.declared.ends.Ends.{Ends}
use Rattle.conn.specs.declared.ends.Link.{Link}
use Rattle.conn.specs.declared.ends.Link.TheVariants as link
use Rattle.conn.specs.declared.events.At.{At}
use Rattle.conn.specs.declared.events.At.TheVariants as event
use Rattle.conn.specs.declared.relay.Relay.{Relay}
use Rattle.conn.specs.declared.relay.Relay.TheVariants as relay
use Rattle.conn.specs.declared.select.Plan.{Plan}
use Rattle.conn.specs.declared.select.Plan.TheVariants as plan
use Rattle.conn.specs.Choosing.{ChoosesBy}
use Rattle.conn.specs.declared.select.Plan.{Plan}
use Rattle.conn.specs.declared.select.Plan.TheVariants as plan
use Rattle.conn.specs.declared.setup.Setup as code_setup
use Rattle.conn.specs.declared.stage.Finish.TheVariants as finish
use Rattle.conn.specs.declared.stage.Stage.TheVariants as stage
use Rattle.conn.specs.declared.turn.Act as step_act
use Rattle.conn.specs.declared.turn.Act.TheVariants as done
use Rattle.conn.proofs.Acting.{logs_keep, rest_group}
use Rattle.conn.proofs.BodyMoves.{step_notes}
use Rattle.conn.proofs.Dropped.{front_group}
use Rattle.conn.proofs.Refusing.{refused_by}
use Rattle.conn.proofs.Requesting.{head_group, request_group}
use Rattle.conn.proofs.Collecting.{collect_group}
use Rattle.conn.proofs.Releasing.{server_room}
use Rattle.conn.proofs.Gating.{gate_group}
use Rattle.conn.proofs.Linking.{answer_group, connect_group}
use Rattle.conn.proofs.Passing.{relay_group}
use Rattle.seg_buffer.specs.Bytes.{is_empty}
use Rattle.conn.specs.Queues.{queue_in}
use Rattle.http_heads.specs.declared.line.Version.{Version}
use Rattle.http_heads.specs.declared.line.Version.TheVariants.{Http10, Http11}
use Rattle.http_frames.specs.declared.state.BodyState.{BodyState}
use Rattle.irule_http.specs.declared.state.Response.{Response}
use Rattle.conn_trace.specs.Messages.{asked_version, is_counted, is_interim}
use Rattle.conn_trace.specs.SentBodies.{chunk_line, last_line}
use Rattle.conn.specs.Acts.{cut_by, is_server}
use Rattle.conn.specs.Ends.{end_of}
use Rattle.conn.specs.Forwarding.{Forwards, Interim, Interims, Line, NoneYet, NotYet, Passage, PassesUnit, Piece, Then, ends_room, interim_ends, switches}
use Rattle.conn.specs.Messages.{AnswerBy, Becomes, EndsBy, FrontBy, SendsHead, StatusBy, head_bytes}
use Rattle.conn.specs.Relaying.{moved_as}
use Rattle.conn.specs.Stages.{headed_stage, message_stage}
use Rattle.conn.specs.declared.response.Answer.{Answer}
use Rattle.conn.specs.declared.response.Answer.TheVariants as answer
use Rattle.conn.proofs.Sending.{end_group, part_group}
use Rattle.conn.proofs.Responding.{status_group, answer_group as reply_group}

-- what an action tells the outside of the ends
abbrev pub Tells : List Note → Conn → Conn → Type 0
Tells group old new = new.ends.edges ≡ edges_noted group old.ends.edges

-- the same ends
pub ends_tell : (old new : Conn) → new.ends ≡ old.ends → Tells [] old new
ends_tell old new is = ap (λ e. e.edges) is

pub client_ends : (s : code_setup.Setup) (old new : Conn) → ClosesClient s old new → new.ends ≡ old.ends
client_ends s old new k = by_test (nat_lt 0 (length (places_at s event.Closed))) k.goes ∙ k.begins.ends
  where
    by_test : (b : Bool) → MatchBool b (StartsBody s event.Closed 0 k.mid new) (GoesTo stage.Draining k.mid new) → new.ends ≡ k.mid.ends
    by_test true c = c.ends
    by_test false c = c.ends

pub leaves_ends : (s : code_setup.Setup) (at : At) (old new : Conn) → Leaves s at old new → new.ends ≡ old.ends
leaves_ends s event.Accepted old new k = k.ends
leaves_ends s event.ClientData old new k = k.ends
leaves_ends s event.Selected old new k = k.ends
leaves_ends s event.Failed old new k = k.ends
leaves_ends s event.Connected old new k = k.ends
leaves_ends s event.Request old new k = k.ends
leaves_ends s event.RequestData old new k = k.ends
leaves_ends s event.Response old new k = k.ends
leaves_ends s event.ResponseData old new k = k.ends
leaves_ends s event.Leaving old new k = k.ends
leaves_ends s event.ServerData old new k = k.ends
leaves_ends s event.ServerClosed old new k = client_ends s old new k
leaves_ends s event.Closed old new k = k.ends

pub next_ends : (s : code_setup.Setup) (at : At) (n : ℕ) (old new : Conn) → NextBody s at n old new → new.ends ≡ old.ends
next_ends s at n old new k = by_test (nat_lt n (length (places_at s at))) k
  where
    by_test : (b : Bool) → MatchBool b (StartsBody s at n old new) (Leaves s at old new) → new.ends ≡ old.ends
    by_test true c = c.ends
    by_test false c = leaves_ends s at old new c

pub closes_ends : (s : code_setup.Setup) (old new : Conn) → Closes s old new → new.ends ≡ old.ends
closes_ends s old new k = by_test (is_sought old.ends.link) k
  where
    by_test : (b : Bool) → MatchBool b (ClosesServer s old new) (ClosesClient s old new) → new.ends ≡ old.ends
    by_test true c = next_ends s event.ServerClosed 0 c.mid new c.goes ∙ c.begins.ends
    by_test false c = client_ends s old new c

pub fault_ends : (s : code_setup.Setup) (at : At) (n : ℕ) (kind : FaultKind) (old new : Conn) → BehindFault s at n kind old new → new.ends ≡ old.ends
fault_ends s at n kind old new k = by_test (is_closing at) k
  where
    by_test : (b : Bool) → MatchBool b (NextBody s at n old new) (GoesTo (stage.Finishing (finish.Fault kind)) old new) → new.ends ≡ old.ends
    by_test true c = next_ends s at n old new c
    by_test false c = c.ends

pub rest_tells : (s : code_setup.Setup) (c : ℕ) (old new : Conn) (before after : List Note) (did : step_act.Act) (o : Option CutReason) → RestsBy o s c old new before after did → Tells (rest_group c o) old new
rest_tells s c old new before after did None k = ap (λ x. x.ends.edges) k.1
rest_tells s c old new before after did (Some reason) k = ends_tell old new (closes_ends s old new k.1.0)

pub gate_tells : (s : code_setup.Setup) (c : ℕ) (at : At) (old new : Conn) (before after : List Note) (did : step_act.Act) → PassesGate s c at old new before after did → Tells (gate_group (has_room old) c (cut_of old)) old new
gate_tells s c at old new before after did k = by_test (has_room old) k
  where
    by_test : (b : Bool) → MatchBool b ((did ≡ done.Goes) × StartsBody s at 0 old new × (after ≡ before)) (Rests s c old new before after did) → Tells (gate_group b c (cut_of old)) old new
    by_test true k = ends_tell old new k.1.ends
    by_test false k = rest_tells s c old new before after did (cut_of old) k

pub answer_tells : (s : code_setup.Setup) (c : ℕ) (k : Link) (old new : Conn) (before after : List Note) (did : step_act.Act) → AnswersBy k s c old new before after did → Tells (answer_group k c (cut_of old)) old new
answer_tells s c link.Made old new before after did k = ap (λ e. e.edges) k.1.ends
answer_tells s c link.Refused old new before after did k = ap (λ e. e.edges) k.1.ends
answer_tells s c link.Absent old new before after did k = rest_tells s c old new before after did (cut_of old) k
answer_tells s c link.Asked old new before after did k = rest_tells s c old new before after did (cut_of old) k
answer_tells s c link.Up old new before after did k = rest_tells s c old new before after did (cut_of old) k
answer_tells s c link.GivenUp old new before after did k = rest_tells s c old new before after did (cut_of old) k
answer_tells s c (link.Leaving w) old new before after did k = rest_tells s c old new before after did (cut_of old) k

pub connect_tells : (s : code_setup.Setup) (c : ℕ) (to : Addr) (old new : Conn) (before after : List Note) (did : step_act.Act) → ConnectsNext s c to old new before after did → Tells (connect_group (is_empty (queue_in Server old)) c to (cut_of old)) old new
connect_tells s c to old new before after did k = by_test (is_empty (queue_in Server old)) k
  where
    by_test : (b : Bool) → MatchBool b ((did ≡ done.Goes) × Connects c to old new before after) (Rests s c old new before after did) → Tells (connect_group b c to (cut_of old)) old new
    by_test true k = ap (λ x. x.edges) k.1.ends
    by_test false k = rest_tells s c old new before after did (cut_of old) k

pub moved_edges : (side : Side) (n : ℕ) (e : Ends) → (moved side n e).edges ≡ e.edges
moved_edges Client n e = refl
moved_edges Server n e = refl

pub fired_edges : (side : Side) (n : ℕ) (e : Ends) → (read_ends side n e).edges ≡ e.edges
fired_edges Client n e = refl
fired_edges Server n e = refl

pub relay_tells : (s : code_setup.Setup) (c : ℕ) (p : Relay) (old new : Conn) (before after : List Note) (did : step_act.Act) → RelaysBy p s c old new before after did → Tells (relay_group p c (cut_of (round_begun old))) old new
relay_tells s c relay.Done old new before after did k = ends_tell old new (closes_ends s old new k.1.0)
relay_tells s c (relay.Pass side n) old new before after did k = ap (λ e. e.edges) k.1.ends ∙ moved_edges side n old.ends
relay_tells s c (relay.Fire side n) old new before after did k = ap (λ e. e.edges) k.1.enters.ends ∙ fired_edges side n old.ends
relay_tells s c relay.Rest old new before after did k = rest_tells s c (round_begun old) new before after did (cut_of (round_begun old)) k

pub collect_tells : (s : code_setup.Setup) (c : ℕ) (o : Option ℕ) (old new : Conn) (before after : List Note) (did : step_act.Act) → CollectsBy o s c old new before after did → Tells (collect_group o c (cut_of old)) old new
collect_tells s c None old new before after did k = rest_tells s c old new before after did (cut_of old) k
collect_tells s c (Some n) old new before after did k = ap (λ e. e.edges) k.1.enters.ends

pub release_tells : (s : code_setup.Setup) (c : ℕ) (old new : Conn) (before after : List Note) (did : step_act.Act) → PassesReleased s c old new before after did → Tells (gate_group (server_room old) c (cut_of old)) old new
release_tells s c old new before after did k = by_test (server_room old) k
  where
    by_test : (b : Bool) → MatchBool b ((did ≡ done.Goes) × Releases old new × (after ≡ before)) (Rests s c old new before after did) → Tells (gate_group b c (cut_of old)) old new
    by_test true k = ap (λ e. e.edges) k.1.ends
    by_test false k = rest_tells s c old new before after did (cut_of old) k

-- requests
pub refused_tells : (s : code_setup.Setup) (c : ℕ) (x : Bool) (f : HttpFault) (old new : Conn) (before after : List Note) (did : step_act.Act) → RefusesBy x f s c old new before after did → Tells (refused_by x f c) old new
refused_tells s c true f old new before after did k = ap (λ e. e.edges) k.1.ends
refused_tells s c false f old new before after did k = ends_tell old new (closes_ends s old new k.1.0)

pub told_tells : (s : code_setup.Setup) (c : ℕ) (old new : Conn) (before after : List Note) (did : step_act.Act) → TellsToGoOn s c old new before after did → Tells (gate_group (client_room old) c (cut_of old)) old new
told_tells s c old new before after did k = by_test (client_room old) k
  where
    by_test : (x : Bool) → MatchBool x ((did ≡ done.Goes) × SendsClient continue_text (asked_stage old.ends.link old.host) old new × (after ≡ before)) (Rests s c old new before after did) → Tells (gate_group x c (cut_of old)) old new
    by_test true k = ap (λ e. e.edges) k.1.ends
    by_test false k = rest_tells s c old new before after did (cut_of old) k

pub front_tells : (s : code_setup.Setup) (c : ℕ) (mid new : Conn) (before after : List Note) (did : step_act.Act) (p : Part) → DropsBy p s c mid new before after did → Tells (front_group c mid p) mid new
front_tells s c mid new before after did Byte k = absurd k
front_tells s c mid new before after did (Chunk line size) k = absurd k
front_tells s c mid new before after did (End n) k = ap (λ e. e.edges) k.1.ends
front_tells s c mid new before after did Pending k = rest_tells s c mid new before after did (cut_of mid) k
front_tells s c mid new before after did (Bad f) k = refused_tells s c (is_answered Client f) f mid new before after did k

pub request_tells : (s : code_setup.Setup) (c n : ℕ) (old new : Conn) (before after : List Note) (did : step_act.Act) (r : Result Request HttpFault) → RequestBy r n s c old new before after did → Tells (request_group c r) old new
request_tells s c n old new before after did (Ok r) k = ap (λ e. e.edges) k.1.ends
request_tells s c n old new before after did (Err f) k = refused_tells s c (is_answered Client f) f old new before after did k

pub head_tells : (s : code_setup.Setup) (c : ℕ) (old new : Conn) (before after : List Note) (did : step_act.Act) (p : HeadPart) → HeadBy p s c old new before after did → Tells (head_group c old p) old new
head_tells s c old new before after did (HeadOf n) k = request_tells s c n old new before after did (request_of (take n old.ends.client.unread)) k
head_tells s c old new before after did StreamEnds k = ends_tell old new (closes_ends s old new k.1.0)
head_tells s c old new before after did (Faulty f) k = refused_tells s c (is_answered Client f) f old new before after did k
head_tells s c old new before after did NoHead k = rest_tells s c old new before after did (cut_of old) k

pub chooses_tells : (s : code_setup.Setup) (p : Plan) (old new : Conn) (did : step_act.Act) → ChoosesBy p s old new did → Tells [] old new
chooses_tells s plan.Nothing old new did k = ends_tell old new k.1.ends
chooses_tells s (plan.Node addr) old new did k = ends_tell old new k.1.ends
chooses_tells s (plan.Member pool only) old new did k = ends_tell old new k.ends

pub chosen_tells : (s : code_setup.Setup) (addr : Option Addr) (old new : Conn) → TakesChosen s addr old new → Tells [] old new
chosen_tells s None old new k = ends_tell old new k.ends
chosen_tells s (Some addr) old new k = ends_tell old new k.ends

pub went_on : (s : code_setup.Setup) (at : At) (n : ℕ) (x : Said) (mid new : Conn) (did : step_act.Act) → GoesOn s at n x mid new did → new.ends ≡ mid.ends
went_on s at n said.More mid new did k = ap (λ x. x.ends) k.1
went_on s at n (said.Asks call) mid new did k = ap (λ x. x.ends) k.1
went_on s at n said.Over mid new did k = next_ends s at (n + 1) mid new k.1
went_on s at n (said.Fails kind line) mid new did k = k.1.ends

pub steps_tell : (s : code_setup.Setup) (h : Handler) (c : ℕ) (at : At) (n : ℕ) (old new : Conn) (before after : List Note) (did : step_act.Act) (ticks : ℕ) (k : BodySteps s h c at n old new before after did ticks) → Tells (step_notes k) old new
steps_tell s h c at n old new before after did ticks k =
    let es = one_of (made_in k.stepped.host) in
    ap (λ e. e.edges) (went_on s at n (said_of h at k.turned) k.mid new did k.goes_on ∙ k.does.ends ∙ ap (queue_both (client_bytes es) (server_bytes es)) k.ends)
    ∙ sym (logs_keep c es old.ends.edges)

-- messages
pub forwards_edges : (side : Side) (from to : Passage) → Forwards side from to → to.ends.edges ≡ from.ends.edges
forwards_edges side from _ NotYet = refl
forwards_edges side from _ (Then p q f u) = unit_edges p q u ∙ forwards_edges side from p f
  where
    sent_edges : (x : Side) (n : ℕ) (bytes : List ℕ) (e : Ends) → (moved_as x n bytes e).edges ≡ e.edges
    sent_edges Client n bytes e = refl
    sent_edges Server n bytes e = refl

    unit_edges : (p q : Passage) → PassesUnit side p q → q.ends.edges ≡ p.ends.edges
    unit_edges p _ (Piece n k) = sent_edges side n (take n (end_of side p.ends).unread) p.ends
    unit_edges p _ (Line line size k) = sent_edges side line (chunk_line p.at.standing size) p.ends

pub as_edges : (side : Side) (n : ℕ) (bytes : List ℕ) (e : Ends) → (moved_as side n bytes e).edges ≡ e.edges
as_edges Client n bytes e = refl
as_edges Server n bytes e = refl

pub interims_edges : (came : Option Request) (from to : Ends) → Interims came from to → to.edges ≡ from.edges
interims_edges came from _ NoneYet = refl
interims_edges came from _ (Interim n r e more k) = by_version (asked_version came) ∙ interims_edges came from e more
  where
    by_version : (v : Version) → (interim_ends v n r e).edges ≡ e.edges
    by_version Http10 = refl
    by_version Http11 = refl

end_tells : (s : code_setup.Setup) (c : ℕ) (mid new : Conn) (before after : List Note) (did : step_act.Act) (side : Side) (standing : Bool) (n : ℕ) (x : Bool) → EndsBy x side standing n s c mid new before after did → Tells (end_group x (ends_room side mid.ends) c mid) mid new
end_tells s c mid new before after did side standing n true k = ap (λ e. e.edges) k.1.ends ∙ fired_edges side n mid.ends
end_tells s c mid new before after did side standing n false k = by_room (ends_room side mid.ends) k
  where
    by_room : (r : Bool) → MatchBool r ((did ≡ done.Goes) × Becomes (message_stage side mid.host) (moved_as side n (last_line standing) mid.ends) mid new × (after ≡ before)) (Rests s c mid new before after did) → Tells (gate_group r c (cut_of mid)) mid new
    by_room true k = ap (λ e. e.edges) k.1.ends ∙ as_edges side n (last_line standing) mid.ends
    by_room false k = rest_tells s c mid new before after did (cut_of mid) k

pub part_tells : (s : code_setup.Setup) (c : ℕ) (mid new : Conn) (before after : List Note) (did : step_act.Act) (side : Side) (reader : BodyState) (standing : Bool) (p : Part) → FrontBy p side reader standing s c mid new before after did → Tells (part_group p side reader c mid) mid new
part_tells s c mid new before after did side reader standing Byte k = rest_tells s c mid new before after did (cut_of mid) k.1
part_tells s c mid new before after did side reader standing (Chunk line size) k = rest_tells s c mid new before after did (cut_of mid) k.1
part_tells s c mid new before after did side reader standing (End n) k = end_tells s c mid new before after did side standing n (is_counted reader) k
part_tells s c mid new before after did side reader standing Pending k = rest_tells s c mid new before after did (cut_by (is_server side) mid) k
part_tells s c mid new before after did side reader standing (Bad f) k = refused_tells s c (is_answered side f) f mid new before after did k

pub heading_tells : (s : code_setup.Setup) (c : ℕ) (side : Side) (old new : Conn) (before after : List Note) (did : step_act.Act) → SendsHead side s c old new before after did → Tells (gate_group (ends_room side old.ends) c (cut_of old)) old new
heading_tells s c side old new before after did k = by_room (ends_room side old.ends) k
  where
    by_room : (r : Bool) → MatchBool r ((did ≡ done.Goes) × Becomes (headed_stage side old.host (http_in old.host).whole) (moved_as side 0 (head_bytes side (http_in old.host)) old.ends) old new × (after ≡ before)) (Rests s c old new before after did) → Tells (gate_group r c (cut_of old)) old new
    by_room true k = ap (λ e. e.edges) k.1.ends ∙ as_edges side 0 (head_bytes side (http_in old.host)) old.ends
    by_room false k = rest_tells s c old new before after did (cut_of old) k

status_tells : (s : code_setup.Setup) (c n : ℕ) (r : Response) (mid new : Conn) (before after : List Note) (did : step_act.Act) (x y : Bool) → StatusBy x y n r s c mid new before after did → Tells (status_group x y c mid) mid new
status_tells s c n r mid new before after did true y k = ends_tell mid new (closes_ends s mid new k.1.0)
status_tells s c n r mid new before after did false true k = rest_tells s c mid new before after did (cut_of mid) k.1
status_tells s c n r mid new before after did false false k = ap (λ e. e.edges) k.1.ends

pub reply_tells : (s : code_setup.Setup) (c : ℕ) (mid new : Conn) (before after : List Note) (did : step_act.Act) (x : Answer) → AnswerBy x s c mid new before after did → Tells (reply_group x c mid) mid new
reply_tells s c mid new before after did (answer.Head n r) k = status_tells s c n r mid new before after did (switches r) (is_interim r.head) k
reply_tells s c mid new before after did answer.Ends k = ends_tell mid new (closes_ends s mid new k.1.0)
reply_tells s c mid new before after did (answer.Fault f) k = ends_tell mid new (closes_ends s mid new k.1.0)
reply_tells s c mid new before after did answer.NoHead k = rest_tells s c mid new before after did (cut_by true mid) k
