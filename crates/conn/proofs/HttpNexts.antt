-- Behind none of the phases of HTTP all is over.
use Rattle.std.proofs.Common.{◌≡◌, refl, ℕ, List, [], ◌∷◌, take, Bool, true, false, Result, Ok, Err, nat_eq}
use Rattle.px_bytes.specs.declared.addr.Side.{Side}
use Rattle.px_bytes.specs.declared.addr.Side.TheVariants.{Client, Server}
use Rattle.px_bytes.specs.declared.fault.HttpFault.{HttpFault}
use Rattle.http_heads.specs.declared.line.Version.{Version}
use Rattle.http_heads.specs.declared.line.Version.TheVariants.{Http10, Http11}
use Rattle.http_frames.specs.Parts.{Part, Byte, Chunk, End, Pending, Bad}
use Rattle.http_frames.specs.declared.state.BodyState.{BodyState}
use Rattle.irule_http.specs.declared.state.Request.{Request}
use Rattle.irule_http.specs.declared.state.Response.{Response}
use Rattle.http_heads.specs.declared.front.HeadPart.{HeadPart}
use Rattle.http_heads.specs.declared.front.HeadPart.TheVariants.{HeadOf, StreamEnds, Faulty, NoHead}
use Rattle.conn_trace.specs.Host.{http_of}
use Rattle.conn_trace.specs.Item.{Choice, Fires, PassesOn, Reuses}
use Rattle.conn_trace.specs.SentBodies.{is_answered}
use Rattle.conn_trace.specs.Setup.{Setup}
use Rattle.conn_trace.specs.State.{TraceState, stream_of}
use Rattle.conn_trace.specs.Messages.{answer_next, asked_version, body_end_next, dropping_next, fault_by, gathering_next, head_next, interim_next, is_counted, is_interim, request_next, response_next, reuse_next, sending_next, status_next}
use Rattle.conn.specs.Settling.{is_over}

refused_goes : (g : Setup) (l : TraceState) (f : HttpFault) (answered : Bool) → is_over (fault_by g l f answered) ≡ false
refused_goes g l f true = refl
refused_goes g l f false = refl

request_goes : (g : Setup) (l : TraceState) (n : ℕ) (r : Result Request HttpFault) → is_over (request_next g l n r) ≡ false
request_goes g l n (Ok r) = refl
request_goes g l n (Err f) = refused_goes g l f (is_answered Client f)

pub head_goes : (g : Setup) (l : TraceState) (p : HeadPart) → is_over (head_next g l p) ≡ false
head_goes g l (HeadOf n) = request_goes g l n (g.heads.request (take n l.client.unread))
head_goes g l StreamEnds = refl
head_goes g l (Faulty f) = refused_goes g l f (is_answered Client f)
head_goes g l NoHead = refl

interim_goes : (g : Setup) (l : TraceState) (n : ℕ) (r : Response) (v : Version) → is_over (interim_next g l n r v) ≡ false
interim_goes g l n r Http10 = refl
interim_goes g l n r Http11 = refl

status_goes : (g : Setup) (l : TraceState) (n : ℕ) (r : Response) (switches interim : Bool) → is_over (status_next g l n r switches interim) ≡ false
status_goes g l n r true interim = refl
status_goes g l n r false true = interim_goes g l n r (asked_version (http_of l.host).came)
status_goes g l n r false false = refl

response_goes : (g : Setup) (l : TraceState) (n : ℕ) (r : Result Response HttpFault) → is_over (response_next g l n r) ≡ false
response_goes g l n (Ok r) = status_goes g l n r (nat_eq r.head.status 101) (is_interim r.head)
response_goes g l n (Err f) = refl

pub answer_goes : (g : Setup) (l : TraceState) (p : HeadPart) → is_over (answer_next g l p) ≡ false
answer_goes g l (HeadOf n) = response_goes g l n (g.heads.response (http_of l.host).came (take n (stream_of Server l).unread))
answer_goes g l StreamEnds = refl
answer_goes g l (Faulty f) = refl
answer_goes g l NoHead = refl

pub reuse_goes : (g : Setup) (l : TraceState) (choices : List Choice) → is_over (reuse_next g l choices) ≡ false
reuse_goes g l [] = refl
reuse_goes g l (Reuses true ∷ more) = refl
reuse_goes g l (Reuses false ∷ more) = refl
reuse_goes g l (PassesOn side n ∷ more) = refl
reuse_goes g l (Fires side ∷ more) = refl

body_end_goes : (l : TraceState) (side : Side) (n : ℕ) (counted standing : Bool) → is_over (body_end_next l side n counted standing) ≡ false
body_end_goes l side n true standing = refl
body_end_goes l side n false standing = refl

pub sending_goes : (g : Setup) (l : TraceState) (side : Side) (s : BodyState) (standing : Bool) (p : Part) → is_over (sending_next g l side s standing p) ≡ false
sending_goes g l side s standing Byte = refl
sending_goes g l side s standing (Chunk n size) = refl
sending_goes g l side s standing (End n) = body_end_goes l side n (is_counted s) standing
sending_goes g l side s standing Pending = refl
sending_goes g l side s standing (Bad f) = refused_goes g l f (is_answered side f)

pub gathering_goes : (g : Setup) (l : TraceState) (side : Side) (wanted : ℕ) (s : BodyState) (p : Part) → is_over (gathering_next g l side wanted s p) ≡ false
gathering_goes g l side wanted s Byte = refl
gathering_goes g l side wanted s (Chunk n size) = refl
gathering_goes g l side wanted s (End n) = refl
gathering_goes g l side wanted s Pending = refl
gathering_goes g l side wanted s (Bad f) = refused_goes g l f (is_answered side f)

pub dropping_goes : (g : Setup) (l : TraceState) (s : BodyState) (p : Part) → is_over (dropping_next g l s p) ≡ false
dropping_goes g l s Byte = refl
dropping_goes g l s (Chunk n size) = refl
dropping_goes g l s (End n) = refl
dropping_goes g l s Pending = refl
dropping_goes g l s (Bad f) = refused_goes g l f (is_answered Client f)
