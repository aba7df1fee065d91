-- What a connection knows of the messages of one request, as they begin and as their bodies are gathered.
use Rattle.std.specs.Prelude.{ℕ, ◌+◌, ◌-◌, List, [], ◌++◌, length, min}
use Rattle.std.specs.Prelude.{Bool, true, false, not, ◌&&◌, Option, Some, None, Result, Err}
use Rattle.std.specs.Prelude.{if◌then◌else◌}
use Rattle.px_bytes.specs.declared.addr.Side.{Side}
use Rattle.px_bytes.specs.declared.fault.HttpFault.{HttpFault}
use Rattle.px_bytes.specs.declared.fault.HttpFault.TheVariants.{BadHead}
use Rattle.http_frames.specs.States.{beginning}
use Rattle.http_frames.specs.declared.state.BodyState.{BodyState}
use Rattle.http_frames.specs.declared.state.BodyState.TheVariants as state
use Rattle.irule_http.specs.Payload.{payload_limit}
use Rattle.http_answers.specs.Refusals.{refusal}
use Rattle.http_messages.specs.Messages.{request_of, response_of}
use Rattle.irule_http.specs.Sent.{client_closes, interim_head, is_to_end, sent_head}
use Rattle.irule_http.specs.State.{no_http}
use Rattle.irule_http.specs.declared.state.Http.{Http}
use Rattle.irule_http.specs.declared.state.Request.{Request}
use Rattle.irule_http.specs.declared.state.Response.{Response}
use Rattle.conn_trace.specs.Fronts.{is_at_end}

-- How heads are read and written: a request's with its faults; a response's by the request that it answers; the head
-- of either message as it is sent on; a response before the final one; the answer to a fault.
pub record Heads : Type 0 where
  pub request : List ℕ → Result Request HttpFault
  pub response : Option Request → List ℕ → Result Response HttpFault
  pub sent : Side → Http → List ℕ
  pub interim : Response → List ℕ
  pub refusal : HttpFault → List ℕ

-- as every connection that speaks HTTP does it
abbrev pub the_heads : Heads
the_heads = record {
  request = request_of;
  response = response_of;
  sent = sent_head;
  interim = interim_head;
  refusal = refusal;
}

-- where no HTTP is spoken no head is read
abbrev pub no_heads : Heads
no_heads = record {
  request = λ bytes. Err BadHead;
  response = λ came bytes. Err BadHead;
  sent = λ side h. [];
  interim = λ r. [];
  refusal = λ f. [];
}

abbrev pub number_limit : ℕ
number_limit = 9223372036854775807

-- a request begins: of the one before only its number and the server connection's choice are left
abbrev pub request_begun : Request → Http → Http
request_begun r h = record no_http {
  number = min (h.number + 1) number_limit;
  came = Some r;
  request = Some r.head;
  body = r.body;
  reader = beginning r.body;
  whole = false;
  serves = h.serves;
}

-- its response begins
abbrev pub response_begun : Response → Http → Http
response_begun r h = record h {
  answered_by = Some r;
  response = Some r.head;
  body = r.body;
  reader = beginning r.body;
  whole = false;
  collect = 0;
  gathered = None;
  payload = [];
  detaches = false;
}

-- the server's connection persists by its response, unless that lasts to the end of its stream (RFC 9112, 6.3 and 9.3)
abbrev pub server_persisting : Option Response → Bool
server_persisting None = true
server_persisting (Some r) = r.persists && not (is_to_end r.body)

-- the client connection goes on behind its message, or behind a rule's answer
abbrev pub client_goes_on : Http → Bool
client_goes_on h = not (client_closes h)

-- ---- what is gathered

-- how many bytes more a collect gathers
abbrev pub wanted_more : Http → ℕ
wanted_more h = if h.whole then 0 else min h.collect (payload_limit - length h.payload)

abbrev pub gathered_so : Option ℕ → ℕ
gathered_so None = 0
gathered_so (Some n) = n

-- bytes of a body were gathered, behind which the reader stands
abbrev pub with_gathered : List ℕ → BodyState → Http → Http
with_gathered bytes s h = record h {
  reader = s;
  whole = is_at_end s;
  gathered = Some (gathered_so h.gathered + length bytes);
  payload = h.payload ++ bytes;
}

-- the body was read whole: nothing of it is left to be dropped
abbrev pub with_whole : Http → Http
with_whole h = record h { reader = state.Left 0; whole = true; gathered = Some (gathered_so h.gathered) }
