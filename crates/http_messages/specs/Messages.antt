-- Messages as they are read: a head (`http_heads`), how the length of the body behind it is known (`http_frames`), and
-- what it says of its connection. Of several faults of a head the first in the order of `HttpFault` counts.
use Rattle.std.specs.Prelude.{ℕ, Bool, true, List, [], Option, Some, None, Result, Ok, Err}
use Rattle.px_bytes.specs.declared.fault.HttpFault.{HttpFault}
use Rattle.px_bytes.specs.declared.fault.HttpFault.TheVariants.{Method}
use Rattle.http_frames.specs.Bodies.{request_body, response_body}
use Rattle.http_frames.specs.declared.state.Body.{Body}
use Rattle.http_heads.specs.Reading.{read_request, read_response}
use Rattle.http_heads.specs.Received.{received_request, received_response}
use Rattle.http_heads.specs.Targets.{is_connect}
use Rattle.http_heads.specs.declared.line.Version.TheVariants.{Http10}
use Rattle.http_heads.specs.declared.request.RequestHead.{RequestHead}
use Rattle.http_heads.specs.declared.response.ResponseHead.{ResponseHead}
use Rattle.http_messages.specs.Connections.{asks_continue, expects, persists}
use Rattle.irule_http.specs.declared.state.Request.{Request}
use Rattle.irule_http.specs.declared.state.Response.{Response}

-- CONNECT isn't served, whose fault comes behind that of its framing
abbrev pub unless_connect : Bool → Result Body HttpFault → Result Body HttpFault
unless_connect true (Ok found) = Err Method
unless_connect b found = found

abbrev pub framing_of : RequestHead → Result Body HttpFault
framing_of head = unless_connect (is_connect head.method) (request_body head)

-- a request by its head as it came, which says what its connection does, and as rules see it
abbrev pub request_with : (came seen : RequestHead) → Result Body HttpFault → Result Request HttpFault
request_with came seen (Err f) = Err f
request_with came seen (Ok found) = Ok (record {
  head = seen;
  body = found;
  persists = persists came.version came.fields;
  expects = expects came.version found (asks_continue came.fields);
})

abbrev pub seen_request : (came : RequestHead) → Result RequestHead HttpFault → Result Request HttpFault
seen_request came (Err f) = Err f
seen_request came (Ok seen) = request_with came seen (framing_of seen)

abbrev pub as_request : Result RequestHead HttpFault → Result Request HttpFault
as_request (Err f) = Err f
as_request (Ok came) = seen_request came (received_request came)

-- the request whose head these bytes are
abbrev pub request_of : List ℕ → Result Request HttpFault
request_of bytes = as_request (read_request bytes)

abbrev pub response_with : (came seen : ResponseHead) → Result Body HttpFault → Result Response HttpFault
response_with came seen (Err f) = Err f
response_with came seen (Ok found) = Ok (record {
  head = seen;
  body = found;
  persists = persists came.version came.fields;
})

-- the length of its body goes by the method and the version of the request that it answers
abbrev pub asked_body : Option Request → ResponseHead → Result Body HttpFault
asked_body None head = response_body head [] Http10
asked_body (Some r) head = response_body head r.head.method r.head.version

abbrev pub seen_response : Option Request → (came seen : ResponseHead) → Result Response HttpFault
seen_response asked came seen = response_with came seen (asked_body asked seen)

abbrev pub as_response : Option Request → Result ResponseHead HttpFault → Result Response HttpFault
as_response asked (Err f) = Err f
as_response asked (Ok came) = seen_response asked came (received_response came)

-- the response whose head these bytes are, by the request that it answers
abbrev pub response_of : Option Request → List ℕ → Result Response HttpFault
response_of asked bytes = as_response asked (read_response bytes)
