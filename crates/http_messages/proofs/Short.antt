-- Heads that were read are hardly longer as they are written.
use Rattle.std.proofs.Common.{◌≡◌, ℕ, ◌+◌, refl, Option, Some, Result, Ok, Err, List, length, subst}
use Rattle.px_bytes.specs.declared.fault.HttpFault.{HttpFault}
use Rattle.http_frames.specs.declared.state.Body.{Body}
use Rattle.http_heads.specs.Heads.{GivesRequest, GivesResponse}
use Rattle.http_heads.specs.Laws.{growth}
use Rattle.http_heads.specs.Reading.{read_request, read_response, told}
use Rattle.http_heads.specs.Received.{received_request, received_response}
use Rattle.http_heads.specs.declared.request.RequestHead.{RequestHead}
use Rattle.http_heads.specs.declared.response.ResponseHead.{ResponseHead}
use Rattle.http_heads.proofs.HeadsRead.{request_is_read, response_is_read}
use Rattle.http_heads.proofs.ReadLengths.{request_short, response_short}
use Rattle.http_messages.specs.Laws.{RequestsAreShort, ResponsesAreShort}
use Rattle.http_messages.specs.Messages.{as_request, as_response, asked_body, framing_of, request_with, response_with, seen_request}
use Rattle.irule_http.specs.Laws.{RequestWithin, ResponseWithin}
use Rattle.irule_http.specs.declared.state.Request.{Request}
use Rattle.irule_http.specs.declared.state.Response.{Response}

-- the head of what is made is the one that is seen
head_made : (came seen : RequestHead) (found : Result Body HttpFault) (r : Request) → request_with came seen found ≡ Ok r → seen ≡ r.head
head_made came seen (Err f) r e = absurd (cc e)
head_made came seen (Ok found) r e = cc e

request_seen : (bytes : List ℕ) (came : RequestHead) → GivesRequest (Ok came) bytes → (seen : Result RequestHead HttpFault) → received_request came ≡ seen
    → (r : Request) → seen_request came seen ≡ Ok r → RequestWithin (length bytes + growth) (Some r.head)
request_seen bytes came gives (Err f) is r e = absurd (cc e)
request_seen bytes came gives (Ok seen) is r e =
    subst (λ h. RequestWithin (length bytes + growth) (Some h)) (head_made came seen (framing_of seen) r e)
    (request_short bytes came seen gives is)

request_came : (bytes : List ℕ) (came : Result RequestHead HttpFault) → GivesRequest (told came) bytes
    → (r : Request) → as_request came ≡ Ok r → RequestWithin (length bytes + growth) (Some r.head)
request_came bytes (Err f) gives r e = absurd (cc e)
request_came bytes (Ok came) gives r e = request_seen bytes came gives (received_request came) refl r e

pub requests_short : RequestsAreShort
requests_short bytes r e = request_came bytes (read_request bytes) ((request_is_read bytes).0) r e

answer_made : (came seen : ResponseHead) (found : Result Body HttpFault) (r : Response) → response_with came seen found ≡ Ok r → seen ≡ r.head
answer_made came seen (Err f) r e = absurd (cc e)
answer_made came seen (Ok found) r e = cc e

response_came : (asked : Option Request) (bytes : List ℕ) (came : Result ResponseHead HttpFault) → GivesResponse (told came) bytes
    → (r : Response) → as_response asked came ≡ Ok r → ResponseWithin (length bytes + growth) (Some r.head)
response_came asked bytes (Err f) gives r e = absurd (cc e)
response_came asked bytes (Ok came) gives r e =
    let seen = received_response came in
    subst (λ h. ResponseWithin (length bytes + growth) (Some h)) (answer_made came seen (asked_body asked seen) r e)
    (response_short bytes came gives)

pub responses_short : ResponsesAreShort
responses_short asked bytes r e = response_came asked bytes (read_response bytes) ((response_is_read bytes).0) r e
