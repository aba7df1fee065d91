-- The head of a request that was read tells how long the body behind it is.
use Rattle.std.proofs.Common.{◌≡◌, refl, subst, ℕ, Bool, true, false, List, Result, Ok, Err}
use Rattle.px_bytes.specs.declared.fault.HttpFault.{HttpFault}
use Rattle.http_heads.specs.Fields.{are_trimmed, is_named, named}
use Rattle.http_heads.specs.Heads.{GivesRequest}
use Rattle.http_heads.specs.Laws.{IsRequestHead}
use Rattle.http_heads.specs.Reading.{read_request, told}
use Rattle.http_heads.specs.Received.{received_request}
use Rattle.http_heads.specs.Targets.{is_connect}
use Rattle.http_heads.specs.declared.request.RequestHead.{RequestHead}
use Rattle.http_heads.proofs.HeadsRead.{request_is_read}
use Rattle.http_frames.specs.Bodies.{request_body}
use Rattle.http_frames.specs.declared.state.Body.{Body}
use Rattle.http_messages.specs.Messages.{as_request, framing_of, request_of, request_with, seen_request, unless_connect}
use Rattle.irule_http.specs.declared.state.Request.{Request}
use Rattle.forwarded_requests.proofs.PassedFields.{coding, size}
use Rattle.forwarded_requests.proofs.ReceivedHeads.{Came, came, filter_trimmed, received}

-- a head tells how long this body is, by fields that have no white space around their values
pub record Tells (b : Body) (head : RequestHead) : Type 0 where
  pub is : IsRequestHead head
  pub codings : are_trimmed (named coding head.fields) ≡ true
  pub sizes : are_trimmed (named size head.fields) ≡ true
  pub framed : request_body head ≡ Ok b

unless_by : (b : Bool) (x : Result Body HttpFault) (found : Body) → unless_connect b x ≡ Ok found → x ≡ Ok found
unless_by true (Ok other) found is = absurd (cc)
unless_by true (Err f) found is = is
unless_by false x found is = is

request_tells : (head seen : RequestHead) (x : Result Body HttpFault) (r : Request) → Came seen → framing_of seen ≡ x
    → request_with head seen x ≡ Ok r → Tells r.body r.head
request_tells head seen (Err f) r k framing is = absurd (cc)
request_tells head seen (Ok found) r k framing is =
    let body : found ≡ r.body = cc in
    let same : seen ≡ r.head = cc in
    let tells : Tells found seen = record {
      is = k.is;
      codings = filter_trimmed (is_named coding) seen.fields k.trimmed;
      sizes = filter_trimmed (is_named size) seen.fields k.trimmed;
      framed = unless_by (is_connect seen.method) (request_body seen) found framing;
    } in
    subst (λ b. Tells b r.head) body (subst (Tells found) same tells)

seen_tells : (head : RequestHead) (seen : Result RequestHead HttpFault) (r : Request) → Came head → received_request head ≡ seen
    → seen_request head seen ≡ Ok r → Tells r.body r.head
seen_tells head (Err f) r k there is = absurd (cc)
seen_tells head (Ok seen) r k there is = request_tells head seen (framing_of seen) r (received head seen k there) refl is

came_tells : (bytes : List ℕ) (head : Result RequestHead HttpFault) (r : Request) → GivesRequest (told head) bytes
    → as_request head ≡ Ok r → Tells r.body r.head
came_tells bytes (Err f) r gives is = absurd (cc)
came_tells bytes (Ok head) r gives is = seen_tells head (received_request head) r (came bytes head gives) refl is

-- of a request that was read
pub read_tells : (bytes : List ℕ) (r : Request) → request_of bytes ≡ Ok r → Tells r.body r.head
read_tells bytes r is = came_tells bytes (read_request bytes) r (request_is_read bytes).0 is
