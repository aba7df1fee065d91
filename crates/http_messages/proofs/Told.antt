-- What is read in steps, the first fault of which ends it; out of memory is free.
use Rattle.std.proofs.Common.{◌≡◌, ℕ, refl, ap, sym, ◌∙◌, Option, Result, Ok, Err, List, subst}
use Rattle.px_bytes.specs.declared.fault.HttpFault.{HttpFault}
use Rattle.http_frames.specs.declared.state.Body.{Body}
use Rattle.http_heads.specs.Reading.{IsTold, read_request, read_response, told}
use Rattle.http_heads.specs.Received.{received_request, received_response}
use Rattle.http_heads.specs.declared.fault.HeadFault.{HeadFault}
use Rattle.http_heads.specs.declared.fault.HeadFault.TheVariants.{Fault, Memory}
use Rattle.http_heads.specs.declared.request.RequestHead.{RequestHead}
use Rattle.http_heads.specs.declared.response.ResponseHead.{ResponseHead}
use Rattle.http_messages.specs.Messages.{as_request, as_response, framing_of, request_of, request_with, response_of, seen_request, seen_response}
use Rattle.irule_http.specs.declared.state.Request.{Request}
use Rattle.irule_http.specs.declared.state.Response.{Response}

-- what was given is what stands there
ok_read : {A : Type 0} (a : A) (r : Result A HttpFault) → IsTold (Ok a) r → r ≡ Ok a
ok_read a (Ok b) is = cc is
ok_read a (Err f) is = absurd (cc is)

-- a step's fault is the fault of all
err_along : {A B : Type 0} (e : HeadFault) (r : Result A HttpFault) (next : Result A HttpFault → Result B HttpFault)
    → ((f : HttpFault) → next (Err f) ≡ Err f) → IsTold {A = A} (Err e) r → IsTold {A = B} (Err e) (next r)
err_along Memory r next keeps is = tt
err_along (Fault f) (Ok a) next keeps is = absurd (cc is)
err_along (Fault f) (Err g) next keeps is = let e : f ≡ g = cc is in ap (λ x. Err (Fault x)) e ∙ ap told (sym (keeps g))

pub request_unread : (bytes : List ℕ) (e : HeadFault) → IsTold (Err e) (read_request bytes) → IsTold (Err e) (request_of bytes)
request_unread bytes e is = err_along e (read_request bytes) as_request (λ f. refl) is

pub request_read : (bytes : List ℕ) (came : RequestHead) (got : Result Request HeadFault) → IsTold (Ok came) (read_request bytes)
    → IsTold got (seen_request came (received_request came)) → IsTold got (request_of bytes)
request_read bytes came got read is = subst (λ r. IsTold got (as_request r)) (sym (ok_read came (read_request bytes) read)) is

pub request_unseen : (came : RequestHead) (e : HeadFault) → IsTold (Err e) (received_request came) → IsTold (Err e) (seen_request came (received_request came))
request_unseen came e is = err_along e (received_request came) (seen_request came) (λ f. refl) is

pub request_seen : (came seen : RequestHead) (found : Result Body HttpFault) → IsTold (Ok seen) (received_request came) → found ≡ framing_of seen
    → told (request_with came seen found) ≡ told (seen_request came (received_request came))
request_seen came seen found is framed =
    sym (ap (λ r. told (seen_request came r)) (ok_read seen (received_request came) is) ∙ ap (λ b. told (request_with came seen b)) (sym framed))

pub response_unread : (asked : Option Request) (bytes : List ℕ) (e : HeadFault) → IsTold (Err e) (read_response bytes) → IsTold (Err e) (response_of asked bytes)
response_unread asked bytes e is = err_along e (read_response bytes) (as_response asked) (λ f. refl) is

pub response_read : (asked : Option Request) (bytes : List ℕ) (came : ResponseHead) (got : Result Response HeadFault) → IsTold (Ok came) (read_response bytes)
    → IsTold got (seen_response asked came (received_response came)) → IsTold got (response_of asked bytes)
response_read asked bytes came got read is = subst (λ r. IsTold got (as_response asked r)) (sym (ok_read came (read_response bytes) read)) is
