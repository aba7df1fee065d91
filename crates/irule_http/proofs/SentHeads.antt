-- The heads that go out are heads, and hardly longer.
use Rattle.std.proofs.Common.{◌≡◌, ℕ, ◌+◌, ◌-◌, ◌^◌, ◌<◌, ◌≤◌, Bool, true, false, cond, Option, Some, None, Ok, length, refl, sym, ap, subst, ◌∙◌, arith}
use Rattle.std.specs.Prelude.{List, min, ◌==◌}
use Rattle.px_bytes.specs.declared.addr.Side.{Side}
use Rattle.px_bytes.specs.declared.addr.Side.TheVariants.{Client, Server}
use Rattle.http_frames.specs.declared.state.Body.{Body}
use Rattle.http_frames.specs.declared.state.Body.TheVariants as body
use Rattle.http_heads.specs.Fields.{AreFields}
use Rattle.http_heads.specs.Heads.{GivesRequest, GivesResponse, bare_request, bare_response}
use Rattle.http_heads.specs.Laws.{FitsWord, forwarded_growth}
use Rattle.http_heads.specs.Written.{written_request, written_response}
use Rattle.http_heads.specs.declared.request.RequestHead.{RequestHead}
use Rattle.http_heads.specs.declared.response.ResponseHead.{ResponseHead}
use Rattle.http_heads.proofs.Forwarding.{request_fields, request_short, response_fields, response_short}
use Rattle.http_heads.proofs.ReadBack.{request_comes_back, response_comes_back}
use Rattle.irule_http.specs.Laws.{RequestWithin, ResponseWithin}
use Rattle.irule_http.specs.Sent.{InterimHeadsFit, SentHeadsFit, SentRequestIsRead, SentResponseIsRead}
use Rattle.irule_http.specs.Sent.{changed_length, length_limit, length_with, option_of, request_out, request_text, response_out, response_text, sent_head}
use Rattle.irule_http.specs.declared.state.Http.{Http}

word_by : (b : Bool) (n : ℕ) → FitsWord (cond b None (Some (min n length_limit)))
word_by true n = tt
word_by false n = omega arith

changed_fits : (of : Body) (gathered : Option ℕ) (payload : List ℕ) → FitsWord (changed_length of gathered payload)
changed_fits (body.Length size) (Some gathered) payload = word_by (gathered == length payload) (size - gathered + length payload)
changed_fits (body.Length size) None payload = tt
changed_fits body.Chunked gathered payload = tt
changed_fits body.ToEnd gathered payload = tt
changed_fits body.None gathered payload = tt

abbrev told : Http → Option ℕ
told h = changed_length h.body h.gathered h.payload

fits : (h : Http) → FitsWord (told h)
fits h = changed_fits h.body h.gathered h.payload

request_within : (most : ℕ) (h : Http) (head : Option RequestHead) → RequestWithin most head → length (request_text h head) ≤ most + forwarded_growth
request_within most h None within = omega arith
request_within most h (Some head) within = omega (arith, within.1, request_short (told h) head (fits h))

response_within : (most : ℕ) (h : Http) (head : Option ResponseHead) → ResponseWithin most head → length (response_text h head) ≤ most + forwarded_growth
response_within most h None within = omega arith
response_within most h (Some head) within = omega (arith, within.1, response_short (told h) (option_of h) head (fits h))

pub sent_fits : SentHeadsFit
sent_fits most Client h within = request_within most h h.request within.request
sent_fits most Server h within = response_within most h h.response within.response

pub interim_fits : InterimHeadsFit
interim_fits most r within = omega (arith, within, response_short None None r.head tt)

pub request_read : SentRequestIsRead
request_read h head there is =
    let out = request_out h head in
    subst (λ o. GivesRequest (Ok (bare_request out)) (request_text h o)) (sym there)
    (request_comes_back out is.method is.target (request_fields (told h) head is.fields))

pub response_read : SentResponseIsRead
response_read h head there is few =
    let out = response_out h head in
    let fields : AreFields out.fields = record { are = response_fields (told h) (option_of h) head is.fields; few = few } in
    subst (λ o. GivesResponse (Ok (bare_response out)) (response_text h o)) (sym there)
    (response_comes_back out is.status is.reason fields)
