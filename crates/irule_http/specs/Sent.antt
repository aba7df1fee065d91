-- The heads that go out: of the message at hand as rules left it (RFC 9112, 9.3; RFC 9110, 7.6), and of a response
-- before the final one (RFC 9110, 15.2).
use Rattle.std.specs.Prelude.{◌≡◌, ℕ, ◌+◌, ◌-◌, ◌==◌, ◌≤◌, Bool, true, false, not, ◌||◌, List, [], length, min}
use Rattle.std.specs.Prelude.{Option, Some, None, Ok, if◌then◌else◌}
use Rattle.px_bytes.specs.declared.addr.Side.{Side}
use Rattle.px_bytes.specs.declared.addr.Side.TheVariants.{Client, Server}
use Rattle.http_frames.specs.declared.state.Body.{Body}
use Rattle.http_frames.specs.declared.state.Body.TheVariants as body
use Rattle.http_heads.specs.Forwarded.{forwarded_request, forwarded_response}
use Rattle.http_heads.specs.Heads.{GivesRequest, GivesResponse, bare_request, bare_response}
use Rattle.http_heads.specs.Laws.{IsRequestHead, IsResponseHead, forwarded_growth}
use Rattle.http_heads.specs.Written.{written_request, written_response}
use Rattle.http_heads.specs.declared.forwarded.ConnectionOption.{ConnectionOption}
use Rattle.http_heads.specs.declared.forwarded.ConnectionOption.TheVariants.{Close, KeepAlive}
use Rattle.http_heads.specs.declared.line.Version.{Version}
use Rattle.http_heads.specs.declared.line.Version.TheVariants.{Http10, Http11}
use Rattle.http_heads.specs.declared.request.RequestHead.{RequestHead}
use Rattle.http_heads.specs.declared.response.ResponseHead.{ResponseHead}
use Rattle.irule_http.specs.Laws.{HeadsWithin}
use Rattle.irule_http.specs.State.{persists_by}
use Rattle.irule_http.specs.declared.state.Http.{Http}
use Rattle.irule_http.specs.declared.state.Request.{Request}
use Rattle.irule_http.specs.declared.state.Response.{Response}

-- the greatest length that is told, which no body has
abbrev pub length_limit : ℕ
length_limit = 18446744073709551615

-- the length of a body of which so many bytes were gathered, in place of which so many go out; none where it stays
abbrev pub length_with : (size gathered now : ℕ) → Option ℕ
length_with size gathered now =
    if gathered == now then None else Some (min (size - gathered + now) length_limit)

-- a body alone whose length is told has another one where rules changed what was gathered of it
abbrev pub changed_length : Body → (gathered : Option ℕ) → (payload : List ℕ) → Option ℕ
changed_length (body.Length size) (Some gathered) payload =
    length_with size gathered (length payload)
changed_length other gathered payload = None

abbrev pub is_to_end : Body → Bool
is_to_end body.ToEnd = true
is_to_end other = false

abbrev pub lasts_to_end : Option Response → Bool
lasts_to_end None = false
lasts_to_end (Some r) = is_to_end r.body

-- The client's connection closes behind the message at hand: its heads say so, or a rule does.
abbrev pub closes_by_heads : Http → Bool
closes_by_heads h = not (persists_by h.came) || (h.closes || lasts_to_end h.answered_by)

-- behind an answer that says it
abbrev pub closes_behind : Option Bool → Http → Bool
closes_behind None h = closes_by_heads h
closes_behind (Some closes) h = closes || h.closes

abbrev pub client_closes : Http → Bool
client_closes h = closes_behind h.answer h

-- a client of 1.0 is told that its connection persists
abbrev pub keeps_alive : Version → Option ConnectionOption
keeps_alive Http10 = Some KeepAlive
keeps_alive Http11 = None

abbrev pub option_by : Bool → Option Request → Option ConnectionOption
option_by true came = Some Close
option_by false None = None
option_by false (Some r) = keeps_alive r.head.version

-- what a response says of the client's connection
abbrev pub option_of : Http → Option ConnectionOption
option_of h = option_by (closes_by_heads h) h.came

abbrev pub request_out : Http → RequestHead → RequestHead
request_out h head = forwarded_request (changed_length h.body h.gathered h.payload) head

abbrev pub response_out : Http → ResponseHead → ResponseHead
response_out h head =
    forwarded_response (changed_length h.body h.gathered h.payload) (option_of h) head

abbrev pub request_text : Http → Option RequestHead → List ℕ
request_text h None = []
request_text h (Some head) = written_request (request_out h head)

abbrev pub response_text : Http → Option ResponseHead → List ℕ
response_text h None = []
response_text h (Some head) = written_response (response_out h head)

-- the head of a side's message as it goes out to the other; none where there is no message
abbrev pub sent_head : Side → Http → List ℕ
sent_head Client h = request_text h h.request
sent_head Server h = response_text h h.response

-- a response before the final one as it goes out, of which nothing is known but its head
abbrev pub interim_head : Response → List ℕ
interim_head r = written_response (forwarded_response None None r.head)

-- ---- what holds of them

-- Heads of at most so many bytes are hardly longer as they go out.
abbrev pub SentHeadsFit : Type 0
SentHeadsFit = (most : ℕ) (side : Side) (h : Http) → HeadsWithin most h
    → length (sent_head side h) ≤ most + forwarded_growth

abbrev pub InterimHeadsFit : Type 0
InterimHeadsFit = (most : ℕ) (r : Response) → length (written_response r.head) ≤ most
    → length (interim_head r) ≤ most + forwarded_growth

-- What goes out is read back as that head, without the white space around its values; of a response where it has at
-- most 100 fields with the one that is added.
abbrev pub SentRequestIsRead : Type 0
SentRequestIsRead = (h : Http) (head : RequestHead) → h.request ≡ Some head → IsRequestHead head
    → GivesRequest (Ok (bare_request (request_out h head))) (sent_head Client h)

abbrev pub SentResponseIsRead : Type 0
SentResponseIsRead = (h : Http) (head : ResponseHead) → h.response ≡ Some head → IsResponseHead head
    → length (response_out h head).fields ≤ 100
    → GivesResponse (Ok (bare_response (response_out h head))) (sent_head Server h)
