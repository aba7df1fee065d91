-- The limits of a head: at most 100 fields, and 65,536 bytes as it is written.
use Rattle.std.specs.Prelude.{ℕ, Bool, true, false, ◌&&◌, List, length, Option, Some, None, nat_le}
use Rattle.http_heads.specs.Fields.{Pair, without}
use Rattle.http_heads.specs.Written.{written_request}
use Rattle.http_heads.specs.declared.request.RequestHead.{RequestHead}
use Rattle.http_heads.specs.declared.response.ResponseHead.{ResponseHead}
use Rattle.http_answers.specs.Limits.{head_limit, response_fits}
use Rattle.event_order.specs.declared.event.EventName.{EventName}
use Rattle.irule_http.specs.State.{is_response}
use Rattle.irule_http.specs.declared.state.Http.{Http}

abbrev pub request_fits : RequestHead → Bool
request_fits head =
    nat_le (length head.fields) 100 && nat_le (length (written_request head)) head_limit

abbrev pub request_with : List Pair → RequestHead → RequestHead
request_with fields head = record head { fields = fields }

abbrev pub response_with : List Pair → ResponseHead → ResponseHead
response_with fields head = record head { fields = fields }

abbrev pub target_with : List ℕ → RequestHead → RequestHead
target_with target head = record head { target = target }

-- the request's head with these fields, and the response's
abbrev pub request_left : List Pair → Option RequestHead → Option RequestHead
request_left fields None = None
request_left fields (Some head) = Some (request_with fields head)

abbrev pub response_left : List Pair → Option ResponseHead → Option ResponseHead
response_left fields None = None
response_left fields (Some head) = Some (response_with fields head)

-- the event's message with these fields
abbrev pub left_by : Bool → List Pair → Http → Http
left_by true fields h = record h { response = response_left fields h.response }
left_by false fields h = record h { request = request_left fields h.request }

abbrev pub left_with : EventName → List Pair → Http → Http
left_with event fields h = left_by (is_response event) fields h

-- a head without the fields of a name
abbrev pub request_without : List ℕ → Option RequestHead → Option RequestHead
request_without name None = None
request_without name (Some head) = Some (request_with (without name head.fields) head)

abbrev pub response_without : List ℕ → Option ResponseHead → Option ResponseHead
response_without name None = None
response_without name (Some head) = Some (response_with (without name head.fields) head)

abbrev pub without_by : Bool → List ℕ → Http → Http
without_by true name h = record h { response = response_without name h.response }
without_by false name h = record h { request = request_without name h.request }

-- the event's message is within its limits with these fields
abbrev pub request_holds : List Pair → Option RequestHead → Bool
request_holds fields None = false
request_holds fields (Some head) = request_fits (request_with fields head)

abbrev pub response_holds : List Pair → Option ResponseHead → Bool
response_holds fields None = false
response_holds fields (Some head) = response_fits (response_with fields head)

abbrev pub holds_by : Bool → List Pair → Http → Bool
holds_by true fields h = response_holds fields h.response
holds_by false fields h = request_holds fields h.request

abbrev pub holds : EventName → List Pair → Http → Bool
holds event fields h = holds_by (is_response event) fields h
