-- What is known of a request and of its response, as a connection begins and at each event (iRules: HTTP).
use Rattle.std.specs.Prelude.{List, [], Bool, true, false, not, ◌&&◌, ◌||◌, Option, Some, None}
use Rattle.std.specs.Prelude.{is_some}
use Rattle.event_order.specs.declared.event.EventName.{EventName}
use Rattle.event_order.specs.declared.event.EventName.TheVariants.{HttpResponse}
use Rattle.event_order.specs.declared.event.EventName.TheVariants.{HttpResponseData}
use Rattle.http_frames.specs.declared.state.Body.TheVariants as body
use Rattle.http_frames.specs.declared.state.BodyState.TheVariants as reader
use Rattle.http_heads.specs.Fields.{Pair}
use Rattle.http_heads.specs.declared.request.RequestHead.{RequestHead}
use Rattle.http_heads.specs.declared.response.ResponseHead.{ResponseHead}
use Rattle.irule_http.specs.declared.state.Http.{Http}
use Rattle.irule_http.specs.declared.state.Request.{Request}

abbrev pub no_http : Http
no_http = record {
  number = 0;
  came = None;
  request = None;
  answered_by = None;
  response = None;
  body = body.None;
  reader = reader.Left 0;
  whole = false;
  collect = 0;
  gathered = None;
  payload = [];
  closes = false;
  answer = None;
  made = 0;
  detaches = false;
  serves = None;
}

-- an event begins: its bodies have asked for nothing and made nothing yet
abbrev pub begun : Http → Http
begun h = record h { collect = 0; made = 0 }

-- the events of a response
abbrev pub is_response : EventName → Bool
is_response HttpResponse = true
is_response HttpResponseData = true
is_response event = false

-- the event's message is there: the request, and in the events of a response the response too
abbrev pub is_there : EventName → Http → Bool
is_there event h = is_some h.request && (not (is_response event) || is_some h.response)

-- the client's connection persists by the request as it came
abbrev pub persists_by : Option Request → Bool
persists_by None = false
persists_by (Some r) = r.persists

-- the client waits to be told to go on
abbrev pub expects_by : Option Request → Bool
expects_by None = false
expects_by (Some r) = r.expects

abbrev pub request_fields : Option RequestHead → Option (List Pair)
request_fields None = None
request_fields (Some head) = Some head.fields

abbrev pub response_fields : Option ResponseHead → Option (List Pair)
response_fields None = None
response_fields (Some head) = Some head.fields

-- the fields of the event's message
abbrev pub fields_of : Bool → Http → Option (List Pair)
fields_of true h = response_fields h.response
fields_of false h = request_fields h.request

abbrev pub fields_here : EventName → Http → Option (List Pair)
fields_here event h = fields_of (is_response event) h
