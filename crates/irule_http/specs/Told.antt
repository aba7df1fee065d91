-- What HTTP commands tell of a message (iRules: HTTP::uri, HTTP::path, HTTP::query, HTTP::method, HTTP::host,
-- HTTP::request_num, HTTP::version, HTTP::status, HTTP::header, HTTP::cookie, HTTP::payload).
use Rattle.std.specs.Prelude.{ℕ, ◌==◌, Bool, true, false, List, [], length, codes, map, Option, Some}
use Rattle.std.specs.Prelude.{None, nat_lt, is_some}
use Rattle.std.specs.Fmt.{decimal}
use Rattle.std.specs.List.{after_first, before_first}
use Rattle.tcl_lists.specs.Write as list
use Rattle.event_order.specs.declared.event.EventName.{EventName}
use Rattle.http_heads.specs.Fields.{Pair, last_value, named}
use Rattle.http_heads.specs.declared.line.Version.{Version}
use Rattle.http_heads.specs.declared.line.Version.TheVariants.{Http10, Http11}
use Rattle.http_heads.specs.declared.request.RequestHead.{RequestHead}
use Rattle.http_heads.specs.declared.response.ResponseHead.{ResponseHead}
use Rattle.http_cookies.specs.MessageCookies.{cookie_called, message_cookies}
use Rattle.irule_http.specs.Forms.{word_at}
use Rattle.irule_http.specs.State.{fields_here, is_response}
use Rattle.irule_http.specs.declared.form.Form.{Form}
use Rattle.irule_http.specs.declared.form.Form.TheVariants as form
use Rattle.irule_http.specs.declared.state.Http.{Http}

-- `b'?'`
abbrev pub is_question : ℕ → Bool
is_question byte = byte == 63

abbrev pub bit : Bool → List ℕ
bit true = codes "1"
bit false = codes "0"

abbrev pub text_of : Option (List ℕ) → List ℕ
text_of None = []
text_of (Some text) = text

abbrev pub version_text : Version → List ℕ
version_text Http10 = codes "1.0"
version_text Http11 = codes "1.1"

-- what is told of the request's first line, and of its host
abbrev pub request_told : Form → Option RequestHead → List ℕ
request_told form None = []
request_told form.Uri (Some head) = head.target
request_told form.Path (Some head) = before_first is_question head.target
request_told form.Query (Some head) = after_first is_question head.target
request_told form.Method (Some head) = head.method
request_told form.Host (Some head) = text_of (last_value (codes "host") head.fields)
request_told form.Version (Some head) = version_text head.version
request_told form (Some head) = []

-- what is told of the response's first line
abbrev pub response_told : Form → Option ResponseHead → List ℕ
response_told form None = []
response_told form.Version (Some head) = version_text head.version
response_told form.Status (Some head) = decimal head.status
response_told form (Some head) = []

-- the version of the event's message
abbrev pub version_told : Bool → Http → List ℕ
version_told true h = response_told form.Version h.response
version_told false h = request_told form.Version h.request

-- what is told of fields, of those of a name or of all
abbrev pub fields_told : Form → List ℕ → Option (List Pair) → List ℕ
fields_told form name None = []
fields_told form.Field name (Some fields) = text_of (last_value name fields)
fields_told form.FieldValue name (Some fields) = text_of (last_value name fields)
fields_told form.FieldValues name (Some fields) =
    list.joined (map (λ f. f.1) (named name fields))
fields_told form.FieldCount name (Some fields) = decimal (length (named name fields))
fields_told form.FieldExists name (Some fields) = bit (nat_lt 0 (length (named name fields)))
fields_told form.FieldNames name (Some fields) = list.joined (map (λ f. f.0) fields)
fields_told form name (Some fields) = []

abbrev pub value_of : Option Pair → List ℕ
value_of None = []
value_of (Some cookie) = cookie.1

-- what is told of cookies, of the first of a name or of all
abbrev pub cookies_told : Form → List ℕ → List Pair → List ℕ
cookies_told form.CookieValue name found = value_of (cookie_called name found)
cookies_told form.CookieExists name found = bit (is_some (cookie_called name found))
cookies_told form.CookieNames name found = list.joined (map (λ c. c.0) found)
cookies_told form.CookieCount name found = decimal (length found)
cookies_told form name found = []

abbrev pub cookies_of : Bool → Option (List Pair) → List Pair
cookies_of response None = []
cookies_of response (Some fields) = message_cookies response fields

-- the cookies of the event's message
abbrev pub cookies_here : EventName → Http → List Pair
cookies_here event h = cookies_of (is_response event) (fields_here event h)

-- what a form tells
abbrev pub told : EventName → Form → List (List ℕ) → Http → List ℕ
told event form.RequestNum words h = decimal h.number
told event form.Version words h = version_told (is_response event) h
told event form.Status words h = response_told form.Status h.response
told event form.Field words h = fields_told form.Field (word_at words 0) (fields_here event h)
told event form.FieldValue words h =
    fields_told form.FieldValue (word_at words 1) (fields_here event h)
told event form.FieldValues words h =
    fields_told form.FieldValues (word_at words 1) (fields_here event h)
told event form.FieldCount words h =
    fields_told form.FieldCount (word_at words 1) (fields_here event h)
told event form.FieldExists words h =
    fields_told form.FieldExists (word_at words 1) (fields_here event h)
told event form.FieldNames words h =
    fields_told form.FieldNames (word_at words 1) (fields_here event h)
told event form.CookieValue words h =
    cookies_told form.CookieValue (word_at words 1) (cookies_here event h)
told event form.CookieExists words h =
    cookies_told form.CookieExists (word_at words 1) (cookies_here event h)
told event form.CookieNames words h =
    cookies_told form.CookieNames (word_at words 1) (cookies_here event h)
told event form.CookieCount words h =
    cookies_told form.CookieCount (word_at words 1) (cookies_here event h)
told event form.Payload words h = h.payload
told event form.PayloadLength words h = decimal (length h.payload)
told event form words h = request_told form h.request
