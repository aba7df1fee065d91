-- What `HTTP::respond` and `HTTP::redirect` send (iRules: HTTP::respond, HTTP::redirect; RFC 9110, 15; RFC 9112,
-- 6.3: a response to HEAD, a 204 and a 304 have no content, and the latter two no length).
use Rattle.std.specs.Prelude.{ℕ, ◌+◌, ℤ, pos, negsuc, Bool, true, false, not, ◌&&◌, ◌||◌, List, [], ◌∷◌}
use Rattle.std.specs.Prelude.{length, codes, Option, Some, None, Result, Ok, Err, nat_le, is_some}
use Rattle.std.specs.Prelude.{if◌then◌else◌}
use Rattle.std.specs.List.{list_all}
use Rattle.px_bytes.specs.FaultText.{out_of_range, syntax_error, too_long}
use Rattle.px_bytes.specs.Gives.{with_value}
use Rattle.px_bytes.specs.Host.{Gives, Faults, Sent}
use Rattle.px_bytes.specs.WholeWord.{number_of}
use Rattle.px_bytes.specs.declared.addr.Side.TheVariants.{Client}
use Rattle.px_bytes.specs.declared.fault.TclFault.{TclFault}
use Rattle.event_order.specs.declared.event.EventName.{EventName}
use Rattle.event_order.specs.declared.event.EventName.TheVariants.{HttpRequest}
use Rattle.http_heads.specs.Fields.{Pair, is_field}
use Rattle.http_heads.specs.declared.line.Version.{Version}
use Rattle.http_heads.specs.declared.line.Version.TheVariants.{Http10}
use Rattle.irule_http.specs.Edits.{Step}
use Rattle.irule_http.specs.FaultText.{already_answered}
use Rattle.irule_http.specs.Forms.{word_at}
use Rattle.http_answers.specs.Answers.{Answer, composed, gives_close}
use Rattle.http_answers.specs.Options.{content_of, given_fields, has_server, version_of}
use Rattle.irule_http.specs.State.{expects_by, persists_by}
use Rattle.irule_http.specs.declared.state.Http.{Http}

-- the event in which a client that waits to be told to go on isn't told so yet
abbrev pub is_before_body : EventName → Bool
is_before_body HttpRequest = true
is_before_body event = false

-- The client's connection closes behind an answer: a rule says so, or the request does, or its client waits to be
-- told to go on, which it isn't any more.
abbrev pub closes_by : EventName → Http → Bool
closes_by event h =
    not (persists_by h.came) || h.closes || (is_before_body event && expects_by h.came)

-- the connection closes behind an answer that is given these fields
abbrev pub answer_closes : EventName → List Pair → Http → Bool
answer_closes event given h = gives_close given || closes_by event h

-- the most bytes that the bodies of one event send
abbrev pub answer_limit : ℕ
answer_limit = 1114112

-- the answer is sent, unless a rule has answered
abbrev pub answered : List ℕ → Bool → List ℕ → Http → Step
answered name closes text h =
    if is_some h.answer then Faults (already_answered name) h []
    else Gives [] (record h { answer = Some closes; made = h.made + length text })
    (Sent Client text ∷ [])

-- an answer's bytes, within the limits of the event
abbrev pub sends : List ℕ → Bool → List ℕ → Http → Step
sends name closes text h =
    if nat_le (h.made + length text) answer_limit then answered name closes text h
    else Faults too_long h []

abbrev pub sends_some : List ℕ → Bool → Option (List ℕ) → Http → Step
sends_some name closes None h = Faults too_long h []
sends_some name closes (Some text) h = sends name closes text h

abbrev pub answers : List ℕ → Answer → Http → Step
answers name a h = sends_some name a.closes (composed h.request a) h

-- a code from 200 to 599
abbrev pub code_in : ℤ → Result ℕ TclFault
code_in (pos n) = if nat_le 200 n && nat_le n 599 then Ok n else Err out_of_range
code_in (negsuc n) = Err out_of_range

abbrev pub answer_of : EventName → Http → List (List ℕ) → Version → ℕ → Answer
answer_of event h words version code = record {
  version = version;
  code = code;
  given = given_fields words;
  server = has_server words;
  closes = answer_closes event (given_fields words) h;
  content = content_of words;
}

abbrev pub responds_by : EventName → List ℕ → List (List ℕ) → Version → Result ℕ TclFault → Http
    → Step
responds_by event name words version (Err f) h = Faults f h []
responds_by event name words version (Ok code) h =
    answers name (answer_of event h words version code) h

abbrev pub code_of : List (List ℕ) → Result ℕ TclFault
code_of words = with_value (number_of (word_at words 0)) code_in

abbrev pub responds_in : EventName → List ℕ → List (List ℕ) → Option Version → Http → Step
responds_in event name words None h = Faults (syntax_error name) h []
responds_in event name words (Some version) h =
    if list_all is_field (given_fields words)
    then responds_by event name words version (code_of words) h
    else Faults (syntax_error name) h []

-- `HTTP::respond CODE [-version V] [content TEXT] [noserver] [NAME VALUE ..]`
abbrev pub responds : EventName → List ℕ → List (List ℕ) → Http → Step
responds event name words h = responds_in event name words (version_of words) h

abbrev pub redirect_of : EventName → Http → List Pair → Answer
redirect_of event h given = record {
  version = Http10;
  code = 302;
  given = given;
  server = true;
  closes = closes_by event h;
  content = [];
}

abbrev pub redirects_by : EventName → List ℕ → List Pair → Http → Step
redirects_by event name given h =
    if list_all is_field given then answers name (redirect_of event h given) h
    else Faults (syntax_error name) h []

abbrev pub location : List ℕ → List Pair
location url = (codes "Location", url) ∷ []

-- `HTTP::redirect URL`
abbrev pub redirects : EventName → List ℕ → List (List ℕ) → Http → Step
redirects event name words h = redirects_by event name (location (word_at words 0)) h
