-- What HTTP commands change of a head (iRules: HTTP::uri, HTTP::path, HTTP::header, HTTP::cookie). Each tests, in
-- this order, its fixed words, names and values; the limits of the head that it would leave; and that no rule has
-- answered.
use Rattle.std.specs.Prelude.{◌≡◌, ℕ, Bool, true, false, ◌&&◌, ◌||◌, List, [], ◌∷◌, ◌++◌, codes, Option, Some}
use Rattle.std.specs.Prelude.{None, Result, Ok, Err, is_some, drop, if◌then◌else◌}
use Rattle.std.specs.List.{list_all, position_or_len}
use Rattle.httparse.specs.Grammar.{is_token, is_value_byte}
use Rattle.px_bytes.specs.FaultText.{syntax_error, too_long}
use Rattle.px_bytes.specs.Host.{HostStep, Gives, Faults}
use Rattle.px_bytes.specs.declared.fault.Raise.{Raise}
use Rattle.px_bytes.specs.declared.fault.Raise.TheVariants.{Fault, Memory}
use Rattle.px_bytes.specs.declared.fault.TclFault.{TclFault}
use Rattle.event_order.specs.declared.event.EventName.{EventName}
use Rattle.http_heads.specs.Fields.{Pair, field_made, fields_made, fit, is_named}
use Rattle.http_heads.specs.Fields.{replaced}
use Rattle.http_heads.specs.Lines.{target_made}
use Rattle.http_heads.specs.declared.request.RequestHead.{RequestHead}
use Rattle.http_cookies.specs.MessageCookies.{cookie_field, cookie_text, without_cookie}
use Rattle.irule_http.specs.FaultText.{already_answered}
use Rattle.irule_http.specs.Forms.{is_word, word_at}
use Rattle.irule_http.specs.Heads.{holds, left_with, request_fits, target_with}
use Rattle.irule_http.specs.Heads.{without_by}
use Rattle.irule_http.specs.State.{fields_here, is_response}
use Rattle.irule_http.specs.Told.{is_question}
use Rattle.irule_http.specs.declared.form.Form.{Form}
use Rattle.irule_http.specs.declared.form.Form.TheVariants as form
use Rattle.irule_http.specs.declared.state.Http.{Http}

abbrev pub Step : Type 0
Step = HostStep Http

-- Whether a change may be made: the head is within its limits with it, and no rule has answered.
abbrev pub may_change : Bool → List ℕ → Http → Result (Unit {0}) TclFault
may_change holds name h =
    if holds then (if is_some h.answer then Err (already_answered name) else Ok tt)
    else Err too_long

abbrev pub tested : Result (Unit {0}) TclFault → Http → Http → Step
tested (Ok may) h changed = Gives [] changed []
tested (Err f) h changed = Faults f h []

abbrev pub within : Bool → List ℕ → Http → Http → Step
within holds name h changed = tested (may_change holds name h) h changed

-- a change of what has no limits
abbrev pub unless_answered : List ℕ → Http → Http → Step
unless_answered name h changed = within true name h changed

-- the event's message with these fields
abbrev pub changes_fields : EventName → List ℕ → List Pair → Http → Step
changes_fields event name fields h =
    within (holds event fields h) name h (left_with event fields h)

-- the request with this target
abbrev pub targeted : List ℕ → Option RequestHead → Option RequestHead
targeted target None = None
targeted target (Some head) = Some (target_with target head)

abbrev pub target_holds : List ℕ → Option RequestHead → Bool
target_holds target None = false
target_holds target (Some head) = request_fits (target_with target head)

abbrev pub changes_target : List ℕ → Option (List ℕ) → Http → Step
changes_target name None h = Faults (syntax_error name) h []
changes_target name (Some target) h =
    within (target_holds target h.request) name h
    (record h { request = targeted target h.request })

-- `HTTP::uri VALUE`
abbrev pub sets_uri : List ℕ → List (List ℕ) → Http → Step
sets_uri name words h = changes_target name (target_made (word_at words 0)) h

abbrev pub target_of : Option RequestHead → List ℕ
target_of None = []
target_of (Some head) = head.target

-- the target from its first `?` on
abbrev pub from_question : List ℕ → List ℕ
from_question target = drop (position_or_len is_question target) target

-- `HTTP::path VALUE`: the target up to its first `?`
abbrev pub sets_path : List ℕ → List (List ℕ) → Http → Step
sets_path name words h =
    changes_target name (target_made (word_at words 0 ++ from_question (target_of h.request))) h

-- edits of these fields have no effect
abbrev pub is_framing : List ℕ → Bool
is_framing name =
    is_named (codes "content-length") (name, []) || is_named (codes "transfer-encoding") (name, [])

-- the fields with a field more, or one in the place of the last of its name
abbrev pub with_field : Form → Pair → List Pair → List Pair
with_field form.FieldReplace field fields = replaced field fields
with_field form field fields = fields ++ field ∷ []

abbrev pub edited : Form → Pair → Option (List Pair) → Option (List Pair)
edited form field None = None
edited form field (Some fields) = Some (with_field form field fields)

-- the event's message with these fields, where there are any
abbrev pub changes_some : EventName → List ℕ → Option (List Pair) → Http → Step
changes_some event name None h = Faults too_long h []
changes_some event name (Some fields) h = changes_fields event name fields h

abbrev pub puts_by : EventName → Form → List ℕ → Option Pair → Http → Step
puts_by event form name None h = Faults (syntax_error name) h []
puts_by event form name (Some field) h =
    if is_framing field.0 then unless_answered name h h
    else changes_some event name (edited form field (fields_here event h)) h

-- `HTTP::header insert|replace NAME VALUE`
abbrev pub puts_field : EventName → Form → List ℕ → List (List ℕ) → Http → Step
puts_field event form name words h =
    puts_by event form name (field_made (word_at words 1, word_at words 2)) h

-- the event's message without the fields of a name
abbrev pub removed : EventName → List ℕ → Http → Http
removed event name h = if is_framing name then h else without_by (is_response event) name h

-- `HTTP::header remove NAME`
abbrev pub removes_field : EventName → List ℕ → List (List ℕ) → Http → Step
removes_field event name words h =
    if is_token (word_at words 1)
    then unless_answered name h (removed event (word_at words 1) h)
    else Faults (syntax_error name) h []

-- the words `insert name NAME value VALUE`, the name a token, and no byte of the value one that no field has
abbrev pub is_cookie : List (List ℕ) → Bool
is_cookie words =
    is_word words 1 (codes "name") && is_word words 3 (codes "value")
    && is_token (word_at words 2) && list_all is_value_byte (word_at words 4)

-- how the field of a cookie more comes into a response, and into a request
abbrev pub cookie_edit : Bool → Form
cookie_edit true = form.FieldInsert
cookie_edit false = form.FieldReplace

abbrev pub cookie_made : Bool → List ℕ → Option (List Pair) → Option Pair
cookie_made response text None = None
cookie_made response text (Some fields) = field_made (cookie_field response text fields)

abbrev pub puts_cookie_by : EventName → List ℕ → Option Pair → Http → Step
puts_cookie_by event name None h = Faults (syntax_error name) h []
puts_cookie_by event name (Some field) h =
    changes_some event name (edited (cookie_edit (is_response event)) field (fields_here event h)) h

-- `HTTP::cookie insert name NAME value VALUE`
abbrev pub puts_cookie : EventName → List ℕ → List (List ℕ) → Http → Step
puts_cookie event name words h =
    if is_cookie words
    then puts_cookie_by event name (cookie_made (is_response event)
    (cookie_text (word_at words 2, word_at words 4)) (fields_here event h)) h
    else Faults (syntax_error name) h []

-- the fields without the cookies of a name
abbrev pub cookies_gone : Bool → List ℕ → Option (List Pair) → Option (List Pair)
cookies_gone response cookie None = None
cookies_gone response cookie (Some fields) = fields_made (without_cookie response cookie fields)

-- `HTTP::cookie remove NAME`
abbrev pub removes_cookie : EventName → List ℕ → List (List ℕ) → Http → Step
removes_cookie event name words h =
    changes_some event name
    (cookies_gone (is_response event) (word_at words 1) (fields_here event h)) h

-- fields that were edited, or the fault that they would be too long
abbrev pub Edited : Result (List Pair) Raise → Option (List Pair) → Type 0
Edited (Ok fields) wanted = wanted ≡ Some fields
Edited (Err (Fault f)) None = f ≡ too_long
Edited (Err (Fault f)) (Some wanted) = (f ≡ too_long) × (fit wanted ≡ false)
Edited (Err Memory) wanted = Unit {0}
