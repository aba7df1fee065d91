-- The forms of HTTP commands, with their words (iRules: the page of each command), and the events of each form
-- that not all events of its command's row have.
use Rattle.std.specs.Prelude.{ℕ, Bool, true, false, ◌||◌, List, [], ◌∷◌, codes, Option, Some}
use Rattle.std.specs.Prelude.{None, ◌==◌, nat_le, slice_get, if◌then◌else◌}
use Rattle.std.specs.Str.{bytes_eq}
use Rattle.event_order.specs.declared.command.HostCommand.{HostCommand}
use Rattle.event_order.specs.declared.command.HostCommand.TheVariants as command
use Rattle.event_order.specs.declared.event.EventName.{EventName}
use Rattle.event_order.specs.declared.event.EventName.TheVariants.{HttpRequest, HttpRequestData}
use Rattle.http_answers.specs.Options.{is_answer}
use Rattle.irule_http.specs.State.{is_response}
use Rattle.irule_http.specs.declared.form.Form.{Form}
use Rattle.irule_http.specs.declared.form.Form.TheVariants as form

abbrev pub word_of : Option (List ℕ) → List ℕ
word_of None = []
word_of (Some word) = word

-- the word at a place behind the command, from 0; empty where there is none
abbrev pub word_at : List (List ℕ) → ℕ → List ℕ
word_at words at = word_of (slice_get words at)

abbrev pub is_word : List (List ℕ) → ℕ → List ℕ → Bool
is_word words at text = bytes_eq (word_at words at) text

-- the form that the word behind `HTTP::header` names: one that edits, or one that reads
abbrev pub header_edit : List ℕ → Option Form
header_edit word =
    if bytes_eq word (codes "insert") then Some form.FieldInsert
    else (if bytes_eq word (codes "replace") then Some form.FieldReplace
    else (if bytes_eq word (codes "remove") then Some form.FieldRemove else None))

abbrev pub header_named : List ℕ → Option Form
header_named word =
    if bytes_eq word (codes "value") then Some form.FieldValue
    else (if bytes_eq word (codes "values") then Some form.FieldValues
    else (if bytes_eq word (codes "count") then Some form.FieldCount
    else (if bytes_eq word (codes "exists") then Some form.FieldExists
    else (if bytes_eq word (codes "names") then Some form.FieldNames else header_edit word))))

-- One other word alone is the name of a field, whose value is told.
abbrev pub header_by : Option Form → List (List ℕ) → Option Form
header_by (Some form) words = Some form
header_by None [] = Some form.Field
header_by None (word ∷ words) = None

abbrev pub header_form : List (List ℕ) → Option Form
header_form [] = None
header_form (word ∷ words) = header_by (header_named word) words

-- the form that the word behind `HTTP::cookie` names: one that edits, or one that reads
abbrev pub cookie_change : List ℕ → Option Form
cookie_change word =
    if bytes_eq word (codes "insert") then Some form.CookieInsert
    else (if bytes_eq word (codes "remove") then Some form.CookieRemove else None)

abbrev pub cookie_named : List ℕ → Option Form
cookie_named word =
    if bytes_eq word (codes "value") then Some form.CookieValue
    else (if bytes_eq word (codes "exists") then Some form.CookieExists
    else (if bytes_eq word (codes "names") then Some form.CookieNames
    else (if bytes_eq word (codes "count") then Some form.CookieCount else cookie_change word)))

abbrev pub cookie_form : List (List ℕ) → Option Form
cookie_form [] = None
cookie_form (word ∷ words) = cookie_named word

-- The word behind the command is an option, which has the number of words of one of its forms.
abbrev pub payload_form : List (List ℕ) → Option Form
payload_form [] = Some form.Payload
payload_form (word ∷ []) =
    if bytes_eq word (codes "length") then Some form.PayloadLength else None
payload_form (word ∷ (at ∷ (n ∷ (text ∷ [])))) =
    if bytes_eq word (codes "replace") then Some form.Replace else None
payload_form words = None

-- a form that reads, where there are no words, and one that sets
abbrev pub read_or_set : Form → Form → List (List ℕ) → Form
read_or_set reads sets [] = reads
read_or_set reads sets (word ∷ words) = sets

-- The form of a command by the words behind it.
abbrev pub form_of : HostCommand → List (List ℕ) → Option Form
form_of command.HttpUri words = Some (read_or_set form.Uri form.SetUri words)
form_of command.HttpPath words = Some (read_or_set form.Path form.SetPath words)
form_of command.HttpQuery words = Some form.Query
form_of command.HttpMethod words = Some form.Method
form_of command.HttpHost words = Some form.Host
form_of command.HttpRequestNum words = Some form.RequestNum
form_of command.HttpVersion words = Some form.Version
form_of command.HttpStatus words = Some form.Status
form_of command.HttpHeader words = header_form words
form_of command.HttpCookie words = cookie_form words
form_of command.HttpCollect words = Some (read_or_set form.CollectAll form.Collect words)
form_of command.HttpRelease words = Some form.Release
form_of command.HttpClose words = Some form.Close
form_of command.HttpPayload words = payload_form words
form_of command.HttpRespond words = if is_answer words then Some form.Respond else None
form_of command.HttpRedirect words = Some form.Redirect
form_of other words = None

-- how many words stand behind the command in a form, its own word counted
abbrev pub arity_fits : Form → ℕ → Bool
arity_fits form.Respond n = true
arity_fits form.SetUri n = n == 1
arity_fits form.SetPath n = n == 1
arity_fits form.Field n = n == 1
arity_fits form.FieldValue n = n == 2
arity_fits form.FieldValues n = n == 2
arity_fits form.FieldCount n = n == 2
arity_fits form.FieldExists n = n == 2
arity_fits form.FieldNames n = n == 1
arity_fits form.FieldInsert n = n == 3
arity_fits form.FieldReplace n = n == 3
arity_fits form.FieldRemove n = n == 2
arity_fits form.CookieValue n = n == 2
arity_fits form.CookieExists n = n == 2
arity_fits form.CookieNames n = n == 1
arity_fits form.CookieCount n = n == 1
arity_fits form.CookieInsert n = n == 5
arity_fits form.CookieRemove n = n == 2
arity_fits form.Collect n = n == 1
arity_fits form.PayloadLength n = n == 1
arity_fits form.Replace n = n == 4
arity_fits form.Redirect n = n == 1
arity_fits form n = n == 0

-- Some form of the command has so many words behind it. Where the first of them has to name a form,
-- any number will do that isn't 0.
abbrev pub some_fits : HostCommand → ℕ → Bool
some_fits command.HttpPayload n = n == 1 || n == 4
some_fits command.HttpHeader n = nat_le 1 n
some_fits command.HttpCookie n = nat_le 1 n
some_fits other n = false

-- the events of a request
abbrev pub is_request : EventName → Bool
is_request HttpRequest = true
is_request HttpRequestData = true
is_request event = false

-- A form that edits a target is for the events of a request alone, and one that edits fields for those of a
-- request or a response.
abbrev pub runs_in : Form → EventName → Bool
runs_in form.SetUri event = is_request event
runs_in form.SetPath event = is_request event
runs_in form.FieldInsert event = is_request event || is_response event
runs_in form.FieldReplace event = is_request event || is_response event
runs_in form.FieldRemove event = is_request event || is_response event
runs_in form.CookieInsert event = is_request event || is_response event
runs_in form.CookieRemove event = is_request event || is_response event
runs_in form event = true
