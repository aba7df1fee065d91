-- Events and priorities of handlers (iRules, `when`).
use Rattle.std.specs.Prelude.{ℕ, ℤ, pos, int_le, Bool, ◌&&◌, ◌==◌, List, [], ◌∷◌, find, is_some}
use Rattle.std.specs.Prelude.{Option, Some, None, option_and_then, if◌then◌else◌}
use Rattle.std.specs.Int.{cast_unsigned, w16}
use Rattle.std.specs.Str.{bytes_eq}
use Rattle.event_order.specs.Event.{event_text, every_event}
use Rattle.event_order.specs.declared.event.EventName.{EventName}
use Rattle.event_order.specs.declared.event.EventName.TheVariants.{RuleInit, ClientAccepted}
use Rattle.event_order.specs.declared.event.EventName.TheVariants.{ClientData, ClientClosed}
use Rattle.event_order.specs.declared.event.EventName.TheVariants.{ServerConnected, ServerData}
use Rattle.event_order.specs.declared.event.EventName.TheVariants.{ServerClosed, LbSelected}
use Rattle.event_order.specs.declared.event.EventName.TheVariants.{LbFailed, HttpRequest}
use Rattle.event_order.specs.declared.event.EventName.TheVariants.{HttpRequestData, HttpResponse}
use Rattle.event_order.specs.declared.event.EventName.TheVariants.{HttpResponseData}
use Rattle.px_bytes.specs.Whole.{whole}
use Rattle.tcl_trees.specs.Texts.{raw_of}
use Rattle.tcl_words.specs.Tree.{Word}

-- the event that a name names
abbrev pub event_named : List ℕ → Option EventName
event_named name = find (λ e. bytes_eq (event_text e) name) every_event

-- a word with a substitution names none
abbrev pub event_of : Word → Option EventName
event_of w = option_and_then event_named (raw_of w)

-- the place of an event among them all, by which they are told apart
abbrev pub event_place : EventName → ℕ
event_place RuleInit = 0
event_place ClientAccepted = 1
event_place ClientData = 2
event_place ClientClosed = 3
event_place ServerConnected = 4
event_place ServerData = 5
event_place ServerClosed = 6
event_place LbSelected = 7
event_place LbFailed = 8
event_place HttpRequest = 9
event_place HttpRequestData = 10
event_place HttpResponse = 11
event_place HttpResponseData = 12

abbrev pub is_event : EventName → EventName → Bool
is_event e f = event_place e == event_place f

-- "The default priority is 500"; "Valid values are 1 through 1000"
abbrev pub usual_priority : ℕ
usual_priority = 500

abbrev pub in_range : ℤ → Option ℕ
in_range n = if int_le (pos 1) n && int_le n (pos 1000) then Some (cast_unsigned w16 n) else None

abbrev pub number_in_range : List ℕ → Option ℕ
number_in_range text = option_and_then in_range (whole text)

-- the priority that a word is; one with a substitution is none
abbrev pub word_priority : Word → Option ℕ
word_priority w = option_and_then number_in_range (raw_of w)

-- that of a handler, by the word behind `priority`
abbrev pub priority_of : Option Word → Option ℕ
priority_of None = Some usual_priority
priority_of (Some w) = word_priority w
