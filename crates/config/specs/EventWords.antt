-- Events of a rule that not every virtual server has.
use Rattle.std.specs.Prelude.{ℕ, Bool, true, false, List, [], ◌∷◌, codes, Option, Some, None}
use Rattle.std.specs.Prelude.{if◌then◌else◌}
use Rattle.std.specs.Option.{option_or}
use Rattle.event_order.specs.declared.event.EventName.{EventName}
use Rattle.event_order.specs.declared.event.EventName.TheVariants.{ClientData, ServerData}
use Rattle.event_order.specs.declared.event.EventName.TheVariants.{HttpRequest, HttpRequestData}
use Rattle.event_order.specs.declared.event.EventName.TheVariants.{HttpResponse, HttpResponseData}
use Rattle.rule_loader.specs.Events.{event_of}
use Rattle.rule_loader.specs.Loading.{script_of}
use Rattle.tcl_trees.specs.Pieces.{all_commands, all_words}
use Rattle.tcl_trees.specs.Texts.{is_text}
use Rattle.tcl_trees.specs.Words.{word_place}
use Rattle.tcl_words.specs.Tree.{Word, Command, command}

-- a virtual server without HTTP has no events of HTTP
abbrev pub is_of_http : EventName → Bool
is_of_http HttpRequest = true
is_of_http HttpRequestData = true
is_of_http HttpResponse = true
is_of_http HttpResponseData = true
is_of_http _ = false

-- and one with HTTP has no events of collected bytes
abbrev pub is_of_bytes : EventName → Bool
is_of_bytes ClientData = true
is_of_bytes ServerData = true
is_of_bytes _ = false

abbrev pub is_misplaced : Bool → EventName → Bool
is_misplaced http event = if http then is_of_bytes event else is_of_http event

abbrev pub misplaced_at : Bool → ℕ → Option EventName → Option ℕ
misplaced_at http place None = None
misplaced_at http place (Some event) = if is_misplaced http event then Some place else None

-- the place of the event's word of a handler, where the virtual server doesn't have the event
abbrev pub misplaced_word : Bool → List Word → Option ℕ
misplaced_word http (w ∷ event ∷ words) =
    if is_text (codes "when") w then misplaced_at http (word_place event) (event_of event) else None
misplaced_word http words = None

abbrev pub misplaced_command : Bool → Command → Option ℕ
misplaced_command http (command span words) = misplaced_word http (all_words words)

abbrev pub first_misplaced : Bool → List Command → Option ℕ
first_misplaced http [] = None
first_misplaced http (c ∷ cs) = option_or (misplaced_command http c) (first_misplaced http cs)

-- the first one in the text of a rule
unfoldable pub misplaced_in : Bool → List ℕ → Option ℕ
misplaced_in http text = first_misplaced http (all_commands (script_of text).0)
