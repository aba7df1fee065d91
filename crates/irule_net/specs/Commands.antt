-- Network commands: the host commands whose names don't begin with `HTTP::`. Each is tested in one
-- order, reads its words, and does what they ask; a fault changes nothing.
use Rattle.std.specs.Prelude.{ℕ, Bool, nat_eq, List, [], ◌∷◌, codes, Option, Some, None, Ok, Err}
use Rattle.std.specs.Prelude.{if◌then◌else◌}
use Rattle.std.specs.List.{starts_with}
use Rattle.px_bytes.specs.FaultText.{no_command}
use Rattle.px_bytes.specs.Gives.{with_value}
use Rattle.px_bytes.specs.Host.{Faults}
use Rattle.event_order.specs.declared.command.HostCommand.{HostCommand}
use Rattle.event_order.specs.declared.event.EventName.{EventName}
use Rattle.irule_net.specs.Checks.{checked, command_of}
use Rattle.irule_net.specs.Requests.{Asked, request_of}
use Rattle.irule_net.specs.State.{side_of}
use Rattle.irule_net.specs.Steps.{Step, done}
use Rattle.irule_net.specs.declared.groups.Groups.{Groups}
use Rattle.irule_net.specs.declared.state.NetState.{NetState}

-- a command that HTTP alone has
abbrev pub is_http : List ℕ → Bool
is_http name = starts_with nat_eq name (codes "HTTP::")

-- what a command with these words asks in an event
abbrev pub asked_by : Groups → EventName → NetState → HostCommand → List (List ℕ) → Asked
asked_by groups event s command words =
    with_value (checked command s.http event words)
    (λ form. request_of groups s.port form words)

abbrev pub asked_of : Groups → EventName → NetState → List ℕ → List (List ℕ) → Option HostCommand
    → Asked
asked_of groups event s name words None = Err (no_command name)
asked_of groups event s name words (Some command) = asked_by groups event s command words

-- what the words of a network command ask; a name that is none is no command
abbrev pub asked : Groups → EventName → NetState → List (List ℕ) → Asked
asked groups event s [] = Err (no_command [])
asked groups event s (name ∷ words) =
    if is_http name then Err (no_command name)
    else asked_of groups event s name words (command_of name)

abbrev pub stepped : EventName → Asked → NetState → Step
stepped event (Ok request) s = done (side_of event) request s
stepped event (Err fault) s = Faults fault s []

-- what a network command gives, leaves and does
abbrev pub net_step : Groups → EventName → NetState → List (List ℕ) → Step
net_step groups event s words = stepped event (asked groups event s words) s
