-- HTTP commands: the host commands whose names begin with `HTTP::`. Each is tested in one order and does what its
-- words ask; a fault changes nothing.
use Rattle.std.specs.Prelude.{◌≡◌, ℕ, List, [], ◌∷◌, ◌++◌, Option, Some, None, Result, Ok, Err}
use Rattle.std.specs.Prelude.{if◌then◌else◌}
use Rattle.px_bytes.specs.FaultText.{no_command}
use Rattle.px_bytes.specs.Host.{Effect, Faults, Logged, Sent}
use Rattle.px_bytes.specs.declared.fault.HostAnswer.{HostAnswer}
use Rattle.px_bytes.specs.declared.fault.Raise.{Raise}
use Rattle.px_bytes.specs.declared.fault.TclFault.{TclFault}
use Rattle.event_order.specs.Command.{command_row}
use Rattle.event_order.specs.declared.command.HostCommand.{HostCommand}
use Rattle.event_order.specs.declared.event.EventName.{EventName}
use Rattle.irule_net.specs.Answered.{CarriedOut}
use Rattle.irule_net.specs.Checks.{command_of}
use Rattle.irule_net.specs.Commands.{is_http}
use Rattle.irule_http.specs.Checks.{checked}
use Rattle.irule_http.specs.Edits.{Step}
use Rattle.irule_http.specs.Forms.{word_at}
use Rattle.http_answers.specs.Options.{behind_first}
use Rattle.irule_http.specs.Steps.{done}
use Rattle.irule_http.specs.declared.form.Form.{Form}
use Rattle.irule_http.specs.declared.state.Http.{Http}

abbrev pub formed : EventName → List ℕ → List (List ℕ) → Result Form TclFault → Http → Step
formed event name words (Ok form) h = done event name words form h
formed event name words (Err f) h = Faults f h []

abbrev pub carried : EventName → List (List ℕ) → HostCommand → Http → Step
carried event words c h = formed event (command_row c).name words (checked c event h words) h

abbrev pub commanded : EventName → List ℕ → List (List ℕ) → Option HostCommand → Http → Step
commanded event name words None h = Faults (no_command name) h []
commanded event name words (Some c) h = carried event words c h

-- the HTTP command of a name
abbrev pub found : List ℕ → Option HostCommand
found name = if is_http name then command_of name else None

-- a name that is no HTTP command is no command
abbrev pub named : EventName → List ℕ → List (List ℕ) → Http → Step
named event name words h = commanded event name words (found name) h

-- what an HTTP command gives, leaves and sends; the first word is its name
abbrev pub http_step : EventName → Http → List (List ℕ) → Step
http_step event h words = named event (word_at words 0) (behind_first words) h

-- an answer that may be a fault or out of memory, of a command that sends nothing
abbrev pub Leaves : Step → Result HostAnswer Raise → Http → Type 0
Leaves step answer seen = CarriedOut step answer seen (λ effects. effects ≡ [])

-- the bytes that effects send, one after another
abbrev pub bytes_of : List Effect → List ℕ
bytes_of [] = []
bytes_of (Logged line ∷ effects) = bytes_of effects
bytes_of (Sent side bytes ∷ effects) = bytes ++ bytes_of effects
