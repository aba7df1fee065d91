-- The tests that come first at each HTTP command, and their order: the event and whether its message is there,
-- the number of words, whether the word that is to name a form does, and the form's own events. Behind them come
-- a form's own: options, names and values, whole numbers, ranges, limits, and the state.
use Rattle.std.specs.Prelude.{ℕ, ◌&&◌, List, length, Option, Some, None, Result, Ok, Err}
use Rattle.std.specs.Prelude.{if◌then◌else◌}
use Rattle.px_bytes.specs.FaultText.{syntax_error, wrong_arity}
use Rattle.px_bytes.specs.Gives.{with_value}
use Rattle.px_bytes.specs.declared.fault.TclFault.{TclFault}
use Rattle.event_order.specs.Command.{command_row}
use Rattle.event_order.specs.declared.command.HostCommand.{HostCommand}
use Rattle.event_order.specs.declared.event.EventName.{EventName}
use Rattle.irule_net.specs.Checks.{allows}
use Rattle.irule_net.specs.FaultText.{not_here}
use Rattle.irule_http.specs.Forms.{arity_fits, form_of, runs_in, some_fits}
use Rattle.irule_http.specs.State.{is_there}
use Rattle.irule_http.specs.declared.form.Form.{Form}
use Rattle.irule_http.specs.declared.state.Http.{Http}

-- a command's form, where it has that many words
abbrev pub shaped : HostCommand → Option Form → ℕ → Result Form TclFault
shaped c None n =
    if some_fits c n then Err (syntax_error (command_row c).name)
    else Err (wrong_arity (command_row c).name)
shaped c (Some form) n =
    if arity_fits form n then Ok form else Err (wrong_arity (command_row c).name)

-- a form in one of its events
abbrev pub placed : HostCommand → EventName → Form → Result Form TclFault
placed c event form =
    if runs_in form event then Ok form else Err (not_here (command_row c).name)

-- the form of a command with these words in an event
abbrev pub checked : HostCommand → EventName → Http → List (List ℕ) → Result Form TclFault
checked c event h words =
    if allows c event && is_there event h
    then with_value (shaped c (form_of c words) (length words)) (placed c event)
    else Err (not_here (command_row c).name)
