-- The tests that come first at each network command, and their order: the event, whether the
-- virtual server has HTTP, the number of words, and whether the word that is to name a form does.
-- Behind them come a form's own: options, names, whole numbers, ranges, and the state.
use Rattle.std.specs.Prelude.{ℕ, Bool, ◌&&◌, not, List, length, Option, Some, None, Result, Ok, Err}
use Rattle.std.specs.Prelude.{find, if◌then◌else◌}
use Rattle.std.specs.List.{list_any}
use Rattle.std.specs.Str.{bytes_eq}
use Rattle.px_bytes.specs.FaultText.{syntax_error, wrong_arity}
use Rattle.px_bytes.specs.declared.fault.TclFault.{TclFault}
use Rattle.event_order.specs.Command.{command_row, every_command}
use Rattle.event_order.specs.Event.{event_text}
use Rattle.event_order.specs.declared.command.HostCommand.{HostCommand}
use Rattle.event_order.specs.declared.event.EventName.{EventName}
use Rattle.irule_net.specs.FaultText.{not_here}
use Rattle.irule_net.specs.Forms.{arity_fits, form_of, some_fits, without_http}
use Rattle.irule_net.specs.declared.form.Form.{Form}

-- the host command of a name
abbrev pub command_of : List ℕ → Option HostCommand
command_of name = find (λ c. bytes_eq (command_row c).name name) every_command

-- two events are the same where their names are
abbrev pub same_event : EventName → EventName → Bool
same_event a b = bytes_eq (event_text a) (event_text b)

-- the command's row has the event
abbrev pub allows : HostCommand → EventName → Bool
allows c event = list_any (same_event event) (command_row c).events

-- a command's form, where it has that many words
abbrev pub shaped : HostCommand → Option Form → ℕ → Result Form TclFault
shaped c None n =
    if some_fits c n then Err (syntax_error (command_row c).name)
    else Err (wrong_arity (command_row c).name)
shaped c (Some form) n =
    if arity_fits form n then Ok form else Err (wrong_arity (command_row c).name)

-- the form of a command with these words in an event
abbrev pub checked : HostCommand → Bool → EventName → List (List ℕ) → Result Form TclFault
checked c http event words =
    if allows c event && not (http && without_http c)
    then shaped c (form_of c words) (length words)
    else Err (not_here (command_row c).name)
