use Rattle.std.proofs.Common.{◌≡◌, Option, Some, None, ap, ◌∙◌, ℕ, List, ◌↔◌, refl, sym, arith}
use Rattle.std.proofs.Common.{true}
use Rattle.std.specs.Option.{is_some}
use Rattle.event_order.specs.Command.{IsHostCommand, command_row}
use Rattle.event_order.specs.declared.command.HostCommand.{HostCommand}
use Rattle.event_order.proofs.names.is_host_command.Goals as goal

something : (r : Option HostCommand) (name : List ℕ)
    → ((c : HostCommand) → (r ≡ Some c) ↔ (name ≡ (command_row c).name)) → is_some r ≡ true → IsHostCommand name
something None name each h = grind arith
something (Some c) name each h = (c, (each c).0 refl)

pub returns : goal.returns
returns c = (
  λ h. something c.read_command.result c.args.name.now c.read_command.ensures (sym c.is_some.ensures ∙ h),
  λ host. c.is_some.ensures ∙ ap is_some ((c.read_command.ensures host.0).1 host.1),
)
