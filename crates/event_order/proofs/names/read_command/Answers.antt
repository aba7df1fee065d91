use Rattle.std.proofs.Common.{◌≡◌, ◌↔◌, Some, subst, sym}
use Rattle.event_order.specs.Command.{command_row}
use Rattle.event_order.proofs.ByName.{command_by_name}
use Rattle.event_order.proofs.names.read_command.Goals as goal

pub returns : goal.returns
returns c =
    λ d. subst (λ r. (r ≡ Some d) ↔ (c.args.name.now ≡ (command_row d).name)) (sym c.first_of_name.ensures) (command_by_name c.args.name.now d)
