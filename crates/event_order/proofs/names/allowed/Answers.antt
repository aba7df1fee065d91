use Rattle.std.proofs.Common.{sym, ◌∙◌, subst, Contains}
use Rattle.event_order.specs.Command.{command_row}
use Rattle.event_order.proofs.Found.{some_same}
use Rattle.event_order.proofs.names.allowed.Goals as goal

pub returns-in-Some : goal.returns-in-Some
returns-in-Some c =
    let named = (c.read_command.ensures c.in-Some.command).0 c.in-Some.is in (
      λ h. (c.in-Some.command, named, c.is_allowed.ensures.0 h),
      λ allows.
          let same = some_same _ _ (sym c.in-Some.is ∙ (c.read_command.ensures allows.0).1 allows.1) in
          c.is_allowed.ensures.1 (subst (λ d. Contains (command_row d).events c.args.event) (sym same) allows.2),
    )
