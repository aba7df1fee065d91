use Rattle.std.proofs.Common.{Contains, sym, ap, ◌∙◌}
use Rattle.std.specs.List.{list_any}
use Rattle.event_order.specs.Command.{command_row}
use Rattle.rule_loader.specs.CommandNames.{may_stand}
use Rattle.rule_loader.specs.Events.{is_event}
use Rattle.rule_loader.proofs.Names.{contains_test, same_truth}
use Rattle.rule_loader.proofs.judge.may_stand.Goals as goal

pub returns-in-Some : goal.returns-in-Some
returns-in-Some c =
    let events = (command_row c.args.command).events in
    same_truth c.is_allowed.result (list_any (is_event c.in-Some.event) events) (Contains events c.in-Some.event) c.is_allowed.ensures (contains_test c.in-Some.event events)
    ∙ ap (may_stand c.args.command) (sym c.in-Some.is)
