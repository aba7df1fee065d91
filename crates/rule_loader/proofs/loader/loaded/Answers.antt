use Rattle.std.proofs.Common.{map, take, sym, subst, arith}
use Rattle.rule_loader.specs.Outcome.{Holds}
use Rattle.rule_loader.proofs.Loading.{holds_more, seen_more}
use Rattle.rule_loader.proofs.loader.loaded.Goals as goal
use Rattle.tcl_words.specs.View.{command_view}

pub loop-command-preserved : goal.loop-command-preserved
loop-command-preserved c =
    let l = c.loop-command in
    let seen = map command_view (take l.command-index c.args.commands.now) in
    subst (λ cs. Holds c.args.told cs c.command.new.self)
    (sym (seen_more command_view c.args.commands.now l.command-index c.command-item.result (omega arith) c.command-item.is))
    (holds_more c.args.told seen (command_view c.command-item.result) l.loader c.command.new.self l.invariant
    c.in_ok-command.ensures.told c.in_ok-command.ensures.procs c.in_ok-command.ensures.names c.in_ok-command.ensures.bodies)
