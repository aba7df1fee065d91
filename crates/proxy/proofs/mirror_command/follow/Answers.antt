use Rattle.proxy.proofs.Mirrors.{outcome_told}
use Rattle.proxy.proofs.mirror_command.follow.Goals as goal

pub returns-in-Ok : goal.returns-in-Ok
returns-in-Ok g c =
    let old = g.K.Sink.written c.args.out.now in
    let new = g.K.Sink.written c.tell_made.new.out in
    let b = g.K.Sink.faults c.args.out.now in
    let n = g.K.Sink.faults c.tell_made.new.out in
    outcome_told old new b n c.args.texts.now.rows c.args.journal.now c.args.texts.now.plan c.in-Ok.outcome c.outcome_end-usual.result c.in-Ok.ensures c.outcome_end-usual.ensures
    c.outcome_line.result c.outcome_line.ensures c.tell_made.result c.tell_made.ensures
