use Rattle.proxy.proofs.Mirrors.{made_told}
use Rattle.proxy.proofs.SecondTexts.{exported, unprinted}
use Rattle.proxy.specs.SecondText.{IsRuleLine}
use Rattle.proxy.specs.declared.end.End.TheVariants.{SecondText}
use Rattle.proxy.proofs.second_text.export_config.Goals as goal

pub returns-in-Ok : goal.returns-in-Ok
returns-in-Ok g c =
    exported (g.K.Sink.written c.args.out.now) (g.K.Sink.written c.tell.new.out) (g.K.Sink.faults c.args.out.now) (g.K.Sink.faults c.tell.new.out)
    c.args.config.now c.in-Ok.text c.in-Ok.ensures c.tell.result (rw c.as_bytes.ensures at c.tell.ensures)

pub returns-in-Err : goal.returns-in-Err
returns-in-Err g c =
    let old = g.K.Sink.written c.args.out.now in
    let new = g.K.Sink.written c.tell_made.new.out in
    let b = g.K.Sink.faults c.args.out.now in
    let n = g.K.Sink.faults c.tell_made.new.out in
    unprinted old new b n c.args.config.now c.in-Err.why c.in-Err.ensures c.tell_made.result
    (made_told old new b n (IsRuleLine c.in-Err.why) SecondText c.rule_line.result c.rule_line.ensures c.tell_made.result c.tell_made.ensures)
