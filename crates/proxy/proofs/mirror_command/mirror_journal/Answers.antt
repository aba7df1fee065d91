use Rattle.std.proofs.Common.{sym, ◌∙◌}
use Rattle.proxy.proofs.Mirrors.{moment_told}
use Rattle.proxy.proofs.mirror_command.mirror_journal.Goals as goal

pub returns-in-Some : goal.returns-in-Some
returns-in-Some g c =
    let old = g.K.Sink.written c.args.out.now in
    let new = g.K.Sink.written c.tell_made.new.out in
    let b = g.K.Sink.faults c.args.out.now in
    let n = g.K.Sink.faults c.tell_made.new.out in
    moment_told old new b n c.args.texts.now.rows c.args.journal.now c.args.texts.now.plan c.args.texts.now.record_text c.in-Some.place c.moment_line-line.result c.requires
    (rw c.as_slice.ensures at (sym c.out_of_order.ensures ∙ c.in-Some.is)) (rw c.as_bytes.ensures at c.moment_line-line.ensures) c.tell_made.result c.tell_made.ensures
