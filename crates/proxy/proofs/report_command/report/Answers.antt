use Rattle.std.proofs.Common.{Err, ap, refl, ◌∙◌}
use Rattle.proxy.proofs.Recordings.{record_read, record_unread}
use Rattle.proxy.proofs.report_command.report.Goals as goal

pub returns-in-Ok : goal.returns-in-Ok
returns-in-Ok g c =
    let told = g.F.Files.told c.args.files.now in
    let rb = g.F.Files.faults c.args.files.now in
    let rn = g.F.Files.faults c.read.new.self in
    let old = g.K.Sink.written c.args.out.now in
    let new = g.K.Sink.written c.report_record.new.out in
    let b = g.K.Sink.faults c.args.out.now in
    let n = g.K.Sink.faults c.report_record.new.out in
    record_read told old new rb rn b n c.args.name.now c.in-Ok.text c.in-Ok.ensures.contents c.report_record.result (rw c.as_bytes.ensures at c.report_record.ensures)

pub returns-in-Err : goal.returns-in-Err
returns-in-Err g c =
    let told = g.F.Files.told c.args.files.now in
    let rb = g.F.Files.faults c.args.files.now in
    let rn = g.F.Files.faults c.read.new.self in
    let old = g.K.Sink.written c.args.out.now in
    let b = g.K.Sink.faults c.args.out.now in
    rw c.read_end.ensures (record_unread told old old rb rn b b c.args.name.now c.in-Err.failed (λ e. c.read.ensures.failed_is_counted (c.in-Err.is ∙ ap Err e)) refl)
