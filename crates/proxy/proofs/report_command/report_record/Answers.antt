use Rattle.proxy.proofs.Recordings.{fault_told, report_told}
use Rattle.proxy.proofs.report_command.report_record.Goals as goal

pub returns-in-Ok : goal.returns-in-Ok
returns-in-Ok g c =
    let old = g.K.Sink.written c.args.out.now in
    let new = g.K.Sink.written c.tell.new.out in
    let b = g.K.Sink.faults c.args.out.now in
    let n = g.K.Sink.faults c.tell.new.out in
    report_told c.args.bytes.now old new b n c.in-Ok.text c.in-Ok.ensures.report c.tell.result (rw c.as_bytes.ensures at c.tell.ensures)

pub returns-in-Err : goal.returns-in-Err
returns-in-Err g c =
    let old = g.K.Sink.written c.args.out.now in
    let new = g.K.Sink.written c.tell_line_fault.new.out in
    let b = g.K.Sink.faults c.args.out.now in
    let n = g.K.Sink.faults c.tell_line_fault.new.out in
    fault_told c.args.bytes.now old new b n c.in-Err.fault c.in-Err.ensures.fault c.tell_line_fault.result c.tell_line_fault.ensures
