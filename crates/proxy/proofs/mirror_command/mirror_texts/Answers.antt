use Rattle.proxy.specs.Mirroring.{IsOneJournal}
use Rattle.proxy.proofs.Mirrors.{fault_mirrored, journal_mirrored}
use Rattle.proxy.proofs.mirror_command.mirror_texts.Goals as goal

pub returns-in-Ok : goal.returns-in-Ok
returns-in-Ok g c =
    let old = g.K.Sink.written c.args.out.now in
    let new = g.K.Sink.written c.mirror_journal.new.out in
    let b = g.K.Sink.faults c.args.out.now in
    let n = g.K.Sink.faults c.mirror_journal.new.out in
    let texts = c.args.texts.now in
    let is_one : IsOneJournal texts.record_text c.in-Ok.journal = record {
      journal = rw c.as_bytes.ensures at c.in-Ok.ensures.journal;
      one = rw c.as_bytes.ensures at c.in-Ok.ensures.only_journal;
    } in
    journal_mirrored texts.rows texts.record_text texts.plan old new b n c.in-Ok.journal is_one c.mirror_journal.result c.mirror_journal.ensures

pub returns-in-Err : goal.returns-in-Err
returns-in-Err g c =
    let old = g.K.Sink.written c.args.out.now in
    let new = g.K.Sink.written c.tell_line_fault.new.out in
    let b = g.K.Sink.faults c.args.out.now in
    let n = g.K.Sink.faults c.tell_line_fault.new.out in
    let texts = c.args.texts.now in
    fault_mirrored texts.rows texts.record_text texts.plan old new b n c.in-Err.fault (rw c.as_bytes.ensures at c.in-Err.ensures.fault) c.tell_line_fault.result c.tell_line_fault.ensures
