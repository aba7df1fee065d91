use Rattle.proxy.proofs.Ends.{check_refused, checked}
use Rattle.proxy.proofs.offline_commands.check.Goals as goal

pub returns-in-Ok : goal.returns-in-Ok
returns-in-Ok g c =
    let told = g.F.Files.told c.args.files.now in
    let rb = g.F.Files.faults c.args.files.now in
    let rn = g.F.Files.faults c.read_config.new.files in
    let old = g.K.Sink.written c.args.out.now in
    let new = g.K.Sink.written c.tell.new.out in
    let b = g.K.Sink.faults c.args.out.now in
    let n = g.K.Sink.faults c.tell.new.out in
    checked told old new rb rn b n c.args.name.now c.in-Ok._loaded c.in-Ok.ensures.answer c.tell.result (rw c.ok_line.ensures at c.tell.ensures)

pub returns-in-Err : goal.returns-in-Err
returns-in-Err g c =
    let told = g.F.Files.told c.args.files.now in
    let rb = g.F.Files.faults c.args.files.now in
    let rn = g.F.Files.faults c.read_config.new.files in
    let old = g.K.Sink.written c.args.out.now in
    let new = g.K.Sink.written c.refuse.new.out in
    let b = g.K.Sink.faults c.args.out.now in
    let n = g.K.Sink.faults c.refuse.new.out in
    check_refused told old new rb rn b n c.args.name.now c.in-Err.why c.in-Err.ensures.answer c.refuse.result c.refuse.ensures
