use Rattle.proxy.proofs.Ends.{explained, explained_why}
use Rattle.proxy.proofs.explain_command.explain.Goals as goal

pub returns-in-Ok : goal.returns-in-Ok
returns-in-Ok g c =
    let told = g.F.Files.told c.args.files.now in
    let rb = g.F.Files.faults c.args.files.now in
    let rn = g.F.Files.faults c.read_config.new.files in
    let old = g.K.Sink.written c.args.out.now in
    let new = g.K.Sink.written c.tell_loads.new.out in
    let b = g.K.Sink.faults c.args.out.now in
    let n = g.K.Sink.faults c.tell_loads.new.out in
    explained told old new rb rn b n c.args.name.now c.in-Ok.loaded c.in-Ok.ensures.answer c.tell_loads.result (rw c.as_slice.ensures at c.tell_loads.ensures)

pub returns-in-Err : goal.returns-in-Err
returns-in-Err g c =
    let told = g.F.Files.told c.args.files.now in
    let rb = g.F.Files.faults c.args.files.now in
    let rn = g.F.Files.faults c.read_config.new.files in
    let old = g.K.Sink.written c.args.out.now in
    let new = g.K.Sink.written c.tell_why.new.out in
    let b = g.K.Sink.faults c.args.out.now in
    let n = g.K.Sink.faults c.tell_why.new.out in
    explained_why told old new rb rn b n c.args.name.now c.in-Err.why c.in-Err.ensures.answer c.tell_why.result c.tell_why.ensures
