use Rattle.toml.specs.View.{table_view}
use Rattle.proxy.proofs.SecondTexts.{import_refused, imported}
use Rattle.proxy.proofs.second_text.import_text.Goals as goal

pub returns-in-Ok : goal.returns-in-Ok
returns-in-Ok g c =
    let told = g.F.Files.told c.args.files.now in
    let rb = g.F.Files.faults c.args.files.now in
    let rn = g.F.Files.faults c.tmsh_table.new.files in
    let old = g.K.Sink.written c.args.out.now in
    let new = g.K.Sink.written c.tell_made.new.out in
    let b = g.K.Sink.faults c.args.out.now in
    let n = g.K.Sink.faults c.tell_made.new.out in
    imported old new b n told rb rn c.args.text.now (table_view c.in-Ok.table) c.in-Ok.ensures.table c.table_text.result c.table_text.ensures c.tell_made.result c.tell_made.ensures

pub returns-in-Err : goal.returns-in-Err
returns-in-Err g c =
    let told = g.F.Files.told c.args.files.now in
    let rb = g.F.Files.faults c.args.files.now in
    let rn = g.F.Files.faults c.tmsh_table.new.files in
    let old = g.K.Sink.written c.args.out.now in
    let new = g.K.Sink.written c.refuse_text.new.out in
    let b = g.K.Sink.faults c.args.out.now in
    let n = g.K.Sink.faults c.refuse_text.new.out in
    import_refused old new b n told rb rn c.args.text.now c.in-Err.why c.in-Err.ensures.refused c.refuse_text.result c.refuse_text.ensures
