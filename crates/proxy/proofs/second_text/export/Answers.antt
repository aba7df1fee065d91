use Rattle.proxy.proofs.ConfigAnswers.{loads}
use Rattle.proxy.proofs.SecondTexts.{config_exported, config_refused}
use Rattle.proxy.proofs.second_text.export.Goals as goal

pub returns-in-Ok : goal.returns-in-Ok
returns-in-Ok g c =
    let told = g.F.Files.told c.args.files.now in
    let rb = g.F.Files.faults c.args.files.now in
    let rn = g.F.Files.faults c.read_config.new.files in
    let old = g.K.Sink.written c.args.out.now in
    let new = g.K.Sink.written c.export_config.new.out in
    let b = g.K.Sink.faults c.args.out.now in
    let n = g.K.Sink.faults c.export_config.new.out in
    config_exported old new b n told rb rn c.args.name.now c.in-Ok.loaded (loads told rb rn c.args.name.now c.in-Ok.loaded c.in-Ok.ensures.answer) c.in-Ok.ensures.texts
    c.export_config.result c.export_config.ensures

pub returns-in-Err : goal.returns-in-Err
returns-in-Err g c =
    let told = g.F.Files.told c.args.files.now in
    let rb = g.F.Files.faults c.args.files.now in
    let rn = g.F.Files.faults c.read_config.new.files in
    let old = g.K.Sink.written c.args.out.now in
    let new = g.K.Sink.written c.refuse.new.out in
    let b = g.K.Sink.faults c.args.out.now in
    let n = g.K.Sink.faults c.refuse.new.out in
    config_refused old new b n told rb rn c.args.name.now c.in-Err.why c.in-Err.ensures.answer c.refuse.result c.refuse.ensures
