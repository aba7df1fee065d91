use Rattle.std.proofs.Common.{Err, ap, refl, ◌∙◌}
use Rattle.proxy.proofs.SecondTexts.{contents_imported, file_unread}
use Rattle.proxy.proofs.second_text.import.Goals as goal

pub returns-in-Ok : goal.returns-in-Ok
returns-in-Ok g c =
    let told = g.F.Files.told c.args.files.now in
    let rb = g.F.Files.faults c.args.files.now in
    let mid = g.F.Files.faults c.read.new.self in
    let rn = g.F.Files.faults c.import_text.new.files in
    let old = g.K.Sink.written c.args.out.now in
    let new = g.K.Sink.written c.import_text.new.out in
    let b = g.K.Sink.faults c.args.out.now in
    let n = g.K.Sink.faults c.import_text.new.out in
    contents_imported old new b n told rb mid rn c.args.name.now c.in-Ok.text c.in-Ok.ensures.contents c.in-Ok.ensures.faults_never_fall
    c.import_text.result (rw (c.as_bytes.ensures, c.in-Ok.ensures.same_files) at c.import_text.ensures)

pub returns-in-Err : goal.returns-in-Err
returns-in-Err g c =
    let told = g.F.Files.told c.args.files.now in
    let rb = g.F.Files.faults c.args.files.now in
    let rn = g.F.Files.faults c.read.new.self in
    let old = g.K.Sink.written c.args.out.now in
    let b = g.K.Sink.faults c.args.out.now in
    file_unread old old b b told rb rn c.args.name.now c.in-Err.failed (λ e. c.read.ensures.failed_is_counted (c.in-Err.is ∙ ap Err e)) refl c.read_end.result c.read_end.ensures
