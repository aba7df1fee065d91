use Rattle.std.proofs.Common.{refl, ap, ◌∙◌}
use Rattle.std.specs.Prelude.{Err}
use Rattle.proxy.specs.Command.{mirror_names}
use Rattle.proxy.proofs.Finishing.{rose_earlier}
use Rattle.proxy.proofs.Mirrors.{mirror_refused, mirrored, texts_unread}
use Rattle.proxy.proofs.mirror_command.mirror.Goals as goal

pub returns-in-Err : goal.returns-in-Err
returns-in-Err g c =
    let told = g.F.Files.told c.args.files.now in
    let rb = g.F.Files.faults c.args.files.now in
    let rn = g.F.Files.faults c.read_rows.new.files in
    let old = g.K.Sink.written c.args.out.now in
    let new = g.K.Sink.written c.refuse.new.out in
    let b = g.K.Sink.faults c.args.out.now in
    let n = g.K.Sink.faults c.refuse.new.out in
    mirror_refused told old new rb rn b n (mirror_names c.args.named) c.in-Err.why c.in-Err.ensures.refused c.refuse.result c.refuse.ensures

pub returns-in-Ok-read_texts : goal.returns-in-Ok-read_texts
returns-in-Ok-read_texts g c =
    let told = g.F.Files.told c.args.files.now in
    let rb = g.F.Files.faults c.args.files.now in
    let mid = g.F.Files.faults c.read_rows.new.files in
    let rn = g.F.Files.faults c.read_texts.new.files in
    let old = g.K.Sink.written c.args.out.now in
    let new = g.K.Sink.written c.mirror_texts.new.out in
    let b = g.K.Sink.faults c.args.out.now in
    let n = g.K.Sink.faults c.mirror_texts.new.out in
    let names = mirror_names c.args.named in
    mirrored told old new rb rn b n names c.in-Ok.rows c.in-Ok.ensures.rows c.in-Ok-read_texts.texts
    (rw c.in-Ok.ensures.same_files at c.in-Ok-read_texts.ensures.texts) c.mirror_texts.result c.mirror_texts.ensures

pub returns-in-Err-read_texts : goal.returns-in-Err-read_texts
returns-in-Err-read_texts g c =
    let told = g.F.Files.told c.args.files.now in
    let rb = g.F.Files.faults c.args.files.now in
    let mid = g.F.Files.faults c.read_rows.new.files in
    let rn = g.F.Files.faults c.read_texts.new.files in
    let old = g.K.Sink.written c.args.out.now in
    let b = g.K.Sink.faults c.args.out.now in
    let names = mirror_names c.args.named in
    let has = c.in-Ok.ensures.rows in
    rw c.read_end.ensures (texts_unread told old old rb rn b b names (has.C, has.loads) c.in-Err-read_texts.failed
    (λ e. rose_earlier rb mid rn c.in-Ok.ensures.faults_never_fall (c.read_texts.ensures.failed_is_counted (c.in-Err-read_texts.is ∙ ap Err e))) refl)
