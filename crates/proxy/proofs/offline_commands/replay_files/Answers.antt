use Rattle.std.proofs.Common.{refl, sym, ap, ◌∙◌}
use Rattle.std.specs.Prelude.{Err}
use Rattle.proxy.specs.Command.{named_of}
use Rattle.proxy.specs.Offline.{Runs}
use Rattle.proxy.proofs.ConfigAnswers.{loads}
use Rattle.proxy.proofs.Ends.{not_built, replay_refused, replayed, unread}
use Rattle.proxy.proofs.Finishing.{rose_earlier}
use Rattle.proxy.proofs.offline_commands.replay_files.Goals as goal

pub returns-in-Err : goal.returns-in-Err
returns-in-Err g c =
    let told = g.F.Files.told c.args.files.now in
    let rb = g.F.Files.faults c.args.files.now in
    let rn = g.F.Files.faults c.read_config.new.files in
    let old = g.K.Sink.written c.args.out.now in
    let new = g.K.Sink.written c.refuse.new.out in
    let b = g.K.Sink.faults c.args.out.now in
    let n = g.K.Sink.faults c.refuse.new.out in
    replay_refused told old new rb rn b n (named_of c.args.named) c.in-Err.why c.in-Err.ensures.answer c.refuse.result c.refuse.ensures

pub returns-in_default-config : goal.returns-in_default-config
returns-in_default-config g c =
    let told = g.F.Files.told c.args.files.now in
    let rb = g.F.Files.faults c.args.files.now in
    let rn = g.F.Files.faults c.read_config.new.files in
    let old = g.K.Sink.written c.args.out.now in
    let new = g.K.Sink.written c.tell_fault.new.out in
    let b = g.K.Sink.faults c.args.out.now in
    let n = g.K.Sink.faults c.tell_fault.new.out in
    not_built told old new rb rn b n (named_of c.args.named) c.in-Ok.loaded c.in-Ok.ensures.answer (sym (rw c.in_default-config.is at c.in-Ok-core_config.ensures)) c.tell_fault.result c.tell_fault.ensures

pub returns-in-Ok-read : goal.returns-in-Ok-read
returns-in-Ok-read g c =
    let told = g.F.Files.told c.args.files.now in
    let rb = g.F.Files.faults c.args.files.now in
    let mid = g.F.Files.faults c.read_config.new.files in
    let rn = g.F.Files.faults c.read.new.self in
    let old = g.K.Sink.written c.args.out.now in
    let new = g.K.Sink.written c.replay.new.out in
    let b = g.K.Sink.faults c.args.out.now in
    let n = g.K.Sink.faults c.replay.new.out in
    let named = named_of c.args.named in
    let runs : Runs told named c.in-Some.config c.in-Ok-read.schedule = record {
      C = c.in-Ok.loaded;
      loads = loads told rb mid named.config c.in-Ok.loaded c.in-Ok.ensures.answer;
      is_run = sym (rw c.in-Some.is at c.in-Ok-core_config.ensures);
      schedule_contents = rw c.in-Ok.ensures.same_files at c.in-Ok-read.ensures.contents;
    } in
    replayed told old new rb rn b n named c.in-Some.config c.in-Ok-read.schedule runs c.replay.result (rw c.as_bytes.ensures at c.replay.ensures.replayed)

pub returns-in-Err-read : goal.returns-in-Err-read
returns-in-Err-read g c =
    let told = g.F.Files.told c.args.files.now in
    let rb = g.F.Files.faults c.args.files.now in
    let mid = g.F.Files.faults c.read_config.new.files in
    let rn = g.F.Files.faults c.read.new.self in
    let old = g.K.Sink.written c.args.out.now in
    let b = g.K.Sink.faults c.args.out.now in
    let named = named_of c.args.named in
    rw c.read_end.ensures (unread told old old rb rn b b named c.in-Ok.loaded c.in-Some.config (loads told rb mid named.config c.in-Ok.loaded c.in-Ok.ensures.answer)
    (sym (rw c.in-Some.is at c.in-Ok-core_config.ensures)) c.in-Err-read.failed
    (λ e. rose_earlier rb mid rn c.in-Ok.ensures.faults_never_fall (c.read.ensures.failed_is_counted (c.in-Err-read.is ∙ ap Err e))) refl)
