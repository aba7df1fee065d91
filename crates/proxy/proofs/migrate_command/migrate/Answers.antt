use Rattle.proxy.proofs.Migrations.{migration_refused, migration_told}
use Rattle.toml.specs.View.{table_view}
use Rattle.proxy.proofs.migrate_command.migrate.Goals as goal

pub returns-in-Ok : goal.returns-in-Ok
returns-in-Ok g c =
    let told = g.F.Files.told c.args.files.now in
    let rb = g.F.Files.faults c.args.files.now in
    let rn = g.F.Files.faults c.migrated.new.files in
    let old = g.K.Sink.written c.args.out.now in
    let new = g.K.Sink.written c.tell_made.new.out in
    let b = g.K.Sink.faults c.args.out.now in
    let n = g.K.Sink.faults c.tell_made.new.out in
    migration_told told old new rb rn b n c.args.name.now (table_view c.in-Ok.table) c.in-Ok.ensures.table c.table_text.result c.table_text.ensures c.tell_made.result c.tell_made.ensures

pub returns-in-Err : goal.returns-in-Err
returns-in-Err g c =
    let told = g.F.Files.told c.args.files.now in
    let rb = g.F.Files.faults c.args.files.now in
    let rn = g.F.Files.faults c.migrated.new.files in
    let old = g.K.Sink.written c.args.out.now in
    let new = g.K.Sink.written c.refuse.new.out in
    let b = g.K.Sink.faults c.args.out.now in
    let n = g.K.Sink.faults c.refuse.new.out in
    migration_refused told old new rb rn b n c.args.name.now c.in-Err.why c.in-Err.ensures.refused c.refuse.result c.refuse.ensures
