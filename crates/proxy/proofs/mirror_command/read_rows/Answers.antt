use Rattle.std.proofs.Common.{refl}
use Rattle.proxy.proofs.ConfigAnswers.{loads}
use Rattle.proxy.proofs.mirror_command.read_rows.Goals as goal

pub returns-in-Ok-clause-rows : goal.returns-in-Ok-clause-rows
returns-in-Ok-clause-rows g c =
    let told = g.F.Files.told c.args.files.now in
    let before = g.F.Files.faults c.args.files.now in
    let now = g.F.Files.faults c.read_config.new.files in
    let C = c.in-Ok.loaded in
    record { C = C; loads = loads told before now c.args.name.now C c.in-Ok.ensures.answer; rows_are = refl }
