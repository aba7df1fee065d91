use Rattle.std.proofs.Common.{subst}
use Rattle.std.specs.Prelude.{Ok, Err}
use Rattle.toml.specs.View.{table_view}
use Rattle.config.proofs.Migrating.{is_migrated}
use Rattle.config.proofs.Readings.{answered}
use Rattle.config.specs.Outcomes.{IsDocument, OfDocument, told_fault}
use Rattle.config.proofs.migration.migrated.Goals as goal

pub returns-in-Ok-clause-table : goal.returns-in-Ok-clause-table
returns-in-Ok-clause-table g c =
    let told = g.F.Files.told c.args.files.now in
    let mid = g.F.Files.faults c.read_file.new.files in
    let now = g.F.Files.faults c.of_document.new.files in
    let top = table_view c.in_ok-top.top in
    let held = c.in_ok-held.held in
    let C = c.in-Ok._loaded in
    let document = subst (λ b. IsDocument b top) c.as_bytes-bytes.ensures c.in_ok-top.ensures.table in
    let ofbytes = subst (λ b. OfDocument (g.F.Files.told c.read_file.new.files) mid now top (told_fault b top) (Ok C)) c.as_bytes-bytes.ensures c.in-Ok.ensures.answer in
    let answer = subst (λ t. OfDocument t mid now top (told_fault held top) (Ok C)) c.in_ok-held.ensures.same_files ofbytes in
    is_migrated told mid now c.args.name.now held top C (table_view c.set_version.new.top) c.in_ok-held.ensures.contents document answer c.in_ok-set_version-in-Ok.ensures

pub returns-clause-refused : goal.returns-clause-refused
returns-clause-refused g c =
    let told = g.F.Files.told c.args.files.now in
    let before = g.F.Files.faults c.args.files.now in
    let mid = g.F.Files.faults c.read_file.new.files in
    let now = g.F.Files.faults c.of_document.new.files in
    let top = table_view c.in_ok-top.top in
    let held = c.in_ok-held.held in
    let why = c.in-Err.why in
    let document = subst (λ b. IsDocument b top) c.as_bytes-bytes.ensures c.in_ok-top.ensures.table in
    let ofbytes = subst (λ b. OfDocument (g.F.Files.told c.read_file.new.files) mid now top (told_fault b top) (Err why)) c.as_bytes-bytes.ensures c.in-Err.ensures.answer in
    let answer = subst (λ t. OfDocument t mid now top (told_fault held top) (Err why)) c.in_ok-held.ensures.same_files ofbytes in
    answered told before mid now c.in_ok-held.ensures.faults_never_fall top c.args.name.now held c.in_ok-held.ensures.contents document (Err why) answer
