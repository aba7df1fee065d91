use Rattle.std.proofs.Common.{subst}
use Rattle.toml.specs.View.{table_view}
use Rattle.config.specs.Outcomes.{IsDocument, OfDocument, told_fault}
use Rattle.config.proofs.Readings.{answered}
use Rattle.config.proofs.reader.read_config.Goals as goal

pub returns-clause-answer : goal.returns-clause-answer
returns-clause-answer g c =
    let before = g.F.Files.faults c.args.files.now in
    let mid = g.F.Files.faults c.read_file.new.files in
    let now = g.F.Files.faults c.of_document.new.files in
    let top = table_view c.in_ok-top.top in
    let document = subst (λ b. IsDocument b top) c.as_bytes-bytes.ensures c.in_ok-top.ensures.table in
    let ofbytes = subst (λ b. OfDocument (g.F.Files.told c.read_file.new.files) mid now top (told_fault b top) c.of_document.result) c.as_bytes-bytes.ensures c.of_document.ensures.answer in
    let answer = subst (λ t. OfDocument t mid now top (told_fault c.in_ok-held.held top) c.of_document.result) c.in_ok-held.ensures.same_files ofbytes in
    answered (g.F.Files.told c.args.files.now) before mid now c.in_ok-held.ensures.faults_never_fall top c.args.name.now c.in_ok-held.held c.in_ok-held.ensures.contents document c.of_document.result answer
