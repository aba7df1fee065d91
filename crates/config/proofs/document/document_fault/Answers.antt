use Rattle.std.proofs.Common.{ap, ◌∙◌}
use Rattle.toml.specs.View.{table_view}
use Rattle.config.specs.Documents.{faults_with, names_of}
use Rattle.config.specs.Faults.{after_faults}
use Rattle.config.proofs.Documents.{fault_found}
use Rattle.config.proofs.document.document_fault.Goals as goal

pub returns : goal.returns
returns c =
    let ms = table_view c.args.top.now in
    let n = names_of c.in_ok-known.known in
    fault_found ms n c.told.inside.first c.in_ok-known.ensures
    (c.told.view_is ∙ c.in_ok-document.ensures ∙ ap (after_faults (faults_with n ms)) c.new-told.ensures)
