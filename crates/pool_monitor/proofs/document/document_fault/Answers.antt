use Rattle.std.proofs.Common.{ap, ◌∙◌}
use Rattle.toml.specs.View.{table_view}
use Rattle.config.specs.Faults.{after_faults}
use Rattle.config.specs.Texts.{place_of}
use Rattle.pool_monitor.specs.Documents.{faults_with}
use Rattle.pool_monitor.proofs.Documents.{fault_found}
use Rattle.pool_monitor.proofs.document.document_fault.Goals as goal

pub returns : goal.returns
returns c =
    let ms = table_view c.args.top.now in
    let pools = place_of c.in_ok-index.index in
    fault_found c.args.pools.now ms pools c.told.inside.first c.in_ok-index.ensures
    (c.told.view_is ∙ c.in_ok-document.ensures ∙ ap (after_faults (faults_with pools ms)) c.new-told.ensures)
