use Rattle.std.proofs.Common.{ap, ◌∙◌}
use Rattle.toml.proofs.Views.{view-Table}
use Rattle.toml.specs.Data.{table}
use Rattle.toml.specs.View.{table_view}
use Rattle.tmsh_read.proofs.draft.Draft.close_stanza.Goals as goal

pub returns-clause-value : goal.returns-clause-value
returns-clause-value c = view-Table c.replace.result ∙ ap (λ m. table (table_view m)) c.replace.ensures.value
