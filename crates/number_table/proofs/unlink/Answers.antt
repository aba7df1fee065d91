use Rattle.std.proofs.Common.{sym, ◌∙◌}
use Rattle.number_table.proofs.Ring.{without_missing}
use Rattle.number_table.proofs.unlink.Goals as goal

pub returns-else-entry-clause-items : goal.returns-else-entry-clause-items
returns-else-entry-clause-items c = sym (without_missing _ _ (sym c.requires ∙ c.if-entry.false))
