use Rattle.std.proofs.Common.{arith}
use Rattle.number_table.proofs.Entries.{length_items}
use Rattle.number_table.proofs.Table.len.Goals as goal

pub returns-clause-items : goal.returns-clause-items
returns-clause-items g c = rw (← c.self.view_is, length_items c.self.inside.values c.self.inside.entries.items c.self.invariant.0.held) (omega (arith, c.len.ensures, c.self.inside.entries.ok.0))
