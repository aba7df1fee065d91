use Rattle.number_table.proofs.Entries.{length_items}
use Rattle.number_table.proofs.Table.place.Goals as goal

pub returns-clause-within : goal.returns-clause-within
returns-clause-within g c = rw (← c.self.view_is, length_items c.self.inside.values c.self.inside.entries.items c.self.invariant.0.held, ← c.deref.ensures.value) c.find.ensures.within
