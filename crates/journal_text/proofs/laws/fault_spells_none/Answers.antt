use Rattle.journal_text.proofs.FaultSpellsNone.{fault_spells_none}
use Rattle.journal_text.proofs.laws.fault_spells_none.Goals as goal

pub returns : goal.returns
returns c = fault_spells_none
