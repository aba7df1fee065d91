use Rattle.test_plan.proofs.Texts as texts
use Rattle.test_plan.proofs.laws.texts_are_whole.Goals as goal

pub returns : goal.returns
returns c = texts.texts_are_whole
