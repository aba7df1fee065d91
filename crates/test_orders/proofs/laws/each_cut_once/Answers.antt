use Rattle.test_orders.proofs.EachCut as cuts
use Rattle.test_orders.proofs.laws.each_cut_once.Goals as goal

pub returns : goal.returns
returns c = cuts.each_cut_once
