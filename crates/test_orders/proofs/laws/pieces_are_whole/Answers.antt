use Rattle.test_orders.proofs.WholePieces as pieces
use Rattle.test_orders.proofs.laws.pieces_are_whole.Goals as goal

pub returns : goal.returns
returns c = pieces.pieces_are_whole
