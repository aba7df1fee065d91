use Rattle.std.proofs.Common.{sym}
use Rattle.px_bytes.proofs.Globs.{fails_there, misfits, goes_on, gets_shorter, comes_to_no_piece}
use Rattle.px_bytes.proofs.pattern.run_to_star.Goals as goal

pub returns-in_default-rest : goal.returns-in_default-rest
returns-in_default-rest c =
    fails_there _ _ _ _ c.in-len1-up.len_at_least c.if-piece-eq42.false c.in_default-rest.len_below c.loop-pieces.invariant

pub returns-in_default-behind_piece : goal.returns-in_default-behind_piece
returns-in_default-behind_piece c =
    misfits _ _ _ _ c.in-len1-up.len_at_least c.if-piece-eq42.false c.in-len1-up-rest.len_at_least (sym c.in_default-behind_piece.ensures) c.loop-pieces.invariant

pub loop-pieces-smaller : goal.loop-pieces-smaller
loop-pieces-smaller c =
    gets_shorter c.loop-pieces.pieces.now c.in-Some.left.now _ c.in-len1-up.len_at_least (sym c.in-Some.ensures)

pub loop-pieces-preserved : goal.loop-pieces-preserved
loop-pieces-preserved c =
    goes_on _ _ _ _ c.in-Some.left.now c.in-len1-up.len_at_least c.if-piece-eq42.false c.in-len1-up-rest.len_at_least (sym c.in-Some.ensures) c.loop-pieces.invariant

pub returns : goal.returns
returns c = comes_to_no_piece _ _ c.loop-pieces.pieces.now _ _ c.in_default.len_below c.loop-pieces.invariant c.at_end.ensures
