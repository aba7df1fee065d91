use Rattle.std.proofs.Common.{sym, rules, ◌∙◌}
use Rattle.tcl_list_commands.proofs.Widths.{gapped, together_fits, too_wide, wide_enough}
use Rattle.tcl_list_commands.proofs.joining.fits.Goals as goal

pub returns-then-size-room : goal.returns-then-size-room
returns-then-size-room c =
    sym (together_fits c.args.between.now c.args.pieces.now
    ∙ too_wide (gapped c.args.between.now) _ _ _ _ c.loop-piece.invariant c.piece-item.result (search rules) c.piece-item.is (search rules))

pub returns : goal.returns
returns c = sym (together_fits c.args.between.now c.args.pieces.now ∙ wide_enough (gapped c.args.between.now) c.args.pieces.now c.loop-piece.piece-index _ _ c.loop-piece.invariant (search rules))
