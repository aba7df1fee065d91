use Rattle.std.proofs.Common.{sym, rules, ◌∙◌}
use Rattle.tcl_list_commands.proofs.Widths.{joined_fits, too_wide, wide_enough, width}
use Rattle.tcl_list_commands.proofs.writing.fits.Goals as goal

pub returns-then-size-room : goal.returns-then-size-room
returns-then-size-room c =
    sym (joined_fits c.args.elements.now ∙ too_wide width _ _ _ _ c.loop-element.invariant c.element-item.result (search rules) c.element-item.is (search rules))

pub returns : goal.returns
returns c = sym (joined_fits c.args.elements.now ∙ wide_enough width c.args.elements.now c.loop-element.element-index _ _ c.loop-element.invariant (search rules))
