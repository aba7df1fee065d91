use Rattle.std.proofs.Common.{◌+◌, ◌-◌, sym, ap, ◌∙◌, arith}
use Rattle.tcl_trees.specs.Opened.{counted}
use Rattle.tcl_compile.proofs.OpenedTurns.{counted_more}
use Rattle.tcl_compile.proofs.opened.counted.Goals as goal

pub loop-at-preserved : goal.loop-at-preserved
loop-at-preserved c =
    let at = c.loop-at.at in
    ap (counted c.args.text.now (c.args.to - (at + 1)) (at + 1)) c.turned-count.ensures
    ∙ sym (counted_more c.args.text.now c.args.to at c.loop-at.count (omega arith))
    ∙ c.loop-at.invariant
