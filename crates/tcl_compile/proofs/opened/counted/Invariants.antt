use Rattle.std.proofs.Common.{◌≡◌, ◌-◌}
use Rattle.tcl_trees.specs.Opened.{counted}
use Rattle.tcl_compile.proofs.opened.counted.Given as goal

abbrev pub invariant-loop-at : goal.invariant-loop-at
invariant-loop-at l =
    counted l.text (l.to - l.at) l.at l.count ≡ counted l.text (l.to - l.from) l.from l.before
