use Rattle.std.proofs.Common.{◌≡◌, drop, map}
use Rattle.tcl_words.specs.View.{part_view}
use Rattle.tcl_trees.specs.Opened.{last_end}
use Rattle.tcl_compile.proofs.opened.last_end.Given as goal

abbrev pub invariant-loop-part : goal.invariant-loop-part
invariant-loop-part l =
    last_end l.end (map part_view (drop l.part-index l.parts))
    ≡ last_end l.otherwise (map part_view l.parts)
