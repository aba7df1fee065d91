use Rattle.std.proofs.Common.{◌≡◌, ◌+◌, drop, map}
use Rattle.tcl_words.specs.View.{word_view}
use Rattle.tcl_trees.specs.Forms.{option_count}
use Rattle.tcl_compile.proofs.forms.option_count.Given as goal

abbrev pub invariant-loop-at : goal.invariant-loop-at
invariant-loop-at l =
    l.at + option_count (map word_view (drop l.at l.words)) ≡ option_count (map word_view l.words)
