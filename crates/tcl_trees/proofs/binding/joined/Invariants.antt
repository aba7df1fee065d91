use Rattle.std.proofs.Common.{◌≡◌, take}
use Rattle.tcl_trees.proofs.binding.joined.Given as goal

abbrev pub invariant-loop-word : goal.invariant-loop-word
invariant-loop-word l = l.items ≡ take l.word-index l.words
