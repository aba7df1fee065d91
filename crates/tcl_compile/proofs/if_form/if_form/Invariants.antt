use Rattle.std.proofs.Common.{◌≡◌, length, map}
use Rattle.std.specs.Prelude.{option_map}
use Rattle.tcl_words.specs.View.{word_view}
use Rattle.tcl_trees.specs.Forms.{branches_in, if_form}
use Rattle.tcl_compile.specs.IfView.{arms_view, behind_arms}
use Rattle.tcl_compile.proofs.if_form.if_form.Given as goal

abbrev pub invariant-loop-arm : goal.invariant-loop-arm
invariant-loop-arm l =
    if_form (map word_view l.fn.words)
    ≡ option_map (behind_arms (arms_view l.arms.items)) (branches_in (map word_view l.left))

abbrev pub decreases-loop-arm : goal.decreases-loop-arm
decreases-loop-arm l = length l.left
