-- The words of an `if` as the code holds them.
use Rattle.std.specs.Prelude.{List, ◌++◌, map, Option, Some, None, option_map}
use Rattle.std.specs.Borrow.{Bor}
use Rattle.tcl_words.specs.Tree.{Word}
use Rattle.tcl_words.specs.View.{word_view}
use Rattle.tcl_words.specs.declared.script.Word as code
use Rattle.tcl_trees.specs.Forms.{Conditional, with_arm, branches_in, behind_body, last_body}
use Rattle.tcl_compile.specs.declared.if_form.Arm.{Arm}
use Rattle.tcl_compile.specs.declared.if_form.Branches.{Branches}

abbrev pub arm_view : Arm → Word × Word
arm_view a = (word_view a.condition.now, word_view a.body.now)

abbrev pub arms_view : List Arm → List (Word × Word)
arms_view arms = map arm_view arms

abbrev pub branches_view : Branches → Conditional
branches_view b = record {
  arms = arms_view b.arms.items;
  last = option_map (λ w. word_view w.now) b.last;
}

-- the form that begins with these arms
abbrev pub behind_arms : List (Word × Word) → Conditional → Conditional
behind_arms arms b = record { arms = arms ++ b.arms; last = b.last }

-- the form that begins with an arm, if there is one, and goes on with the words behind it
abbrev pub from_arm : Option (Arm × Bor (List code.Word)) → Option Conditional
from_arm None = None
from_arm (Some r) =
    option_map (with_arm (word_view r.0.condition.now) (word_view r.0.body.now))
    (behind_body (map word_view r.1.now))

-- the form that goes on behind `elseif`, if it stands first among the words
abbrev pub from_elseif : List Word → Option (Bor (List code.Word)) → Option Conditional
from_elseif words None = last_body words
from_elseif words (Some more) = branches_in (map word_view more.now)
