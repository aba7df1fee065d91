use Rattle.std.proofs.Common.{map, sym, ap, ◌∙◌}
use Rattle.std.specs.Prelude.{option_map}
use Rattle.tcl_words.specs.View.{word_view}
use Rattle.tcl_trees.specs.Forms.{if_form}
use Rattle.tcl_compile.specs.IfView.{arms_view, behind_arms}
use Rattle.tcl_compile.proofs.Arms.{arm_turn}
use Rattle.tcl_compile.proofs.if_form.if_form.Goals as goal

pub loop-arm-preserved : goal.loop-arm-preserved
loop-arm-preserved c =
    arm_turn (if_form (map word_view c.args.words.now)) c.loop-arm.arms.items c.push.new.self.items c.in-Some-first_arm.arm
    (map word_view c.loop-arm.left.now) (map word_view c.in-Some-first_arm.behind.now)
    c.loop-arm.invariant c.in-Some-first_arm.ensures.goes_on c.in_ok-push.ensures.items
    ∙ ap (option_map (behind_arms (arms_view c.push.new.self.items))) c.in-Some-behind_elseif.ensures.goes_on

pub returns-in-None : goal.returns-in-None
returns-in-None c =
    c.with_last.ensures
    ∙ sym (arm_turn (if_form (map word_view c.args.words.now)) c.loop-arm.arms.items c.push.new.self.items c.in-Some-first_arm.arm
    (map word_view c.loop-arm.left.now) (map word_view c.in-Some-first_arm.behind.now)
    c.loop-arm.invariant c.in-Some-first_arm.ensures.goes_on c.in_ok-push.ensures.items
    ∙ ap (option_map (behind_arms (arms_view c.push.new.self.items))) c.in-None.ensures.goes_on)
