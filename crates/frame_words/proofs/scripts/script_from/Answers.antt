use Rattle.std.proofs.Common.{◌≡◌, ap, ◌∙◌, refl, sym, ◌+◌, ◌-◌, ◌≤◌, ◌^◌, length, arith, add-zero}
use Rattle.std.specs.Prelude.{option_map}
use Rattle.tcl_trees.specs.TreeView.{node_view}
use Rattle.frame_words.specs.Scripts.{unheard}
use Rattle.frames.specs.Children.{commands_of}
use Rattle.frame_words.proofs.ScriptMoves.{done_by, goes_at, goes_within, rests_at, two_done, unheard_most}
use Rattle.frame_words.proofs.scripts.script_from.Goals as goal

pub returns-then-reached-at-clause-did : goal.returns-then-reached-at-clause-did
returns-then-reached-at-clause-did g c =
    let level = option_map (λ v. v.now.statics) c.args.statics in
    let t = node_view c.args.node.now in
    let a = c.args in
    let r = c.commands_at_once-reached in
    let n = c.in_ok-next.ensures in
    let none : r.result - a.at ≡ 0 = omega arith in
    let d = done_by level t _ a.at _ 0 a.wanted a.vars.now a.budget.now a.paid.now r.new.vars r.new.budget r.new.paid c.commands-all.ensures none
    (λ some. absurd (omega (arith, some))) r.ensures.done in
    goes_at level t a.at 0 a.last a.wanted a.vars.now a.budget.now a.paid.now r.new.vars r.new.budget r.new.paid a.at a.steps.now a.steps.now _ _ _
    (sym (add-zero a.at)) (sym (add-zero a.steps.now)) d n.next n.budget n.cost

pub returns-then-reached-most-clause-did : goal.returns-then-reached-most-clause-did
returns-then-reached-most-clause-did g c =
    let level = option_map (λ v. v.now.statics) c.args.statics in
    let t = node_view c.args.node.now in
    let a = c.args in
    let r = c.commands_at_once-reached in
    let n = c.in_ok-next-2.ensures in
    let done = r.result - a.at in
    let to : r.result ≡ a.at + done = omega arith in
    let ticked : c.add.new.self ≡ a.steps.now + done = omega arith in
    let u : c.unheard.result ≡ unheard (length (commands_of t)) a.wanted = c.unheard.ensures ∙ ap (λ n. unheard n a.wanted) c.count-count.ensures in
    let d = done_by level t _ a.at _ done a.wanted a.vars.now a.budget.now a.paid.now r.new.vars r.new.budget r.new.paid c.commands-all.ensures refl
    (goes_within a.at c.saturating_add-most.result c.min-end.result _ r.result (rw u at c.min-end.ensures) r.ensures.within) r.ensures.done in
    goes_at level t a.at done a.last a.wanted a.vars.now a.budget.now a.paid.now r.new.vars r.new.budget r.new.paid r.result a.steps.now c.add.new.self _ _ _ to
    ticked d n.next n.budget n.cost

pub returns-clause-did : goal.returns-clause-did
returns-clause-did g c =
    let level = option_map (λ v. v.now.statics) c.args.statics in
    let t = node_view c.args.node.now in
    let a = c.args in
    let r = c.commands_at_once-reached in
    let done = r.result - a.at in
    let to : r.result - 1 + 1 ≡ a.at + done = omega arith in
    let ticked : c.add.new.self ≡ a.steps.now + done = omega arith in
    let u : c.unheard.result ≡ unheard (length (commands_of t)) a.wanted = c.unheard.ensures ∙ ap (λ n. unheard n a.wanted) c.count-count.ensures in
    let w : c.unheard.result ≤ c.count-count.result = rw c.unheard.ensures (unheard_most c.count-count.result a.wanted) in
    let fits : c.count-count.result ≤ 2 ^ 64 - 1 = omega arith in
    let two = two_done a.at c.saturating_add-most.result c.min-end.result c.unheard.result c.count-count.result r.result
    (2 ^ 64 - 1) c.saturating_add-most.ensures c.min-end.ensures w fits (omega arith) r.ensures.within (omega arith) c.if-reached-count.false in
    let d = done_by level t _ a.at _ done a.wanted a.vars.now a.budget.now a.paid.now r.new.vars r.new.budget r.new.paid c.commands-all.ensures refl
    (goes_within a.at c.saturating_add-most.result c.min-end.result _ r.result (rw u at c.min-end.ensures) r.ensures.within) r.ensures.done in
    rests_at level t a.at done a.last a.wanted a.vars.now a.budget.now a.paid.now r.new.vars r.new.budget r.new.paid
    (r.result - 1) a.steps.now c.add.new.self _ to ticked two d c.back.ensures
