use Rattle.std.proofs.Common.{◌≡◌, ap, ◌∙◌, ◌+◌, ◌≤◌, length, arith}
use Rattle.std.specs.Prelude.{option_map}
use Rattle.tcl_trees.specs.TreeView.{node_view}
use Rattle.rule_model.specs.declared.code.Code.TheVariants.{Value}
use Rattle.frames.specs.Children.{commands_of}
use Rattle.frames.specs.Moves.{stop}
use Rattle.frame_words.proofs.ScriptMoves.{over_makes}
use Rattle.frame_words.proofs.scripts.go_script.Goals as goal

pub returns-then-count-at-clause-goes : goal.returns-then-count-at-clause-goes
returns-then-count-at-clause-goes g c = λ v e.
    let level = option_map (λ v. v.now.statics) c.args.statics in
    let t = node_view c.args.node.now in
    let a = c.args in
    let k : c.in-Value.value ≡ v = cc in
    let over : length (commands_of t) ≤ a.at + 1 = omega arith in
    over_makes level t (a.at + 1) v a.wanted a.vars.now a.budget.now a.paid.now a.steps.now c.stop.result over (c.stop.ensures ∙ ap (λ x. stop (Value x)) k)
