use Rattle.std.proofs.Common.{refl, arith}
use Rattle.tcl_trees.specs.TreeView.{node_view}
use Rattle.frames.specs.Given.{setting_of}
use Rattle.frame_machine.proofs.InSteps.{went}
use Rattle.frame_machine.proofs.step.Stepper.step_counted.Goals as goal

pub returns-clause-went : goal.returns-clause-went
returns-clause-went g c =
    let s = c.in_ok-turn.ensures.did in
    went (setting_of g.H.Host.table c.args.context.now) (node_view c.args.tree.now) _ _ _ s.mode_before _ _ _ _ _ _ _ _ _ _ c.new-paid.ensures
    s.goes refl s.mode_is s.told s.steps c.in_ok-turn.ensures.heavy c.in_ok-turn.ensures.owed (let k = c.in_ok-turn.ensures.ticks in omega (arith, k))
