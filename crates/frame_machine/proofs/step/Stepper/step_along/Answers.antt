use Rattle.tcl_trees.specs.Procedures.{procs_view}
use Rattle.tcl_trees.specs.TreeView.{node_view}
use Rattle.frame_machine.proofs.InWalks.{grown_on, on_the_way}
use Rattle.frame_machine.proofs.step.Stepper.step_along.Goals as goal

pub step_ticked-requires-clause-place : goal.step_ticked-requires-clause-place
step_ticked-requires-clause-place g c =
    let ps = procs_view c.args.procs.now in
    let t = node_view c.args.tree.now in
    on_the_way ps t _ c.retreat.new.self c.last-from.result c.last-from.ensures.place c.last-from.ensures.passed (c.retreat.ensures ps t c.requires.follows)

pub returns-clause-follows : goal.returns-clause-follows
returns-clause-follows g c =
    let ps = procs_view c.args.procs.now in
    let t = node_view c.args.tree.now in
    let f = grown_on ps t _ _ c.retreat.new.self c.in_ok-turn.ensures.grown (c.retreat.ensures ps t c.requires.follows) in
    let h = rw c.as_slice.ensures.value at (c.in_ok-catch_up.ensures t) in
    h f
