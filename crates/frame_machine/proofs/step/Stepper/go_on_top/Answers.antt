use Rattle.std.proofs.Common.{◌≡◌, refl}
use Rattle.tcl_trees.specs.Procedures.{procs_view}
use Rattle.tcl_trees.specs.TreeView.{node_view}
use Rattle.frames.specs.Given.{setting_of}
use Rattle.frame_machine.proofs.InSteps.{back_owes, back_steps, heavy_next, next_goes}
use Rattle.frame_machine.proofs.InWalks.{located_from}
use Rattle.frame_machine.proofs.step.Stepper.go_on_top.Goals as goal

pub locate-place-requires-clause-passed : goal.locate-place-requires-clause-passed
locate-place-requires-clause-passed g c =
    let w = c.requires.place.short in
    rw c.as_slice-frames.ensures.value w

pub returns-clause-did : goal.returns-clause-did
returns-clause-did g c =
    let G = setting_of g.H.Host.table c.args.context.now in
    let t = node_view c.args.tree.now in
    let fs = c.args.machine.now.at.frames.items in
    let n = c.in_ok-next in
    let s = c.in_ok-turn in
    let at = located_from G.procedures t fs _ c.locate-place.result _ c.as_slice-frames.ensures.value c.requires.place c.locate-place.ensures in
    record {
      mode_before = n.next.mode;
      steps = rw s.ensures.budget
          (back_steps G t fs _ _ c.args.frame c.args.code _ _ _ n.next _ refl s.ensures.frames refl
          (rw (at.node, at.room, at.wanted, c.hear-code.ensures, c.wants.ensures) at n.ensures.did));
      goes = next_goes G.procedures (node_view c.locate-place.result.node.now) n.next n.ensures.ready;
      mode_is = s.ensures.mode;
      told = s.ensures.told;
    }

pub returns-clause-heavy : goal.returns-clause-heavy
returns-clause-heavy g c = λ w.
    let ps = procs_view c.args.context.now.procs.now in
    let t = node_view c.args.tree.now in
    let fs = c.args.machine.now.at.frames.items in
    let n = c.in_ok-next in
    let s = c.in_ok-turn in
    let at = located_from ps t fs _ c.locate-place.result _ c.as_slice-frames.ensures.value c.requires.place c.locate-place.ensures in
    rw s.ensures.mode (heavy_next ps t fs _ n.next s.ensures.frames (rw at.node at n.ensures.ready))

pub returns-clause-owed : goal.returns-clause-owed
returns-clause-owed g c = λ w.
    let n = c.in_ok-next in
    let s = c.in_ok-turn in
    rw s.ensures.mode
    (back_owes c.args.machine.now.at.frames.items _ _ c.args.frame c.args.code n.next _ _ _ _ _ refl s.ensures.frames c.tick.ensures
    (rw (c.hear-code.ensures, c.wants.ensures) at n.ensures.owed))

pub returns-clause-grown : goal.returns-clause-grown
returns-clause-grown g c = (c.in_ok-next.next.frame, c.in_ok-turn.ensures.frames)
