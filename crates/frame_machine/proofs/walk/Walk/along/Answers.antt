use Rattle.std.proofs.Common.{refl, ap, ◌<◌, sym, length, arith}
use Rattle.tcl_trees.specs.Procedures.{procs_view}
use Rattle.tcl_trees.specs.TreeView.{node_view}
use Rattle.frame_machine.proofs.InWalks.{along_more, along_so_far}
use Rattle.frame_machine.proofs.walk.Walk.along.Goals as goal

pub loop-frame-init : goal.loop-frame-init
loop-frame-init c = record {
  follows = rw c.root-walk.ensures.below c.root-walk.ensures.top;
  full = ap length c.root-walk.ensures.below;
}

pub loop-frame-preserved : goal.loop-frame-preserved
loop-frame-preserved c =
    let below : c.loop-frame.frame-index < length c.args.frames.now = omega arith in
    along_more (procs_view c.args.procs.now) (node_view c.args.tree.now) c.args.frames.now c.loop-frame.frame-index c.frame-item.result c.loop-frame.walk c.enter.new.self below (sym c.frame-item.is)
    (rw c.if-not-branch.false at c.in_ok-enter.ensures) c.loop-frame.invariant

pub returns-then-not-branch : goal.returns-then-not-branch
returns-then-not-branch c =
    along_so_far (procs_view c.args.procs.now) (node_view c.args.tree.now) c.args.frames.now c.loop-frame.frame-index c.loop-frame.walk c.enter.new.self
    (rw c.if-not-branch.true at c.in_ok-enter.ensures) c.loop-frame.invariant

pub returns : goal.returns
returns c = along_so_far (procs_view c.args.procs.now) (node_view c.args.tree.now) c.args.frames.now _ c.loop-frame.walk c.loop-frame.walk refl c.loop-frame.invariant
