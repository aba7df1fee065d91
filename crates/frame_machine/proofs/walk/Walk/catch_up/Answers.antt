use Rattle.std.proofs.Common.{◌≡◌, length, arith}
use Rattle.tcl_trees.specs.Procedures.{procs_view}
use Rattle.frame_machine.proofs.InWalks.{caught_up}
use Rattle.frame_machine.proofs.walk.Walk.catch_up.Goals as goal

pub returns-in_ok-enter : goal.returns-in_ok-enter
returns-in_ok-enter c = λ t h.
    let w = c.args.self.now in
    let l : length w.below.items ≡ length c.in-Some.front.now = omega (arith, c.if-len-front.true, c.len.ensures, w.below.ok.0) in
    caught_up (procs_view c.args.procs.now) t c.args.frames.now c.in-Some.front.now c.in-Some.frame.now w c.enter.new.self c.in_ok-enter.field-0 c.in-Some.ensures.cases.0 l c.in_ok-enter.ensures h
