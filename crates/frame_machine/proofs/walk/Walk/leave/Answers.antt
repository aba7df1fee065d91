use Rattle.std.proofs.Common.{◌-◌, [], ◌∷◌, length, arith}
use Rattle.std.proofs.lemmas.List.{length-append}
use Rattle.frame_machine.specs.Walks.{root_spot}
use Rattle.frame_machine.proofs.InWalks.{fewer, left_one, short}
use Rattle.frame_machine.proofs.walk.Walk.leave.Goals as goal

pub returns-then-len-frames : goal.returns-then-len-frames
returns-then-len-frames c = λ ps t fs e h.
    let w = c.args.self.now in
    let k = short ps (root_spot t) fs w.below.items w.top h in
    fewer ps (root_spot t) (length fs - 1) fs w.below.items w.top h (omega (arith, k, e, c.if-len-frames.true, c.len.ensures, w.below.ok.0))

pub returns-in-Some : goal.returns-in-Some
returns-in-Some c = λ ps t fs e h.
    let xs = c.pop.new.self.items in
    let l = rw c.in-Some.ensures.items at h in
    let k = short ps (root_spot t) fs _ c.args.self.now.top l in
    fewer ps (root_spot t) (length fs - 1) fs xs c.in-Some.place (left_one ps (root_spot t) fs xs c.in-Some.place c.args.self.now.top l) (omega (arith, k, length-append xs (c.in-Some.place ∷ [])))
