use Rattle.std.proofs.Common.{◌≤◌}
use Rattle.serve_loop.specs.Part.{Part}
use Rattle.serve_loop.specs.Turn.{WorkAt}
use Rattle.serve_loop.proofs.Trying.{EachFirst}
use Rattle.serve_loop.proofs.serving.Serving.each.Given as goal

abbrev pub invariant-loop-at : goal.invariant-loop-at
invariant-loop-at g l =
    (Part g.C.EventCore.face g.N.Net.did g.N.Net.gave (EachFirst (WorkAt g.C.EventCore.face l.work l.initial.self.conns) l.order l.at l.stay)
    l.initial.self l.self l.initial.net l.net)
    × (g.N.Net.faults l.initial.net ≤ g.N.Net.faults l.net)
