use Rattle.std.proofs.Common.{◌≤◌}
use Rattle.serve_loop.specs.Server.{ListensAll}
use Rattle.serve_loop.proofs.begin.listen_all.Given as goal

abbrev pub invariant-loop-slot : goal.invariant-loop-slot
invariant-loop-slot g l =
    (ListensAll g.C.EventCore.face g.N.Net.did l.core l.slot l.initial.net l.net)
    × (g.N.Net.faults l.initial.net ≤ g.N.Net.faults l.net)
