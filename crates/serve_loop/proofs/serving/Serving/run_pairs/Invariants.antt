use Rattle.std.proofs.Common.{◌≤◌}
use Rattle.serve_loop.specs.Part.{Part}
use Rattle.serve_loop.specs.Running.{GavePairs}
use Rattle.serve_loop.proofs.serving.Serving.run_pairs.Given as goal

abbrev pub invariant-loop-often : goal.invariant-loop-often
invariant-loop-often g l =
    (Part g.C.EventCore.face g.N.Net.did g.N.Net.gave (GavePairs g.C.EventCore.face l.often l.initial.writers l.writers) l.initial.self l.self l.initial.net l.net)
    × (g.N.Net.faults l.initial.net ≤ g.N.Net.faults l.net)
