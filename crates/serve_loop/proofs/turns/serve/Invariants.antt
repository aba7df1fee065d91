use Rattle.std.proofs.Common.{◌≤◌}
use Rattle.serve_loop.specs.Server.{Behind, Turns, running}
use Rattle.serve_loop.proofs.turns.serve.Given as goal

abbrev pub invariant-loop-turn : goal.invariant-loop-turn
invariant-loop-turn g l =
    Turns g.C.EventCore.face g.N.Net.did g.N.Net.gave g.T.Clock.gave l.turn
    (running l.initial.server l.initial.net l.initial.clock (g.K.Sink.written l.initial.journal))
    (running l.server l.net l.clock (g.K.Sink.written l.journal))
    × (Behind g.C.EventCore.face l.turn l.server.serving
    × ((g.N.Net.faults l.initial.net ≤ g.N.Net.faults l.net) × (g.K.Sink.faults l.initial.journal ≤ g.K.Sink.faults l.journal)))
