use Rattle.std.proofs.Common.{◌≤◌}
use Rattle.px_outside.specs.declared.answers.ReadyAt.TheVariants as ready
use Rattle.serve_loop.specs.Asking.{AskedOnce}
use Rattle.serve_loop.specs.Often.{GaveOften}
use Rattle.serve_loop.specs.Part.{Part}
use Rattle.serve_loop.proofs.serving.Serving.ask_listener.Given as goal

abbrev pub invariant-loop-often : goal.invariant-loop-often
invariant-loop-often g l =
    (Part g.C.EventCore.face g.N.Net.did g.N.Net.gave (GaveOften (AskedOnce g.C.EventCore.face l.initial.self.conns (ready.Listener l.slot)) l.often)
    l.initial.self l.self l.initial.net l.net)
    × (g.N.Net.faults l.initial.net ≤ g.N.Net.faults l.net)
