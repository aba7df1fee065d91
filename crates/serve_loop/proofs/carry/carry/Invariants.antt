use Rattle.std.proofs.Common.{◌≤◌}
use Rattle.serve_loop.specs.Carrying.{Carried}
use Rattle.serve_loop.proofs.Carried.{CarriesFirst}
use Rattle.serve_loop.proofs.carry.carry.Given as goal

abbrev pub invariant-loop-note : goal.invariant-loop-note
invariant-loop-note g l =
    (Carried g.N.Net.did g.N.Net.gave (CarriesFirst l.notes l.note-index) l.initial.links l.links l.initial.net l.net)
    × (g.N.Net.faults l.initial.net ≤ g.N.Net.faults l.net)
