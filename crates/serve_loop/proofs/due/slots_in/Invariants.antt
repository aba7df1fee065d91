use Rattle.std.proofs.Common.{◌≡◌, ◌++◌, drop}
use Rattle.serve_loop.specs.Turn.{listed_slots}
use Rattle.serve_loop.proofs.due.slots_in.Given as goal

abbrev pub invariant-loop-at : goal.invariant-loop-at
invariant-loop-at l = l.slots ++ listed_slots (drop l.at-index l.listed) ≡ listed_slots l.listed
