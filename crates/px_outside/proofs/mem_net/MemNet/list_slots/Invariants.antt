use Rattle.std.proofs.Common.{◌≡◌, ◌++◌, map, drop}
use Rattle.px_outside.specs.declared.answers.ReadyAt.TheVariants as ready
use Rattle.px_outside.proofs.mem_net.MemNet.list_slots.Given as goal

abbrev pub invariant-loop-slot : goal.invariant-loop-slot
invariant-loop-slot l =
    l.out ++ map ready.Listener (drop l.slot-index l.slot-items) ≡ l.fn.out ++ map ready.Listener l.fn.self.slots
