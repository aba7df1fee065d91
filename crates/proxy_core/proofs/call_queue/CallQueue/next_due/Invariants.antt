use Rattle.std.proofs.Common.{◌≡◌, drop}
use Rattle.proxy_core.specs.Asked.{due_until, least, lesser}
use Rattle.proxy_core.specs.declared.call.Asleep.{Asleep}
use Rattle.proxy_core.proofs.call_queue.CallQueue.next_due.Given as goal

abbrev pub invariant-loop-at : goal.invariant-loop-at
invariant-loop-at l =
    let due = λ (a : Asleep). due_until a.due in
    least due l.self.asleep ≡ lesser l.due (least due (drop l.at l.self.asleep))
