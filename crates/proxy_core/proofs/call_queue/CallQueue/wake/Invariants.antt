use Rattle.std.proofs.Common.{◌≡◌, ◌-◌, length}
use Rattle.proxy_core.specs.Calls.{all_passed}
use Rattle.proxy_core.proofs.call_queue.CallQueue.wake.Given as goal

abbrev pub invariant-loop-passed : goal.invariant-loop-passed
invariant-loop-passed l =
    let n = length l.initial.self.asleep in
    all_passed l.moment n l.initial.self ≡ all_passed l.moment (n - l._passed) l.self
