use Rattle.std.proofs.Common.{◌≡◌, ◌-◌, ◌≤◌, length, take}
use Rattle.px_outside.specs.Outside.{told_more}
use Rattle.px_outside.proofs.sink.write_all.Given as goal

abbrev pub invariant-loop-done : goal.invariant-loop-done
invariant-loop-done g l = (l.done ≤ length l.bytes)
    × (g.K.Sink.written l.sink ≡ told_more (g.K.Sink.written l.fn.sink) (take l.done l.bytes))
    × (g.K.Sink.faults l.fn.sink ≤ g.K.Sink.faults l.sink)

abbrev pub decreases-loop-done : goal.decreases-loop-done
decreases-loop-done g l = length l.bytes - l.done
