use Rattle.std.proofs.Common.{◌≡◌, drop}
use Rattle.test_run.specs.Known.{meeting_from}
use Rattle.test_text.specs.declared.deed.Meeting.TheVariants.{Connects}
use Rattle.test_run.proofs.known.meeting_of.Given as goal

abbrev pub invariant-loop-one : goal.invariant-loop-one
invariant-loop-one l =
    meeting_from l.fn.addr l.meeting (drop l.one-index l.fn.meets) ≡ meeting_from l.fn.addr Connects l.fn.meets
