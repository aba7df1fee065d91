use Rattle.std.proofs.Common.{◌≡◌, ◌++◌, drop}
use Rattle.tested_runs.specs.Schedules.{schedule_text}
use Rattle.tested_runs.proofs.runs.schedule_of.Given as goal

abbrev pub invariant-loop-entry : goal.invariant-loop-entry
invariant-loop-entry l = l.text ++ schedule_text (drop l.entry-index l.fn.entries) ≡ schedule_text l.fn.entries
