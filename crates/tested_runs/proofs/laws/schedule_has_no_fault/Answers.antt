use Rattle.tested_runs.proofs.Schedules as schedules
use Rattle.tested_runs.proofs.laws.schedule_has_no_fault.Goals as goal

pub returns : goal.returns
returns c = schedules.schedule_has_no_fault
