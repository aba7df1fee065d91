use Rattle.tested_runs.proofs.Schedules as schedules
use Rattle.tested_runs.proofs.laws.schedule_is_read.Goals as goal

pub returns : goal.returns
returns c = schedules.schedule_is_read
