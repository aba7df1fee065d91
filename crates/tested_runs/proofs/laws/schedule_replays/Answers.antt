use Rattle.tested_runs.proofs.Schedules as schedules
use Rattle.tested_runs.proofs.laws.schedule_replays.Goals as goal

pub returns : goal.returns
returns c = schedules.schedule_replays
