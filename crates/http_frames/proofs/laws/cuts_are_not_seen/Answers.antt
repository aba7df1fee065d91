use Rattle.http_frames.proofs.WholeRuns.{cuts_are_not_seen}
use Rattle.http_frames.proofs.laws.cuts_are_not_seen.Goals as goal

pub returns : goal.returns
returns c = cuts_are_not_seen
