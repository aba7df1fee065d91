use Rattle.http_frames.proofs.Fronts.{not_yet_may_become}
use Rattle.http_frames.proofs.laws.not_yet_may_become.Goals as goal

pub returns : goal.returns
returns c = not_yet_may_become
