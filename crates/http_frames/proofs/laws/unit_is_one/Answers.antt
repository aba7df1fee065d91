use Rattle.http_frames.proofs.NextUnits.{unit_is_one}
use Rattle.http_frames.proofs.laws.unit_is_one.Goals as goal

pub returns : goal.returns
returns c = unit_is_one
