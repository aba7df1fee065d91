use Rattle.http_frames.proofs.PartsStay.{parts_are_there}
use Rattle.http_frames.proofs.laws.parts_are_there.Goals as goal

pub returns : goal.returns
returns c = parts_are_there
