use Rattle.http_frames.proofs.PartsStay.{parts_stay}
use Rattle.http_frames.proofs.laws.parts_stay.Goals as goal

pub returns : goal.returns
returns c = parts_stay
