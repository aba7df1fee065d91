use Rattle.http_frames.proofs.SomeUnits.{cuts_are_read}
use Rattle.http_frames.proofs.laws.cuts_are_read.Goals as goal

pub returns : goal.returns
returns c = cuts_are_read
