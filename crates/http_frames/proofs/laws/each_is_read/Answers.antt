use Rattle.http_frames.proofs.EachUnit.{each_is_read}
use Rattle.http_frames.proofs.laws.each_is_read.Goals as goal

pub returns : goal.returns
returns c = each_is_read
