use Rattle.proxy_core.proofs.BytesBounded.{bytes_bounded}
use Rattle.proxy_core.proofs.laws.bytes_are_bounded.Goals as goal

pub returns : goal.returns
returns c = bytes_bounded
