use Rattle.tmsh_laws.proofs.RoundTrip.{printed_back}
use Rattle.tmsh_laws.proofs.laws.printed_is_read_back.Goals as goal

pub returns : goal.returns
returns c = printed_back
