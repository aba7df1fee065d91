use Rattle.shared_store.proofs.Living.{live_store_stays}
use Rattle.shared_store.proofs.laws.live_store_stays.Goals as goal

pub returns : goal.returns
returns c = live_store_stays
