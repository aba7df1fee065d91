use Rattle.shared_store.proofs.Living.{live_is_kept}
use Rattle.shared_store.proofs.laws.live_is_kept.Goals as goal

pub returns : goal.returns
returns c = live_is_kept
