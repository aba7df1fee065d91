use Rattle.shared_store.proofs.Living.{expired_is_live}
use Rattle.shared_store.proofs.laws.expired_is_live.Goals as goal

pub returns : goal.returns
returns c = expired_is_live
