use Rattle.std.proofs.Common.{sym}
use Rattle.proxy_core.proofs.Ordering.{none_at}
use Rattle.proxy_core.proofs.setup.places_at.Goals as goal

pub returns-in-None : goal.returns-in-None
returns-in-None c = sym (none_at c.args.places.now c.args.place (sym c.in-None.ensures))
