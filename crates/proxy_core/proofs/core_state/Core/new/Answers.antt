use Rattle.proxy_core.proofs.Stepping.{start_represents}
use Rattle.proxy_core.proofs.core_state.Core.new.Goals as goal

pub returns-in-Ok-clause-stands : goal.returns-in-Ok-clause-stands
returns-in-Ok-clause-stands c = start_represents c.args.config c.joined.result.0 c.joined.ensures.start
