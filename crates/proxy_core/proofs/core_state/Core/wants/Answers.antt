use Rattle.proxy_core.proofs.Asked.{wants_told}
use Rattle.proxy_core.proofs.core_state.Core.wants.Goals as goal

pub returns : goal.returns
returns c C past s r = wants_told C past s c.args.self.now c.args.conn c.args.side c.wants_at.result c.wants_at.ensures r
