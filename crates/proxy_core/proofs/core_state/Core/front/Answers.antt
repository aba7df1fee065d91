use Rattle.proxy_core.proofs.Asked.{queue_told}
use Rattle.proxy_core.proofs.core_state.Core.front.Goals as goal

pub returns-clause-told : goal.returns-clause-told
returns-clause-told c C past s r = queue_told C past s c.args.self.now c.args.conn c.args.side _ c.front_at.ensures r
