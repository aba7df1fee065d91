use Rattle.proxy_core.proofs.Asked.{pending_told}
use Rattle.proxy_core.proofs.core_state.Core.pending.Goals as goal

pub returns-clause-told : goal.returns-clause-told
returns-clause-told c C past s r = pending_told C past s c.args.self.now c.args.conn c.args.side c.pending_at.result c.pending_at.ensures r
