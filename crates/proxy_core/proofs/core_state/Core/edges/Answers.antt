use Rattle.proxy_core.proofs.Asked.{edges_same}
use Rattle.proxy_core.proofs.core_state.Core.edges.Goals as goal

pub returns : goal.returns
returns c C past s r = edges_same C past s c.args.self.now c.args.conn c.edges_at.result c.edges_at.ensures r
