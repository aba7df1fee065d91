use Rattle.proxy_core.proofs.Due.{next_due_same}
use Rattle.proxy_core.proofs.core_state.Core.next_due.Goals as goal

pub returns : goal.returns
returns c C past s r = next_due_same C past s c.args.self.now c.next_due.result c.next_due.ensures r
