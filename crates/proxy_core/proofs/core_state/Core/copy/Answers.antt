use Rattle.std.proofs.lemmas.Result.{IfOk-weaker}
use Rattle.proxy_core.proofs.Asked.{copy_told}
use Rattle.proxy_core.proofs.core_state.Core.copy.Goals as goal

pub returns-clause-told : goal.returns-clause-told
returns-clause-told c = IfOk-weaker c.copy_at.result _ _ (λ text e C past s r. copy_told C past s c.args.self.now c.args.conn c.args.side c.args.n text e r) c.copy_at.ensures
