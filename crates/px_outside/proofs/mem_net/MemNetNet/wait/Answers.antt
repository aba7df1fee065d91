use Rattle.std.proofs.Common.{rules}
use Rattle.px_outside.proofs.Alive.{lists_alive}
use Rattle.px_outside.proofs.mem_net.MemNetNet.wait.Goals as goal

pub returns-in-Ok-list_links-clause-lists_alive : goal.returns-in-Ok-list_links-clause-lists_alive
returns-in-Ok-list_links-clause-lists_alive c = lists_alive _ c.args.self.now.slots _ (search rules)
