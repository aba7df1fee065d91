use Rattle.proxy_core.proofs.Taking.{may_accept_of}
use Rattle.proxy_core.proofs.face.CoreEventCore.next.Goals as goal

pub returns-clause-takes : goal.returns-clause-takes
returns-clause-takes c =
    may_accept_of c.args.self.now c.last-last.result c.live.result c.limit.result c.last-last.ensures c.live.ensures.told c.limit.ensures
    c.if-live-limit.false
