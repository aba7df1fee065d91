use Rattle.std.proofs.Common.{ap}
use Rattle.proxy.specs.Taken.{begins_server}
use Rattle.proxy.proofs.TakenBytes.{changed_there, none_there, on_ok}
use Rattle.proxy.proofs.taken.add_server.Goals as goal

pub returns-in-Some : goal.returns-in-Some
returns-in-Some c =
    let t = c.index_mut.result.now in
    on_ok c.begin.result _ _ (λ began rising.
    changed_there c.args.conn begins_server c.in-Some.at c.args.all.now.items c.deref.result.now t (record t { servers = c.begin.new.self }) c.deref.ensures.value (c.in-Some.ensures.place (rw c.deref.ensures.value rising)) c.in-Some.ensures.within c.index_mut.ensures.value (ap (λ l. record t { servers = l }) began)) c.begin.ensures

pub returns-in-None : goal.returns-in-None
returns-in-None c rising =
    none_there c.args.conn begins_server c.args.all.now.items c.deref.result.now c.find.result c.deref.ensures.value (c.find.ensures.place (rw c.deref.ensures.value rising)) c.in-None.is
