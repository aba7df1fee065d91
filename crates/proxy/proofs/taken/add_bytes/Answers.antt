use Rattle.proxy.specs.Taken.{took_on}
use Rattle.proxy.proofs.TakenBytes.{changed_there, none_there, on_ok}
use Rattle.proxy.proofs.taken.add_bytes.Goals as goal

pub returns-in-Some : goal.returns-in-Some
returns-in-Some c =
    let f = took_on c.args.side c.args.bytes.now in
    on_ok c.add.result _ _ (λ added rising.
    changed_there c.args.conn f c.in-Some.at c.args.all.now.items c.deref.result.now c.index_mut.result.now _ c.deref.ensures.value (c.in-Some.ensures.place (rw c.deref.ensures.value rising)) c.in-Some.ensures.within c.index_mut.ensures.value (rw (c.as_bytes.ensures) at added)) c.add.ensures

pub returns-in-None : goal.returns-in-None
returns-in-None c rising =
    none_there c.args.conn (took_on c.args.side c.args.bytes.now) c.args.all.now.items c.deref.result.now c.find.result c.deref.ensures.value (c.find.ensures.place (rw c.deref.ensures.value rising)) c.in-None.is
