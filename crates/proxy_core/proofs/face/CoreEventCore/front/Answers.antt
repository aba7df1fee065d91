use Rattle.std.proofs.Common.{sym, ◌∙◌, ap, length}
use Rattle.core_events.specs.declared.edges.Edge.{Edge}
use Rattle.core_events.specs.Edges.{may_take}
use Rattle.proxy_core.proofs.Taking.{may_take_of, queue_length}
use Rattle.proxy_core.proofs.face.CoreEventCore.front.Goals as goal

pub returns-in-Some-front-clause-takes : goal.returns-in-Some-front-clause-takes
returns-in-Some-front-clause-takes c = λ some.
    may_take_of c.args.self.now c.args.conn c.args.side c.in-Some.edges (length c.in-Some-front.bytes.now) c.in-Some.ensures
    (ap (λ (x : Edge). may_take x) (sym c.of.ensures) ∙ sym c.if-not-may_take.ensures)
    (queue_length c.args.self.now c.args.conn c.args.side c.in-Some-front.bytes.now c.in-Some-front.ensures.exact)
