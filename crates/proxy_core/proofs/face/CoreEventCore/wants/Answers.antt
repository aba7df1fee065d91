use Rattle.std.proofs.Common.{sym, ◌∙◌, ap}
use Rattle.core_events.specs.declared.edges.Edge.{Edge}
use Rattle.core_events.specs.Edges.{may_send}
use Rattle.proxy_core.proofs.Taking.{may_come_of}
use Rattle.proxy_core.proofs.face.CoreEventCore.wants.Goals as goal

pub returns-in-Some-wants-clause-takes : goal.returns-in-Some-wants-clause-takes
returns-in-Some-wants-clause-takes c = λ some.
    may_come_of c.args.self.now c.args.conn c.args.side c.in-Some.edges c.in-Some-wants.n c.in-Some.ensures
    (ap (λ (x : Edge). may_send x) (sym c.of.ensures) ∙ sym c.if-not-may_send.ensures) c.in-Some-wants.ensures
