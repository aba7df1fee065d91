use Rattle.std.proofs.Common.{subst}
use Rattle.std.specs.Prelude.{IsFalse, IsTrue}
use Rattle.core_events.specs.declared.event.Event.{Event}
use Rattle.test_run.specs.Stand.{Gives, Refuses, RefusesTake, Takes, stand}
use Rattle.test_run.proofs.Making.{if_ok_then}
use Rattle.test_run.proofs.run.TestRun.take.Goals as goal

pub returns-clause-taken : goal.returns-clause-taken
returns-clause-taken g c =
    if_ok_then c.give.result
    (λ taken. IsTrue taken → Gives g.C.EventCore.face c.took_event.result (stand c.keep_taken.new.self) (stand c.give.new.self))
    (λ taken. IsTrue taken → Takes g.C.EventCore.face c.args.side c.args.conn c.args.n (stand c.args.self.now) (stand c.give.new.self))
    (λ taken gives done. record {
      between = stand c.keep_taken.new.self;
      keeps = c.in_ok-keep_taken.ensures;
      gives = subst (λ (e : Event). Gives g.C.EventCore.face e (stand c.keep_taken.new.self) (stand c.give.new.self)) c.took_event.ensures
          (gives done);
    })
    c.give.ensures.given

pub returns-clause-refused : goal.returns-clause-refused
returns-clause-refused g c =
    if_ok_then c.give.result
    (λ taken. IsFalse taken → Refuses g.C.EventCore.face c.took_event.result (stand c.keep_taken.new.self) (stand c.give.new.self))
    (λ taken. IsFalse taken → RefusesTake g.C.EventCore.face c.args.side c.args.conn c.args.n (stand c.args.self.now) (stand c.give.new.self))
    (λ taken refuses not. record {
      between = stand c.keep_taken.new.self;
      keeps = c.in_ok-keep_taken.ensures;
      refuses = subst (λ (e : Event). Refuses g.C.EventCore.face e (stand c.keep_taken.new.self) (stand c.give.new.self)) c.took_event.ensures
          (refuses not);
    })
    c.give.ensures.refused
