use Rattle.std.proofs.Common.{rules, subst}
use Rattle.std.specs.Prelude.{IsTrue, List, ℕ}
use Rattle.core_events.specs.declared.event.Event.TheVariants.{Accept}
use Rattle.test_run.specs.Stand.{Gives, stand}
use Rattle.test_run.proofs.run.TestRun.comes.Goals as goal

pub returns-clause-comes : goal.returns-clause-comes
returns-clause-comes g c =
    let taken : IsTrue c.in_ok-give.field-0 = search rules in
    λ done. record {
      number = c.in-Some.conn;
      next = c.in-Some.ensures.next;
      between = stand c.give.new.self;
      gives = subst (λ (to : List ℕ). Gives g.C.EventCore.face (Accept c.in-Some.conn to c.args.from) (stand c.args.self.now) (stand c.give.new.self))
          c.in_ok-vs.ensures (c.in_ok-give.ensures.given taken);
      came = rw c.in_ok-push.ensures.ok;
    }
