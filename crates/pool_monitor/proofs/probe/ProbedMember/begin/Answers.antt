use Rattle.std.proofs.Common.{[], ◌∷◌, refl}
use Rattle.std.specs.Prelude.{Ok}
use Rattle.px_outside.specs.Net.{Connect}
use Rattle.pool_monitor.proofs.probe.ProbedMember.begin.Goals as goal

pub returns-clause-sent : goal.returns-clause-sent
returns-clause-sent g c = record {
  calls = Connect c.args.self.now.member (Ok c.in_ok-link.link) ∷ [];
  chain = (c.connect.new.self, c.in_ok-link.ensures.did, refl);
  step = record {
    link = c.in_ok-link.link;
    calls_are = refl;
    member_is = rw (c.good_from-self.ensures, c.empty.ensures) refl;
  };
}
