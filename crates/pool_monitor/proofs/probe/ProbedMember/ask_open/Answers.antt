use Rattle.std.proofs.Common.{◌∷◌, refl}
use Rattle.pool_monitor.specs.Pump.{close_after}
use Rattle.pool_monitor.proofs.probe.ProbedMember.ask_open.Goals as goal

pub returns-clause-asked : goal.returns-clause-asked
returns-clause-asked g c =
    let asked = c.in_ok-verdict.ensures.asked in
    let settled = c.settle.ensures.settled in
    record {
      calls = asked.call ∷ close_after c.in_ok-verdict.verdict c.ask.new.self.link;
      chain = (c.ask.new.net, asked.made, settled.chain);
      step = record {
        call = asked.call;
        after = c.ask.new.self;
        verdict = c.in_ok-verdict.verdict;
        asked = asked.holds;
        calls_are = refl;
        member_is = settled.is;
      };
    }
