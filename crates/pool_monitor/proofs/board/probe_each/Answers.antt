use Rattle.std.proofs.Common.{◌++◌, refl}
use Rattle.pool_monitor.proofs.Passes.{chain_append}
use Rattle.pool_monitor.proofs.board.probe_each.Goals as goal

pub returns-clause-probed : goal.returns-clause-probed
returns-clause-probed g c =
    let did = g.P.Net.did in
    let closed = c.close_overdue.ensures.closed in
    let asked = c.in_ok-ask_each.ensures.asked in
    let sent = c.in_ok-send_each.ensures.sent in
    let later = chain_append did asked.calls sent.calls c.close_overdue.new.net c.ask_each.new.net c.send_each.new.net asked.chain sent.chain in
    record {
      listed = c.wait.new.out;
      closes = closed.calls;
      asks = asked.calls;
      connects = sent.calls;
      chain = (
        c.wait.new.self,
        c.in_ok-wait.ensures.did,
        chain_append did closed.calls (asked.calls ++ sent.calls) c.wait.new.self c.close_overdue.new.net c.send_each.new.net closed.chain later,
      );
      left = c.close_overdue.new.members;
      heard = c.ask_each.new.members;
      closed = closed.each;
      asked = asked.each;
      sent = sent.each;
      same = refl;
    }
