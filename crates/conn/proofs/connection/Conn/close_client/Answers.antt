use Rattle.std.proofs.Common.{refl, ap, ◌∙◌}
use Rattle.conn.specs.Hosts.{begun_host}
use Rattle.conn.specs.declared.events.At.TheVariants.{Closed}
use Rattle.conn.proofs.connection.Conn.close_client.Goals as goal

pub returns : goal.returns
returns c =
    let old = c.args.self.now in
    record {
      mid = record old { host = c.begin.new.self };
      begins = record { vars = refl; host = c.begin.ensures ∙ ap (λ up. begun_host Closed up old.host) c.is_up.ensures; ends = refl };
      goes = c.run_last.ensures;
    }
