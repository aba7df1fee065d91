use Rattle.std.proofs.Common.{refl, ap, ◌∙◌}
use Rattle.irule_net.specs.State.{new_state}
use Rattle.conn.specs.declared.connection.Conn.{Conn}
use Rattle.conn.specs.Hosts.{fresh_host}
use Rattle.conn.specs.Setups.{places_at}
use Rattle.conn.specs.Stages.{is_asking}
use Rattle.conn.specs.declared.ends.Link.TheVariants as link
use Rattle.conn.specs.declared.events.At.TheVariants.{Accepted}
use Rattle.conn.proofs.Beginning.{begins}
use Rattle.conn.proofs.Fitting.{entered_awake}
use Rattle.conn.proofs.connection.Conn.new.Goals as goal

pub returns-clause-begins : goal.returns-clause-begins
returns-clause-begins c =
    let s = c.args.setup.now in
    let new : Conn = record { stage = c.enter.result; body = c.new-2.result; vars = c.new-3.result; host = c.new-host.result; ends = c.new-4.result } in
    let net = c.new-net.ensures ∙ ap (λ pool. new_state c.args.from s.port pool s.http) c.in_ok-pool.ensures in
    begins s c.args.from c.new-host.result new (c.new-host.ensures ∙ ap (λ n. fresh_host n s.http) net) c.enter.ensures c.new-3.ensures refl c.new-4.ensures

pub returns-clause-awake : goal.returns-clause-awake
returns-clause-awake c = ap is_asking c.enter.ensures ∙ entered_awake Accepted link.Absent c.new-host.result (places_at c.args.setup.now Accepted)
