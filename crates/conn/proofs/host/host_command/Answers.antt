use Rattle.std.proofs.Common.{◌≡◌, ◌++◌, List, None}
use Rattle.px_bytes.specs.Host.{Effect}
use Rattle.conn.specs.Hosts.{seen_net}
use Rattle.conn.proofs.Calling.{plain_called}
use Rattle.conn.proofs.host.host_command.Goals as goal

pub returns : goal.returns
returns c =
    let made : List Effect → Type 0 = λ es. c.rule_command.new.made ≡ c.args.made.now ++ es in
    plain_called c.args.groups.now c.args.event c.args.net.now c.args.words.now c.rule_command.result (seen_net c.args.event c.rule_command.new.net) made (c.rule_command.ensures None)
