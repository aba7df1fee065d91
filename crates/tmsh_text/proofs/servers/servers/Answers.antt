use Rattle.std.proofs.Common.{◌++◌, ap, ◌∙◌}
use Rattle.tmsh_text.specs.Printed.{server_text}
use Rattle.tmsh_text.proofs.Lists.{one_more}
use Rattle.tmsh_text.proofs.servers.servers.Goals as goal

pub loop-one-preserved : goal.loop-one-preserved
loop-one-preserved c =
    one_more server_text c.args.servers.now c.loop-one.one-index c.one-item.result c.loop-one-test.true c.one-item.is
    c.loop-one.text c.push.new.self (c.in_ok-push.ensures.ok ∙ ap (λ t. c.loop-one.text ++ t) (c.as_bytes.ensures ∙ c.in_ok-stanza.ensures)) c.loop-one.invariant
