use Rattle.std.proofs.Common.{◌∙◌}
use Rattle.proxy.proofs.explain.loads_line.Goals as goal

pub returns : goal.returns
returns c = rw (c.as_bytes.ensures ∙ c.in_ok-addresses.ensures) at c.joined.ensures
