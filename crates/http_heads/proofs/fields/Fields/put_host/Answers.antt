use Rattle.std.proofs.Common.{◌∙◌, ap}
use Rattle.http_heads.specs.Hosts.{is_host}
use Rattle.http_heads.proofs.HostFields.{host_is_value}
use Rattle.http_heads.proofs.fields.Fields.put_host.Goals as goal

pub set_value-requires-clause-is_value : goal.set_value-requires-clause-is_value
set_value-requires-clause-is_value c = host_is_value c.in_ok-value.value (ap is_host c.in_ok-value.ensures ∙ c.requires)
