use Rattle.std.proofs.Common.{rules, Ok, Err}
use Rattle.px_bytes.specs.declared.fault.HttpFault.TheVariants.{BadHead}
use Rattle.http_heads.specs.declared.fault.HeadFault.TheVariants.{Fault}
use Rattle.http_heads.proofs.HeadsRead.{response_told}
use Rattle.http_heads.proofs.response.read_response.Goals as goal

pub returns-then-found-head-clause-value : goal.returns-then-found-head-clause-value
returns-then-found-head-clause-value c = response_told c.args.head.now (Ok c.in_ok-response_at.field-0) c.in_ok-response_at.ensures

pub returns-clause-gives : goal.returns-clause-gives
returns-clause-gives c = search rules

pub returns-clause-value : goal.returns-clause-value
returns-clause-value c = response_told c.args.head.now (Err (Fault BadHead)) (returns-clause-gives c)
