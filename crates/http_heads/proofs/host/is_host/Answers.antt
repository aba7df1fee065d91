use Rattle.std.proofs.Common.{rules, tests}
use Rattle.std.proofs.lemmas.Iterator.{YieldsList-from_slice}
use Rattle.std.proofs.lemmas.Iterator.Search.{all_from_yields_List}
use Rattle.http_heads.specs.Hosts.{is_host_byte}
use Rattle.http_heads.proofs.host.is_host.Goals as goal

pub returns : goal.returns
returns c =
    all_from_yields_List is_host_byte _ _ c.all.result c.all.ensures.ran (YieldsList-from_slice c.args.value.now cc) (λ x b q k. search (rules, tests))
