use Rattle.std.proofs.Common.{rules, tests}
use Rattle.std.proofs.lemmas.Iterator.{YieldsList-from_slice}
use Rattle.std.proofs.lemmas.Iterator.Search.{any_from_yields_List}
use Rattle.http_heads.specs.Passed.{has_option}
use Rattle.http_heads.proofs.passed.is_option.Goals as goal

pub returns : goal.returns
returns c =
    any_from_yields_List (has_option c.args.name.now) _ _ c.any.result c.any.ensures.ran (YieldsList-from_slice c.args.connection.now cc) (λ x b q k. search (rules, tests))
