use Rattle.std.proofs.Common.{rules, tests, ◌∙◌}
use Rattle.std.proofs.lemmas.Iterator.{YieldsList-from_slice}
use Rattle.std.proofs.lemmas.Iterator.Search.{position_from_yields_List}
use Rattle.std.proofs.lemmas.List.Sums.{prefix_len-le-length}
use Rattle.px_bytes.proofs.Positions.{position_or_length}
use Rattle.http_heads.specs.Targets.{ends_scheme}
use Rattle.http_heads.proofs.target.scheme_length.Goals as goal

pub returns-clause-value : goal.returns-clause-value
returns-clause-value c =
    let found = position_from_yields_List ends_scheme _ _ c.position.result c.position.ensures.ran (YieldsList-from_slice c.args.target.now cc) (λ x b q k. search (rules, tests)) in
    c.unwrap_or.ensures ∙ position_or_length _ _ _ (prefix_len-le-length _ c.args.target.now) found
