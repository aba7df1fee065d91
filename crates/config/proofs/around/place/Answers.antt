use Rattle.std.proofs.Common.{◌==◌, rules, tests, ◌∙◌}
use Rattle.std.proofs.lemmas.Iterator.{YieldsList-from_slice}
use Rattle.std.proofs.lemmas.Iterator.Search.{position_from_yields_List}
use Rattle.std.proofs.lemmas.List.Sums.{prefix_len-le-length}
use Rattle.px_bytes.proofs.Positions.{position_or_length}
use Rattle.config.proofs.around.place.Goals as goal

pub returns-clause-first : goal.returns-clause-first
returns-clause-first c =
    let found = position_from_yields_List (λ b. b == c.args.mark) _ _ c.position.result c.position.ensures.ran (YieldsList-from_slice c.args.text.now cc) (λ x b q k. search (rules, tests)) in
    c.unwrap_or.ensures ∙ position_or_length _ _ _ (prefix_len-le-length _ c.args.text.now) found

pub returns-clause-inside : goal.returns-clause-inside
returns-clause-inside c =
    let found = position_from_yields_List (λ b. b == c.args.mark) _ _ c.position.result c.position.ensures.ran (YieldsList-from_slice c.args.text.now cc) (λ x b q k. search (rules, tests)) in
    rw (c.unwrap_or.ensures ∙ position_or_length _ _ _ (prefix_len-le-length _ c.args.text.now) found) (prefix_len-le-length _ c.args.text.now)
