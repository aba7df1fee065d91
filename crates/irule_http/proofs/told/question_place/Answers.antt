use Rattle.std.proofs.Common.{rules, tests, ◌∙◌}
use Rattle.std.proofs.lemmas.Iterator.{YieldsList-from_slice}
use Rattle.std.proofs.lemmas.Iterator.Search.{position_from_yields_List}
use Rattle.std.proofs.lemmas.List.Sums.{prefix_len-le-length}
use Rattle.px_bytes.proofs.Positions.{position_or_length}
use Rattle.irule_http.specs.Told.{is_question}
use Rattle.irule_http.proofs.told.question_place.Goals as goal

pub returns-clause-first : goal.returns-clause-first
returns-clause-first c =
    let found = position_from_yields_List is_question _ _ c.position.result c.position.ensures.ran (YieldsList-from_slice c.args.target.now cc) (λ x b q k. search (rules, tests)) in
    c.unwrap_or.ensures ∙ position_or_length _ _ _ (prefix_len-le-length _ c.args.target.now) found

pub returns-clause-inside : goal.returns-clause-inside
returns-clause-inside c =
    let found = position_from_yields_List is_question _ _ c.position.result c.position.ensures.ran (YieldsList-from_slice c.args.target.now cc) (λ x b q k. search (rules, tests)) in
    rw (c.unwrap_or.ensures ∙ position_or_length _ _ _ (prefix_len-le-length _ c.args.target.now) found) (prefix_len-le-length _ c.args.target.now)
