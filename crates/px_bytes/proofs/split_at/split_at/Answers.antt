use Rattle.std.proofs.Common.{◌==◌, rules, tests, arith}
use Rattle.std.proofs.lemmas.Iterator.{YieldsList-from_slice}
use Rattle.std.proofs.lemmas.Iterator.Search.{position_from_yields_List}
use Rattle.std.proofs.lemmas.List.Sums.{prefix_len-le-length}
use Rattle.px_bytes.proofs.Nets.{splits_at}
use Rattle.px_bytes.proofs.Positions.{no_position, at_position}
use Rattle.px_bytes.proofs.split_at.split_at.Goals as goal

pub returns-in_err-at : goal.returns-in_err-at
returns-in_err-at c =
    let found = position_from_yields_List (λ b. b == c.args.mark) _ _ c.position.result c.position.ensures.ran (YieldsList-from_slice c.args.text.now cc) (λ x b q k. search (rules, tests)) in
    let end = no_position _ _ _ (prefix_len-le-length _ c.args.text.now) found c.in_err-at.was in
    record { first = rw c.from_residual.ensures end }

pub returns : goal.returns
returns c =
    let found = position_from_yields_List (λ b. b == c.args.mark) _ _ c.position.result c.position.ensures.ran (YieldsList-from_slice c.args.text.now cc) (λ x b q k. search (rules, tests)) in
    let place = at_position _ c.in_ok-at.at _ _ found c.in_ok-at.was in
    record { first = splits_at c.args.mark c.args.text.now c.in_ok-at.at place.0 (omega arith) }
