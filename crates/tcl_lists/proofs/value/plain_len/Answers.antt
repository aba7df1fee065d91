use Rattle.std.proofs.Common.{◌==◌, ℕ, ◌∙◌, rules, tests}
use Rattle.std.proofs.lemmas.Iterator.{YieldsList-from_slice}
use Rattle.std.proofs.lemmas.Iterator.Search.{position_from_yields_List}
use Rattle.std.proofs.lemmas.List.Sums.{prefix_len-le-length}
use Rattle.px_bytes.proofs.Positions.{position_or_length}
use Rattle.tcl_lists.proofs.value.plain_len.Goals as goal

pub returns : goal.returns
returns c =
    let found = position_from_yields_List (λ (b : ℕ). b == 92) _ _ c.position.result c.position.ensures.ran (YieldsList-from_slice c.args.bytes.now cc) (λ x b q k. search (rules, tests)) in
    c.unwrap_or.ensures ∙ position_or_length _ _ _ (prefix_len-le-length _ c.args.bytes.now) found
