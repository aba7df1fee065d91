use Rattle.std.proofs.Common.{rules, tests, ◌∙◌}
use Rattle.std.proofs.lemmas.Iterator.{YieldsList-from_slice}
use Rattle.std.proofs.lemmas.Iterator.Search.{position_from_yields_List}
use Rattle.std.proofs.lemmas.List.Sums.{prefix_len-le-length}
use Rattle.px_bytes.proofs.Positions.{position_or_length}
use Rattle.journal_value.specs.Words.{is_space}
use Rattle.journal_value.proofs.cut.word_len.Goals as goal

pub returns : goal.returns
returns c =
    let found = position_from_yields_List is_space _ _ c.position.result c.position.ensures.ran (YieldsList-from_slice c.args.text.now cc) (λ x b q k. search (rules, tests)) in
    c.unwrap_or.ensures ∙ position_or_length _ _ _ (prefix_len-le-length _ c.args.text.now) found
