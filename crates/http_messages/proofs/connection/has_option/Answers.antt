use Rattle.std.proofs.Common.{rules, tests}
use Rattle.std.proofs.lemmas.Iterator.Search.{any_from_yields_List}
use Rattle.std.proofs.lemmas.Iterator.Splits.{YieldsList-from_slice_split}
use Rattle.px_bytes.specs.White.{trimmed}
use Rattle.http_heads.specs.Passed.{is_comma, is_same}
use Rattle.http_messages.proofs.connection.has_option.Goals as goal

pub returns : goal.returns
returns c =
    any_from_yields_List (λ option. is_same (trimmed option) c.args.name.now) _ _ c.any.result c.any.ensures.ran
    (YieldsList-from_slice_split _ is_comma c.args.value.now c.split.ensures.rest c.split.ensures.done c.split.ensures.closure (λ x b q k. search (rules, tests)))
    (λ x b q k. search (rules, tests))
