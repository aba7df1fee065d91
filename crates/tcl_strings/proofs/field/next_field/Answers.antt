use Rattle.std.proofs.Common.{◌∙◌}
use Rattle.tcl_strings.proofs.Formats.{percent_next}
use Rattle.tcl_strings.proofs.field.next_field.Goals as goal

pub returns-clause-next : goal.returns-clause-next
returns-clause-next c =
    percent_next c.args.rest.values.now c.split_at.result.1.now c.item_of.result c.min.result c.item_len.result c.args.rest.format.now
    c.in-len1-up.len_at_least c.if-first-ne37.false c.item_of.ensures c.item_len.ensures c.min.ensures c.split_at.ensures.back
    ∙ c.with_value.ensures.with
