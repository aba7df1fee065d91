use Rattle.std.proofs.Common.{◌∙◌}
use Rattle.http_heads.proofs.FoundHeads.{found_fields, found_reason}
use Rattle.http_heads.proofs.response.response_at.Goals as goal

pub fields_at-requires-clause-are_fields : goal.fields_at-requires-clause-are_fields
fields_at-requires-clause-are_fields c =
    let h = c.requires.is_head in
    found_fields c.args.head.now c.args.headers.now c.args.found.now.headers h.0.fields h.1.fields h.1.reads.0.fields

pub new-requires-3 : goal.new-requires-3
new-requires-3 c =
    let h = c.requires.is_head in
    found_reason c.args.head.now c.args.headers.now c.args.found.now h.0 h.1 c.in_ok-reason.reason (c.in_ok-reason.ensures ∙ c.of.ensures)
