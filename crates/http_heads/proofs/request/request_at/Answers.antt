use Rattle.std.proofs.Common.{◌∙◌}
use Rattle.http_heads.proofs.FoundHeads.{found_fields, found_method}
use Rattle.http_heads.proofs.request.request_at.Goals as goal

pub fields_at-requires-clause-are_fields : goal.fields_at-requires-clause-are_fields
fields_at-requires-clause-are_fields c =
    let h = c.requires.is_head in
    found_fields c.args.head.now c.args.headers.now c.args.found.now.headers h.0.fields h.1.fields h.1.reads.0.fields

pub new-requires-3 : goal.new-requires-3
new-requires-3 c =
    let h = c.requires.is_head in
    found_method c.args.head.now c.args.headers.now c.args.found.now h.0 h.1 c.in_ok-method.method (c.in_ok-method.ensures ∙ c.of.ensures)
