use Rattle.std.proofs.Common.{◌≡◌, ◌++◌, codes, false, Ok, ap, ap₂, sym, subst, ◌∙◌}
use Rattle.http_heads.specs.Fields.{AreFields}
use Rattle.http_heads.specs.Forwarded.{fields_out, forwarded_request}
use Rattle.http_heads.specs.Heads.{GivesRequest, bare_request}
use Rattle.http_heads.specs.Written.{lines_of, request_line}
use Rattle.http_heads.specs.declared.forwarded.Omitted.TheVariants as omitted
use Rattle.http_heads.proofs.Forwarding.{forwarded_text, request_fields}
use Rattle.http_heads.proofs.ReadBack.{request_comes_back}
use Rattle.http_heads.proofs.forwarded.forward_request.Goals as goal

pub returns-clause-text : goal.returns-clause-text
returns-clause-text c =
    let head = c.args.head.now in
    let size = c.args.size in
    c.from_vec.ensures ∙ c.in_ok-extend_from_slice.ensures.items
    ∙ ap (λ t. t ++ codes "\r\n") (c.in_ok-put_fields.ensures
    ∙ ap₂ (λ s fs. s ++ lines_of (fields_out omitted.Expect size false fs))
    (c.in_ok-put_request_line.ensures.text ∙ ap (λ t. t ++ request_line head) c.new-out.ensures.items) c.as_slice.ensures.value)
    ∙ forwarded_text size head

pub returns-clause-reads_back : goal.returns-clause-reads_back
returns-clause-reads_back c =
    let head = c.args.head.now in
    let line = c.put_request_line.ensures in
    let fields = subst AreFields c.as_slice.ensures.value c.as_slice.ensures.are_fields in
    let out = forwarded_request c.args.size head in
    subst (λ t. GivesRequest (Ok (bare_request out)) t) (sym (returns-clause-text c))
    (request_comes_back out line.is_token line.is_target (request_fields c.args.size head fields))
