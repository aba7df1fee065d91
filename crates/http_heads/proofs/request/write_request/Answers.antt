use Rattle.std.proofs.Common.{◌≡◌, ◌++◌, Ok, ap, ap₂, sym, subst, ◌∙◌, map}
use Rattle.httparse.specs.Grammar.{crlf, print_section}
use Rattle.http_heads.specs.Fields.{AreFields}
use Rattle.http_heads.specs.Heads.{GivesRequest, bare_request}
use Rattle.http_heads.specs.Written.{line_of, request_line}
use Rattle.http_heads.proofs.ReadBack.{request_comes_back}
use Rattle.http_heads.proofs.WrittenLines.{request_text}
use Rattle.http_heads.proofs.request.write_request.Goals as goal

pub returns-clause-text : goal.returns-clause-text
returns-clause-text c =
    let head = c.args.head.now in
    c.from_vec.ensures ∙ c.in_ok-put_section.ensures
    ∙ ap₂ (λ line fields. line ++ print_section (map line_of fields) crlf)
    (c.in_ok-put_request_line.ensures.text ∙ ap (λ t. t ++ request_line head) c.new-out.ensures.items) c.as_slice.ensures.value
    ∙ request_text head

pub returns-clause-reads_back : goal.returns-clause-reads_back
returns-clause-reads_back c =
    let line = c.put_request_line.ensures in
    let fields = subst AreFields c.as_slice.ensures.value c.as_slice.ensures.are_fields in
    subst (λ t. GivesRequest (Ok (bare_request c.args.head.now)) t) (sym (returns-clause-text c))
    (request_comes_back c.args.head.now line.is_token line.is_target fields)
