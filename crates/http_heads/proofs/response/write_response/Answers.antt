use Rattle.std.proofs.Common.{◌≡◌, ◌++◌, Ok, ap, ap₂, sym, subst, ◌∙◌, map}
use Rattle.httparse.specs.Grammar.{crlf, print_section}
use Rattle.http_heads.specs.Fields.{AreFields}
use Rattle.http_heads.specs.Heads.{GivesResponse, bare_response}
use Rattle.http_heads.specs.Written.{line_of, status_line}
use Rattle.http_heads.proofs.ReadBack.{response_comes_back}
use Rattle.http_heads.proofs.WrittenLines.{response_text}
use Rattle.http_heads.proofs.response.write_response.Goals as goal

pub returns-clause-text : goal.returns-clause-text
returns-clause-text c =
    let head = c.args.head.now in
    c.from_vec.ensures ∙ c.in_ok-put_section.ensures
    ∙ ap₂ (λ line fields. line ++ print_section (map line_of fields) crlf)
    (c.in_ok-put_status_line.ensures.text ∙ ap (λ t. t ++ status_line head) c.new-out.ensures.items) c.as_slice.ensures.value
    ∙ response_text head

pub returns-clause-reads_back : goal.returns-clause-reads_back
returns-clause-reads_back c =
    let digits = c.in_ok-put_status_line.ensures.three_digits in
    let fields = subst AreFields c.as_slice.ensures.value c.as_slice.ensures.are_fields in
    subst (λ t. GivesResponse (Ok (bare_response c.args.head.now)) t) (sym (returns-clause-text c))
    (response_comes_back c.args.head.now digits c.put_status_line.ensures.is_reason fields)
