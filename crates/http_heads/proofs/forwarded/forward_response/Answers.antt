use Rattle.std.proofs.Common.{◌≡◌, ◌++◌, codes, false, Ok, ap, ap₂, sym, subst, ◌∙◌}
use Rattle.http_heads.specs.Fields.{AreFields}
use Rattle.http_heads.specs.Forwarded.{connection_field, fields_out, forwarded_response, omitted_of}
use Rattle.http_heads.specs.Heads.{GivesResponse, bare_response}
use Rattle.http_heads.specs.Written.{lines_of, status_line}
use Rattle.http_heads.proofs.Forwarding.{answered_text, response_fields}
use Rattle.http_heads.proofs.ReadBack.{response_comes_back}
use Rattle.http_heads.proofs.forwarded.forward_response.Goals as goal

pub returns-clause-text : goal.returns-clause-text
returns-clause-text c =
    let head = c.args.head.now in
    let size = c.args.size in
    let option = c.args.option in
    let omitted : c.omitted_of.result ≡ omitted_of head.status = c.omitted_of.ensures ∙ ap omitted_of c.code.ensures.value in
    c.from_vec.ensures ∙ c.in_ok-extend_from_slice.ensures.items
    ∙ ap (λ t. t ++ codes "\r\n") (c.in_ok-put_connection.ensures
    ∙ ap (λ t. t ++ lines_of (connection_field option)) (c.in_ok-put_fields.ensures
    ∙ ap₂ (λ s fs. s ++ lines_of (fields_out c.omitted_of.result size false fs))
    (c.in_ok-put_status_line.ensures.text ∙ ap (λ t. t ++ status_line head) c.new-out.ensures.items) c.as_slice.ensures.value
    ∙ ap (λ o. status_line head ++ lines_of (fields_out o size false head.fields)) omitted))
    ∙ answered_text size option head

pub returns-clause-reads_back : goal.returns-clause-reads_back
returns-clause-reads_back c few =
    let head = c.args.head.now in
    let line = c.put_status_line.ensures in
    let fields = subst AreFields c.as_slice.ensures.value c.as_slice.ensures.are_fields in
    let out = forwarded_response c.args.size c.args.option head in
    let are : AreFields out.fields = record { are = response_fields c.args.size c.args.option head fields; few = few } in
    subst (λ t. GivesResponse (Ok (bare_response out)) t) (sym (returns-clause-text c))
    (response_comes_back out c.in_ok-put_status_line.ensures.three_digits line.is_reason are)
