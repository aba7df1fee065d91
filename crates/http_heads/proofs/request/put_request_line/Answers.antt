use Rattle.std.proofs.Common.{◌≡◌, ℕ, List, ◌++◌, codes, ap, ap₂, ◌∙◌}
use Rattle.httparse.specs.Grammar.{print_version}
use Rattle.http_heads.specs.Lines.{minor_of}
use Rattle.http_heads.proofs.WrittenLines.{six_joined}
use Rattle.http_heads.proofs.request.put_request_line.Goals as goal

pub returns-clause-text : goal.returns-clause-text
returns-clause-text c =
    let head = c.args.head.now in
    let blank = codes " " in
    c.in_ok-extend_from_slice-5.ensures.items
    ∙ ap (λ t. t ++ codes "\r\n") (c.in_ok-put_version.ensures
    ∙ ap (λ t. t ++ print_version (minor_of head.version)) (c.in_ok-extend_from_slice-4.ensures.items
    ∙ ap (λ t. t ++ blank) (c.in_ok-extend_from_slice-3.ensures.items
    ∙ ap₂ (λ s t. s ++ t) (c.in_ok-extend_from_slice-2.ensures.items
    ∙ ap (λ t. t ++ blank) (c.in_ok-extend_from_slice.ensures.items
    ∙ ap (λ t. c.args.out.now.items ++ t) c.as_bytes-method.ensures.value))
    c.as_bytes-target.ensures.value)))
    ∙ six_joined c.args.out.now.items head.method blank head.target blank (print_version (minor_of head.version)) (codes "\r\n")
