use Rattle.std.proofs.Common.{◌≡◌, ◌++◌, codes, false, ap, sym, subst, ◌∙◌, rules}
use Rattle.std.specs.Fmt.{decimal}
use Rattle.std.proofs.lemmas.List.{append-nil}
use Rattle.httparse.specs.Grammar.{print_field}
use Rattle.http_heads.specs.Written.{line_of, lines_of}
use Rattle.http_answers.specs.Answers.{length_field}
use Rattle.http_answers.proofs.answer.put_length.Goals as goal

pub returns-clause-text : goal.returns-clause-text
returns-clause-text c =
    let out = c.args.out.now.items in
    let line = print_field (line_of (codes "Content-Length", decimal c.args.size)) in
    let alone : lines_of (length_field false c.args.size) ≡ line = append-nil line in
    let digits : c.as_bytes.result.now ≡ decimal c.args.size = search rules in
    let put : c.put_field.new.out.items ≡ out ++ line =
    c.in_ok-put_field.ensures ∙ ap (λ d. out ++ print_field (line_of (codes "Content-Length", d))) digits in
    subst (λ b. c.put_field.new.out.items ≡ out ++ lines_of (length_field b c.args.size)) (sym c.if-bodiless.false)
    (put ∙ ap (λ t. out ++ t) (sym alone))
