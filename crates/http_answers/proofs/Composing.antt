-- The head of an answer, as it is put together.
use Rattle.std.proofs.Common.{◌≡◌, ℕ, false, List, [], ◌∷◌, ◌++◌, refl, ap, sym, ◌∙◌}
use Rattle.std.proofs.lemmas.List.{append_assoc}
use Rattle.httparse.specs.Grammar.{print_response}
use Rattle.httparse.proofs.GrammarLemmas.{cons-append}
use Rattle.http_heads.specs.Fields.{Pair}
use Rattle.http_heads.specs.Written.{lines_of, written_response}
use Rattle.http_heads.proofs.ForwardedFields.{lines_append}
use Rattle.http_answers.specs.Answers.{answer_fields, answer_head, written_given}
use Rattle.http_answers.specs.Options.{pairs_of}
use Rattle.http_answers.specs.Seen.{own_fields, seen, status_line}
use Rattle.http_answers.specs.declared.answer.Answer.{Answer}

grouped : (out status given own tail : List ℕ)
    → (((out ++ status) ++ given) ++ own) ++ tail ≡ out ++ (status ++ ((given ++ own) ++ tail))
grouped out status given own tail = simp append_assoc

abbrev given_of : Answer → List Pair
given_of a = written_given false (pairs_of a.given.now)

own_behind : (a : Answer) → answer_fields (seen a) ≡ given_of a ++ own_fields a
own_behind a = simp append_assoc

fields_text : (a : Answer) → lines_of (answer_fields (seen a)) ≡ lines_of (given_of a) ++ lines_of (own_fields a)
fields_text a = ap lines_of (own_behind a) ∙ lines_append (given_of a) (own_fields a)

abbrev end : List ℕ
end = 13 ∷ 10 ∷ []

pub head_text : (a : Answer)
    → written_response (answer_head (seen a)) ≡ status_line a.version a.code ++ (lines_of (answer_fields (seen a)) ++ end)
unfolding print_response
head_text a = simp (append_assoc, cons-append)

-- what is written part by part is the head
pub put_behind : (a : Answer) (out first second third : List ℕ) → first ≡ out ++ status_line a.version a.code
    → second ≡ first ++ lines_of (given_of a) → third ≡ second ++ lines_of (own_fields a)
    → third ++ end ≡ out ++ written_response (answer_head (seen a))
put_behind a out first second third p q r =
    let status = status_line a.version a.code in
    let given = lines_of (given_of a) in
    let own = lines_of (own_fields a) in
    ap (λ t. t ++ end) (r ∙ ap (λ t. t ++ own) (q ∙ ap (λ t. t ++ given) p))
    ∙ grouped out status given own end
    ∙ ap (λ t. out ++ (status ++ (t ++ end))) (sym (fields_text a))
    ∙ ap (λ t. out ++ t) (sym (head_text a))
