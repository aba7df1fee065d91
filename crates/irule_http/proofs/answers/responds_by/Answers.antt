use Rattle.irule_http.proofs.answers.responds_by.Goals as goal

pub returns : goal.returns
returns c =
    rw c.in_ok-code.ensures.gives
    (rw (c.answer_closes.ensures, c.has_server.ensures, c.content_of.ensures, c.field_words-given.ensures) at c.answers.ensures)
