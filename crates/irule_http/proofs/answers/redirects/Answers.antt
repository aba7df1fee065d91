use Rattle.irule_http.proofs.answers.redirects.Goals as goal

pub returns : goal.returns
returns c = rw (c.in_ok-new.ensures, c.in_ok-new-2.ensures, c.word_at.ensures) at c.redirects_by.ensures
