use Rattle.irule_http.proofs.command.stepped.Goals as goal

pub returns : goal.returns
returns c = rw (c.word_at.ensures, c.behind_first.ensures) at c.named.ensures
