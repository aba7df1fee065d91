use Rattle.plain_eval.proofs.uncounted.prefixed_text.Given as goal

abbrev pub ghosts-prefixed_by : goal.ghosts-prefixed_by
ghosts-prefixed_by a = record { name = a.blank.name; parts = a.blank.parts }
