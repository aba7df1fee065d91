use Rattle.plain_eval.proofs.uncounted.both_text.Given as goal

abbrev pub ghosts-both_by : goal.ghosts-both_by
ghosts-both_by a = record { name = a.blank.name; parts = a.blank.parts }
