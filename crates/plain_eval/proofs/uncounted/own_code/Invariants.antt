use Rattle.plain_eval.proofs.uncounted.own_code.Given as goal

abbrev pub ghosts-own_by : goal.ghosts-own_by
ghosts-own_by a = record { name = a.blank.name; parts = a.blank.parts }
