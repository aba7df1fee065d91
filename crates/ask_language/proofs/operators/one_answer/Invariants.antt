use Rattle.ask_language.proofs.operators.one_answer.Given as goal

abbrev pub ghosts-one : goal.ghosts-one
ghosts-one a = record { name = a.blank.name; parts = a.blank.parts }
