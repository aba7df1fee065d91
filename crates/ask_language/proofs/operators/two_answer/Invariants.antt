use Rattle.ask_language.proofs.operators.two_answer.Given as goal

abbrev pub ghosts-two : goal.ghosts-two
ghosts-two a = record { name = a.blank.name; parts = a.blank.parts }
