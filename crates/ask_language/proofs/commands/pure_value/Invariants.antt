use Rattle.ask_language.proofs.commands.pure_value.Given as goal

abbrev pub ghosts-called : goal.ghosts-called
ghosts-called a = record { name = a.blank.name; parts = a.blank.parts }
