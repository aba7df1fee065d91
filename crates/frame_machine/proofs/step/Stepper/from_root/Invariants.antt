use Rattle.frame_machine.proofs.step.Stepper.from_root.Given as goal

abbrev pub ghosts-step_ticked : goal.ghosts-step_ticked
ghosts-step_ticked g a = record { name = a.blank.name; parts = a.blank.parts }
