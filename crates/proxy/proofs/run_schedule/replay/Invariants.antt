use Rattle.proxy.proofs.run_schedule.replay.Given as goal

abbrev pub ghosts-counted_replay : goal.ghosts-counted_replay
ghosts-counted_replay g a = record { name = a.blank.name; parts = a.blank.parts }
