use Rattle.frames.specs.Went.{IsRunning}
use Rattle.ask_machine.proofs.stepped.Runner.run.Given as goal

abbrev pub invariant-loop : goal.invariant-loop
invariant-loop g l = IsRunning l.self.machine.at.mode
