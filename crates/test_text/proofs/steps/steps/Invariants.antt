use Rattle.std.proofs.Common.{◌≡◌, drop, map}
use Rattle.test_text.specs.Faults.{read_all}
use Rattle.test_text.specs.Files.{step_behind, steps_of}
use Rattle.test_text.specs.Line.{command_line}
use Rattle.test_text.proofs.steps.steps.Given as goal

abbrev pub invariant-loop-command : goal.invariant-loop-command
invariant-loop-command l =
    steps_of l.fn.text l.initial.clients (map command_line l.fn.commands)
    ≡ read_all (step_behind l.fn.text) (l.steps, l.clients) (map command_line (drop l.command-index l.fn.commands))
