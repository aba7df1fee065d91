use Rattle.std.proofs.Common.{◌≡◌, drop, map}
use Rattle.test_text.specs.Faults.{read_all}
use Rattle.test_text.specs.Files.{deed_behind, deeds_of}
use Rattle.test_text.specs.Line.{command_line}
use Rattle.test_text.proofs.steps.deeds.Given as goal

abbrev pub invariant-loop-command : goal.invariant-loop-command
invariant-loop-command l =
    deeds_of l.initial.clients (map command_line l.fn.commands)
    ≡ read_all deed_behind (l.deeds, l.clients) (map command_line (drop l.command-index l.fn.commands))
