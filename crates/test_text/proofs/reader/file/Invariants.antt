use Rattle.std.proofs.Common.{◌≡◌, drop, map}
use Rattle.test_text.specs.Faults.{read_all}
use Rattle.test_text.specs.Files.{no_tests, with_line}
use Rattle.test_text.specs.Line.{command_line}
use Rattle.test_text.proofs.reader.file.Given as goal

abbrev pub invariant-loop-command : goal.invariant-loop-command
invariant-loop-command l =
    read_all (with_line l.fn.text) no_tests (map command_line l.fn.commands)
    ≡ read_all (with_line l.fn.text) l.file (map command_line (drop l.command-index l.fn.commands))
