use Rattle.std.proofs.Common.{◌≡◌, drop, map}
use Rattle.tcl_words.specs.View.{word_view}
use Rattle.test_text.specs.Expectations.{client_behind, clients_on}
use Rattle.test_text.specs.Faults.{read_all}
use Rattle.test_text.specs.Line.{line_view}
use Rattle.test_text.proofs.braces.clients_on.Given as goal

abbrev pub invariant-loop-word : goal.invariant-loop-word
invariant-loop-word l =
    clients_on l.fn.clients (line_view l.fn.line)
    ≡ read_all (client_behind l.fn.clients) l.found (map word_view (drop l.word-index l.fn.line.words.now))
