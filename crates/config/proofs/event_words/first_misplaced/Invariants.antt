use Rattle.std.proofs.Common.{◌≡◌, drop, map}
use Rattle.tcl_words.specs.View.{command_view}
use Rattle.config.specs.EventWords.{first_misplaced}
use Rattle.config.proofs.event_words.first_misplaced.Given as goal

abbrev pub invariant-loop-command : goal.invariant-loop-command
invariant-loop-command l = first_misplaced l.http (map command_view l.commands) ≡ first_misplaced l.http (map command_view (drop l.command-index l.commands))
