use Rattle.std.proofs.Common.{map, take}
use Rattle.rule_loader.specs.Outcome.{Holds}
use Rattle.rule_loader.proofs.loader.loaded.Given as goal
use Rattle.tcl_words.specs.View.{command_view}

abbrev pub invariant-loop-command : goal.invariant-loop-command
invariant-loop-command l = Holds l.fn.told (map command_view (take l.command-index l.commands)) l.loader
