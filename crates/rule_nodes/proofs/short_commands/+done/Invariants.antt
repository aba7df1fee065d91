use Rattle.std.proofs.Common.{◌+◌, ◌*◌}
use Rattle.rule_nodes.proofs.short_commands.+done.Given as goal

-- the body that a command chooses has less room than the command

abbrev pub decreases-done : goal.decreases-done
decreases-done l = 2 * l.room

abbrev pub decreases-chosen_done : goal.decreases-chosen_done
decreases-chosen_done l = 2 * l.room + 1
