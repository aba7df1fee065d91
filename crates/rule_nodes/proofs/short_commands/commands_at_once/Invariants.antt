use Rattle.std.proofs.Common.{◌-◌, ◌≤◌, drop, length, max, option_map}
use Rattle.tcl_trees.specs.TreeView.{nodes_view}
use Rattle.rule_nodes.specs.AtOnce.{DoesFront}
use Rattle.rule_nodes.proofs.short_commands.commands_at_once.Given as goal

-- the commands from the first up to here are done, from the state at the entry to that now
abbrev pub invariant-loop-at : goal.invariant-loop-at
invariant-loop-at g l = record {
  done : DoesFront (option_map (λ v. v.now.statics) l.statics) (drop l.first (nodes_view l.commands)) (l.at - l.first)
      l.fn.vars l.fn.budget l.fn.paid l.vars l.budget l.paid;
  onward : l.first ≤ l.at;
  within : l.at ≤ max l.first l.fn.end;
  inside : l.end ≤ length l.commands;
  end_is : l.end ≤ l.fn.end;
}

abbrev pub decreases-loop-at : goal.decreases-loop-at
decreases-loop-at g l = l.end - l.at
