use Rattle.std.proofs.Common.{◌<◌, ◌≡◌, ◌+◌, ◌-◌, suc, drop, length, option_map, arith, subst, ℕ}
use Rattle.tcl_trees.specs.TreeView.{node_view, nodes_view}
use Rattle.rule_nodes.specs.AtOnce.{DoesFront}
use Rattle.rule_nodes.proofs.CommandFronts.{command_there, front_then}
use Rattle.rule_nodes.proofs.short_commands.commands_at_once.Goals as goal

pub loop-at-preserved : goal.loop-at-preserved
loop-at-preserved g c =
    let level = option_map (λ v. v.now.statics) c.args.statics in
    let nodes = c.args.commands.now in
    let first = c.args.first in
    let at = c.loop-at.at in
    let n = c.index-commands-at.result in
    let onward = c.loop-at.invariant.onward in
    let within = c.loop-at.invariant.within in
    let inside = c.loop-at.invariant.inside in
    let end_is = c.loop-at.invariant.end_is in
    let more = c.loop-at-test.true in
    let next : suc (at - first) ≡ at + 1 - first = omega (arith, onward) in
    let there : at < length nodes = omega (arith, inside, more) in
    record {
      done = subst (λ (k : ℕ). DoesFront level (drop first (nodes_view nodes)) k c.args.vars.now c.args.budget.now c.args.paid.now
          c.command_at_once.new.vars c.command_at_once.new.budget c.command_at_once.new.paid) next
          (front_then level (at - first) (drop first (nodes_view nodes)) (node_view n) (nodes_view (drop (at + 1) nodes)) _ _ _ _ _ _ _ _ _
          (command_there nodes first at n onward there c.index-commands-at.is) c.loop-at.invariant.done c.if-not-command_at_once.ensures.done);
      onward = omega (arith, onward);
      within = omega (arith, within, end_is, more);
      inside = inside;
      end_is = end_is;
    }
