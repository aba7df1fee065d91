use Rattle.std.specs.Prelude.{option_map}
use Rattle.tcl_trees.specs.Procedures.{procs_view}
use Rattle.tcl_trees.specs.TreeView.{node_view}
use Rattle.plain_eval.specs.Plain.{setting}
use Rattle.plain_eval.specs.Stand.{stand}
use Rattle.plain_eval.proofs.Outcomes.{outcome_of}
use Rattle.plain_eval.proofs.plain.eval_plain.Goals as goal

pub returns : goal.returns
returns g c =
    let statics = option_map (λ v. v.now.statics) c.args.statics in
    outcome_of (setting statics (g.H.PlainHost.table c.args.env.now) (procs_view c.args.procs.now)) (node_view c.args.tree.now) c.replace.result c.args.vars.now c.args.host.now c.args.budget c.args.answers.now
    c.as_slice.result.now c.eval_tree.new.run.end c.told.result (stand c.eval_tree.new.run c.eval_tree.new.host) _ c.len.result c.replace.ensures.value c.as_slice.ensures c.eval_tree.ensures.ran c.told.ensures c.len.ensures c.saturating_sub-used.ensures
