use Rattle.std.proofs.Common.{map, sym, ap, ◌∙◌}
use Rattle.tcl_words.specs.View.{command_view}
use Rattle.tcl_trees.specs.Compiled.{compiled, level, all_levels, beginning, judged, unless}
use Rattle.tcl_trees.specs.Compiling.{script_at}
use Rattle.tcl_trees.specs.TreeView.{node_view}
use Rattle.tcl_trees.proofs.PieceLists.{script_commands}
use Rattle.tcl_compile.proofs.compiler.compile.Goals as goal

pub returns-in-None : goal.returns-in-None
unfolding compiled
returns-in-None c =
    ap judged (ap (λ cs. script_at (level all_levels) 0 cs beginning)
    (script_commands c.args.script.now ∙ ap (map command_view) (sym c.deref.ensures.value))
    ∙ ap (script_at (level all_levels) 0 (map command_view c.deref.result.now)) (sym c.new-compiler.ensures)
    ∙ c.in_ok-node.ensures)
    ∙ ap (λ f. unless f (node_view c.in_ok-node.node)) c.in-None.is

pub returns : goal.returns
unfolding compiled
returns c =
    ap judged (ap (λ cs. script_at (level all_levels) 0 cs beginning)
    (script_commands c.args.script.now ∙ ap (map command_view) (sym c.deref.ensures.value))
    ∙ ap (script_at (level all_levels) 0 (map command_view c.deref.result.now)) (sym c.new-compiler.ensures)
    ∙ c.in_ok-node.ensures)
    ∙ ap (λ f. unless f (node_view c.in_ok-node.node)) c.in-Some.is
