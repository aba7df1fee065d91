use Rattle.std.proofs.Common.{sym, ap, ◌∙◌}
use Rattle.tcl_words.specs.View.{word_view}
use Rattle.tcl_trees.specs.Compiled.{compiled_body, level, all_levels, judged, unless}
use Rattle.tcl_trees.specs.TreeView.{node_view}
use Rattle.tcl_compile.proofs.compiler.compile_body.Goals as goal

pub returns-in-None : goal.returns-in-None
unfolding compiled_body
returns-in-None c =
    ap judged (ap ((level all_levels).body 0 (word_view c.args.word.now)) (sym c.new-compiler.ensures) ∙ c.in_ok-node.ensures)
    ∙ ap (λ f. unless f (node_view c.in_ok-node.node)) c.in-None.is

pub returns : goal.returns
unfolding compiled_body
returns c =
    ap judged (ap ((level all_levels).body 0 (word_view c.args.word.now)) (sym c.new-compiler.ensures) ∙ c.in_ok-node.ensures)
    ∙ ap (λ f. unless f (node_view c.in_ok-node.node)) c.in-Some.is
