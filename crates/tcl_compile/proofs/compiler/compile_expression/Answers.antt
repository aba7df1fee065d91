use Rattle.std.proofs.Common.{sym, ap, ◌∙◌}
use Rattle.tcl_trees.specs.Compiled.{compiled_expression, expression_text_at, level, all_levels, judged, unless}
use Rattle.tcl_trees.specs.TreeView.{node_view}
use Rattle.tcl_compile.proofs.compiler.compile_expression.Goals as goal

pub returns-in-None : goal.returns-in-None
unfolding compiled_expression
returns-in-None c =
    ap judged (ap (expression_text_at (level all_levels) 100 0 c.args.text.now) (sym c.new-compiler.ensures) ∙ c.in_ok-node.ensures)
    ∙ ap (λ f. unless f (node_view c.in_ok-node.node)) c.in-None.is

pub returns : goal.returns
unfolding compiled_expression
returns c =
    ap judged (ap (expression_text_at (level all_levels) 100 0 c.args.text.now) (sym c.new-compiler.ensures) ∙ c.in_ok-node.ensures)
    ∙ ap (λ f. unless f (node_view c.in_ok-node.node)) c.in-Some.is
