use Rattle.std.proofs.Common.{sym, ap, ◌∙◌}
use Rattle.tcl_words.specs.View.{word_view}
use Rattle.tcl_trees.specs.Compiled.{examined_body, level, all_levels}
use Rattle.tcl_compile.proofs.compiler.examine_body.Goals as goal

pub returns : goal.returns
unfolding examined_body
returns c = ap ((level all_levels).body 0 (word_view c.args.word.now)) (sym c.new-compiler.ensures) ∙ c.in_ok-node.ensures
