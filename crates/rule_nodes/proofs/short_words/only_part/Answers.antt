use Rattle.std.proofs.Common.{◌≡◌, refl, arith}
use Rattle.tcl_trees.specs.Tree.{trees_of, word}
use Rattle.tcl_trees.specs.TreeView.{node_view, nodes_view}
use Rattle.tcl_trees.specs.declared.node.Node.{the_lemmas}
use Rattle.rule_nodes.proofs.ShortWords.{first_part, no_only_part}
use Rattle.rule_nodes.proofs.short_words.only_part.Goals as goal

pub returns-then-len-ne1 : goal.returns-then-len-ne1
returns-then-len-ne1 c =
    let is : node_view c.args.word.now ≡ word (trees_of (nodes_view c.in-Word.parts.items)) = rw c.in-Word.is (simp the_lemmas refl) in
    no_only_part _ c.in-Word.parts.items is (λ one. omega (arith, c.in-Word.parts.ok.0))

pub returns : goal.returns
returns c =
    let is : node_view c.args.word.now ≡ word (trees_of (nodes_view c.in-Word.parts.items)) = rw c.in-Word.is (simp the_lemmas refl) in
    first_part _ c.in-Word.parts.items c.first.result is (omega (arith, c.in-Word.parts.ok.0)) (rw c.as_slice.ensures.value at c.first.ensures.value)
