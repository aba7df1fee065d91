use Rattle.std.proofs.Common.{◌≡◌, refl}
use Rattle.tcl_trees.specs.Tree.{trees_of, word}
use Rattle.tcl_trees.specs.TreeView.{node_view, nodes_view}
use Rattle.tcl_trees.specs.declared.node.Node.{the_lemmas}
use Rattle.rule_nodes.proofs.ShortChoices.{on_parts}
use Rattle.rule_nodes.proofs.short_choices.joined.Goals as goal

pub returns-in-Word : goal.returns-in-Word
returns-in-Word c =
    let is : node_view c.args.word.now ≡ word (trees_of (nodes_view c.in-Word.parts.items)) = rw c.in-Word.is (simp the_lemmas refl) in
    record {
      word_is = λ none. on_parts _ _ _ (nodes_view c.in-Word.parts.items) c.args.text.now _ _ _ c.joined_parts.result is none
          (rw c.deref.ensures.value at c.joined_parts.ensures.joins);
    }
