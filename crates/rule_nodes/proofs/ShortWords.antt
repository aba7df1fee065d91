-- Words of one part.
use Rattle.std.proofs.Common.{◌≡◌, refl, List, [], ◌∷◌, length, Option, Some, None, option_map, option_copied, Bor, arith}
use Rattle.std.specs.List.{slice_get}
use Rattle.tcl_trees.specs.Tree.{Tree, trees_of}
use Rattle.tcl_trees.specs.Tree as tree
use Rattle.tcl_trees.specs.TreeView.{node_view, nodes_view}
use Rattle.tcl_trees.specs.declared.node.Node.{Node}
use Rattle.rule_nodes.specs.AtOnce.{only_part}

pub no_only_part : (t : Tree) (ns : List Node) → t ≡ tree.word (trees_of (nodes_view ns)) → (length ns ≡ 1 → ⊥) → None ≡ only_part t
no_only_part t [] is others = rw is refl
no_only_part t (x ∷ []) is others = absurd (others refl)
no_only_part t (x ∷ y ∷ ns) is others = rw is refl

pub first_part : (t : Tree) (ns : List Node) (n : Option (Bor Node)) → t ≡ tree.word (trees_of (nodes_view ns)) → length ns ≡ 1
    → option_copied n ≡ slice_get ns 0
    → option_map (λ (b : Bor Node). node_view b.now) n ≡ only_part t
first_part t [] n is one e = absurd (omega arith)
first_part t (x ∷ []) None is one e = cc
first_part t (x ∷ []) (Some b) is one e =
    let same : x ≡ b.now = cc in
    rw (is, same) refl
first_part t (x ∷ y ∷ ns) n is one e = absurd (omega arith)
