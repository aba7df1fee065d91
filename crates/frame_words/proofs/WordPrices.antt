-- The prices of words, by nodes and by trees.
use Rattle.std.proofs.Common.{◌≡◌, refl, ap, ◌∙◌, sym, ℕ, List, [], ◌∷◌}
use Rattle.tcl_trees.specs.Tree.{trees_of}
use Rattle.tcl_trees.specs.Tree as tree
use Rattle.tcl_trees.specs.TreeView.{node_view, nodes_view}
use Rattle.tcl_trees.specs.declared.node.Node.{Node, out-Node}
use Rattle.tcl_trees.specs.declared.node.Node.TheOpen.{Node-F}
use Rattle.frame_words.specs.Words.{part_price, part_price_in, price_of, word_unit, word_unit_in}
use Rattle.frames.proofs.NodeViews.{step_of, viewed}

unit_by : (f : Node-F Node) → word_unit_in f ≡ word_unit (step_of f)
unit_by (Node-F.Switch k ws bs) = refl
unit_by (Node-F.Plain text) = refl
unit_by (Node-F.Variable name) = refl
unit_by (Node-F.Element name ns) = refl
unit_by (Node-F.Word ns) = refl
unit_by (Node-F.Script ns) = refl
unit_by (Node-F.Command v ns) = refl
unit_by (Node-F.Expr e) = refl
unit_by (Node-F.If vs last) = refl
unit_by (Node-F.Loop s t n b) = refl
unit_by (Node-F.Foreach ws b) = refl
unit_by (Node-F.Catch b) = refl
unit_by (Node-F.CatchIn b n) = refl
unit_by Node-F.NextBody = refl
unit_by (Node-F.Prefixed ops e) = refl
unit_by (Node-F.Row first rest) = refl
unit_by (Node-F.Choice vs last) = refl

pub word_unit_view : (n : Node) → word_unit_in (out-Node n) ≡ word_unit (node_view n)
word_unit_view n = unit_by (out-Node n) ∙ ap word_unit (sym (viewed n))

price_here : (unit : ℕ) (ns : List Node)
    → price_of unit ns ≡ part_price unit (tree.word (trees_of (nodes_view ns)))
price_here unit [] = refl
price_here unit (n ∷ ns) = refl

price_by : (unit : ℕ) (f : Node-F Node) → part_price_in unit f ≡ part_price unit (step_of f)
price_by unit (Node-F.Word ns) = price_here unit ns.items
price_by unit other = refl

pub part_price_view : (unit : ℕ) (n : Node) → part_price_in unit (out-Node n) ≡ part_price unit (node_view n)
part_price_view unit n = price_by unit (out-Node n) ∙ ap (λ t. part_price unit t) (sym (viewed n))
