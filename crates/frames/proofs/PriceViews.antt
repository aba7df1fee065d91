-- The price of a whole expression, and what stands for the next body, of the code and of the tree.
use Rattle.std.proofs.Common.{◌≡◌, refl, ap, ◌∙◌, sym}
use Rattle.tcl_trees.specs.TreeView.{node_view}
use Rattle.tcl_trees.specs.declared.node.Node.{Node, out-Node}
use Rattle.tcl_trees.specs.declared.node.Node.TheOpen.{Node-F}
use Rattle.rule_model.specs.Children.{alone, is_next}
use Rattle.rule_nodes.specs.Choice.{is_next_in}
use Rattle.frames.specs.Prices.{alone_in}
use Rattle.frames.proofs.NodeViews.{step_of, viewed}

alone_by : (f : Node-F Node) → alone_in f ≡ alone (step_of f)
alone_by (Node-F.Plain t) = refl
alone_by (Node-F.Variable n) = refl
alone_by (Node-F.Element n ns) = refl
alone_by (Node-F.Word ns) = refl
alone_by (Node-F.Script ns) = refl
alone_by (Node-F.Command v ns) = refl
alone_by (Node-F.Expr e) = refl
alone_by (Node-F.If vs last) = refl
alone_by (Node-F.Loop s t n b) = refl
alone_by (Node-F.Foreach ws b) = refl
alone_by (Node-F.Switch k ws bs) = refl
alone_by (Node-F.Catch b) = refl
alone_by (Node-F.CatchIn b n) = refl
alone_by Node-F.NextBody = refl
alone_by (Node-F.Prefixed ops e) = refl
alone_by (Node-F.Row first rest) = refl
alone_by (Node-F.Choice vs last) = refl

pub alone_view : (n : Node) → alone_in (out-Node n) ≡ alone (node_view n)
alone_view n = alone_by (out-Node n) ∙ ap alone (sym (viewed n))

is_next_by : (f : Node-F Node) → is_next_in f ≡ is_next (step_of f)
is_next_by (Node-F.Plain t) = refl
is_next_by (Node-F.Variable n) = refl
is_next_by (Node-F.Element n ns) = refl
is_next_by (Node-F.Word ns) = refl
is_next_by (Node-F.Script ns) = refl
is_next_by (Node-F.Command v ns) = refl
is_next_by (Node-F.Expr e) = refl
is_next_by (Node-F.If vs last) = refl
is_next_by (Node-F.Loop s t n b) = refl
is_next_by (Node-F.Foreach ws b) = refl
is_next_by (Node-F.Switch k ws bs) = refl
is_next_by (Node-F.Catch b) = refl
is_next_by (Node-F.CatchIn b n) = refl
is_next_by Node-F.NextBody = refl
is_next_by (Node-F.Prefixed ops e) = refl
is_next_by (Node-F.Row first rest) = refl
is_next_by (Node-F.Choice vs last) = refl

pub is_next_view : (n : Node) → is_next_in (out-Node n) ≡ is_next (node_view n)
is_next_view n = is_next_by (out-Node n) ∙ ap is_next (sym (viewed n))
