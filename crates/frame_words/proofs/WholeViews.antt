-- The code of a whole text, by nodes and by trees.
use Rattle.std.proofs.Common.{◌≡◌, refl, ap, ◌∙◌, sym, ℕ, List, Option}
use Rattle.tcl_trees.specs.TreeView.{node_view}
use Rattle.tcl_trees.specs.declared.node.Node.{Node, out-Node}
use Rattle.tcl_trees.specs.declared.node.Node.TheOpen.{Node-F}
use Rattle.tcl_vars.specs.Scopes.{Level, Scopes}
use Rattle.frame_words.specs.WordMoves.{whole_code, whole_in}
use Rattle.frames.proofs.NodeViews.{step_of, viewed}

whole_by : (statics : Option Level) (vars : Scopes) (text : List ℕ) (f : Node-F Node)
    → whole_in statics vars f text ≡ whole_code statics vars (step_of f) text
whole_by statics vars text (Node-F.Plain t) = refl
whole_by statics vars text (Node-F.Variable n) = refl
whole_by statics vars text (Node-F.Element n ns) = refl
whole_by statics vars text (Node-F.Word ns) = refl
whole_by statics vars text (Node-F.Script ns) = refl
whole_by statics vars text (Node-F.Command v ns) = refl
whole_by statics vars text (Node-F.Expr e) = refl
whole_by statics vars text (Node-F.If vs last) = refl
whole_by statics vars text (Node-F.Loop s t n b) = refl
whole_by statics vars text (Node-F.Foreach ws b) = refl
whole_by statics vars text (Node-F.Switch k ws bs) = refl
whole_by statics vars text (Node-F.Catch b) = refl
whole_by statics vars text (Node-F.CatchIn b n) = refl
whole_by statics vars text Node-F.NextBody = refl
whole_by statics vars text (Node-F.Prefixed ops e) = refl
whole_by statics vars text (Node-F.Row first rest) = refl
whole_by statics vars text (Node-F.Choice vs last) = refl

pub whole_view : (statics : Option Level) (vars : Scopes) (n : Node) (text : List ℕ)
    → whole_in statics vars (out-Node n) text ≡ whole_code statics vars (node_view n) text
whole_view statics vars n text = whole_by statics vars text (out-Node n)
    ∙ ap (λ t. whole_code statics vars t text) (sym (viewed n))
