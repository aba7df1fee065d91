-- What a node has, by nodes and by trees.
use Rattle.std.proofs.Common.{◌≡◌, refl, ap, ◌∙◌, sym, List, [], ◌∷◌, Bool, true, false, Some}
use Rattle.tcl_expr.specs.declared.expr.Joint.{Joint}
use Rattle.tcl_trees.specs.Tree.{Tree, operands_of, values_of}
use Rattle.tcl_trees.specs.TreeView.{node_view, operands_view, values_view}
use Rattle.tcl_trees.specs.declared.node.Node.{Node, out-Node}
use Rattle.tcl_trees.specs.declared.node.Node.TheOpen.{Node-F}
use Rattle.frame_loops.specs.Branches.{choices, choices_of, paired}
use Rattle.frames.specs.Frames.{operators_of}
use Rattle.frame_loops.specs.NodeParts.{choices_in, joints_in, operators_in}
use Rattle.frame_loops.specs.Rows.{listed, row_of}
use Rattle.frames.proofs.NodeViews.{step_of, viewed}

listed_of : (os : List (Joint × Tree)) → listed (operands_of os) ≡ os
listed_of [] = refl
listed_of (o ∷ os) = ap (λ l. o ∷ l) (listed_of os)

paired_of : (vs : List (Tree × Tree)) → paired (values_of vs) ≡ vs
paired_of [] = refl
paired_of (v ∷ vs) = ap (λ l. v ∷ l) (paired_of vs)

operators_by : (f : Node-F Node) → operators_in f ≡ operators_of (step_of f)
operators_by (Node-F.Plain t) = refl
operators_by (Node-F.Variable n) = refl
operators_by (Node-F.Element n ns) = refl
operators_by (Node-F.Word ns) = refl
operators_by (Node-F.Script ns) = refl
operators_by (Node-F.Command v ns) = refl
operators_by (Node-F.Expr e) = refl
operators_by (Node-F.If vs last) = refl
operators_by (Node-F.Loop s t n b) = refl
operators_by (Node-F.Foreach ws b) = refl
operators_by (Node-F.Switch k ws bs) = refl
operators_by (Node-F.Catch b) = refl
operators_by (Node-F.CatchIn b n) = refl
operators_by Node-F.NextBody = refl
operators_by (Node-F.Prefixed ops e) = refl
operators_by (Node-F.Row first rest) = refl
operators_by (Node-F.Choice vs last) = refl

pub operators_view : (n : Node) → operators_in (out-Node n) ≡ operators_of (node_view n)
operators_view n = operators_by (out-Node n) ∙ ap operators_of (sym (viewed n))

joints_by : (f : Node-F Node) → operands_view (joints_in f) ≡ row_of (step_of f)
joints_by (Node-F.Row first rest) = sym (listed_of (operands_view rest.items))
joints_by other = refl

pub joints_view : (n : Node) → operands_view (joints_in (out-Node n)) ≡ row_of (node_view n)
joints_view n = joints_by (out-Node n) ∙ ap row_of (sym (viewed n))

choices_by : (w : Bool) (f : Node-F Node) → choices_in w f ≡ choices_of w (step_of f)
choices_by w (Node-F.If vs last) =
    ap (λ l. choices l (Some (node_view last.value)) false w) (sym (paired_of (values_view vs.items)))
choices_by w (Node-F.Choice vs last) =
    ap (λ l. choices l (Some (node_view last.value)) true w) (sym (paired_of (values_view vs.items)))
choices_by w other = refl

pub choices_view_is : (w : Bool) (n : Node) → choices_in w (out-Node n) ≡ choices_of w (node_view n)
choices_view_is w n = choices_by w (out-Node n) ∙ ap (λ t. choices_of w t) (sym (viewed n))
