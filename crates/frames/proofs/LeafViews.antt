-- Leafs of the code and of the tree.
use Rattle.std.proofs.Common.{◌≡◌, refl, ap, ◌∙◌, sym, ℕ, List, [], ◌∷◌, true, Option}
use Rattle.tcl_trees.specs.Tree.{Tree, trees_of, no_trees, and_tree}
use Rattle.tcl_trees.specs.Tree as tree
use Rattle.tcl_trees.specs.TreeView.{node_view, nodes_view}
use Rattle.tcl_trees.specs.declared.node.Node.{Node, out-Node}
use Rattle.tcl_trees.specs.declared.node.Node.TheOpen.{Node-F}
use Rattle.tcl_trees.specs.declared.node.Verb.TheVariants as verb
use Rattle.tcl_vars.specs.Scopes.{Level, Scopes}
use Rattle.rule_model.specs.Evaluator.{eval}
use Rattle.rule_model.specs.Outcome.{State, Ends}
use Rattle.rule_model.specs.Setting.{Setting, Inner}
use Rattle.frames.specs.Leafs.{has_none, is_leaf_in, leaf_code, leaf_in}
use Rattle.frames.specs.Owed.{is_empty, is_flat}
use Rattle.frames.proofs.NodeViews.{step_of, viewed}

none_in : (ns : List Node) → has_none ns ≡ is_empty (trees_of (nodes_view ns))
none_in [] = refl
none_in (n ∷ ns) = refl

is_leaf_by : (f : Node-F Node) → is_leaf_in f ≡ is_flat (step_of f)
is_leaf_by (Node-F.Element n ns) = none_in ns.items
is_leaf_by (Node-F.Word ns) = none_in ns.items
is_leaf_by (Node-F.Script ns) = none_in ns.items
is_leaf_by (Node-F.Command v ns) = none_in ns.items
is_leaf_by other = refl

pub is_leaf_view : (n : Node) → is_leaf_in (out-Node n) ≡ is_flat (node_view n)
is_leaf_view n = is_leaf_by (out-Node n) ∙ ap is_flat (sym (viewed n))

leaf_by : (statics : Option Level) (vars : Scopes) (f : Node-F Node)
    → leaf_in statics vars f ≡ leaf_code statics vars (step_of f)
leaf_by statics vars (Node-F.Plain t) = refl
leaf_by statics vars (Node-F.Variable n) = refl
leaf_by statics vars (Node-F.Element n ns) = refl
leaf_by statics vars (Node-F.Word ns) = refl
leaf_by statics vars (Node-F.Script ns) = refl
leaf_by statics vars (Node-F.Command v ns) = refl
leaf_by statics vars (Node-F.Expr e) = refl
leaf_by statics vars (Node-F.If vs last) = refl
leaf_by statics vars (Node-F.Loop s t n b) = refl
leaf_by statics vars (Node-F.Foreach ws b) = refl
leaf_by statics vars (Node-F.Switch k ws bs) = refl
leaf_by statics vars (Node-F.Catch b) = refl
leaf_by statics vars (Node-F.CatchIn b n) = refl
leaf_by statics vars Node-F.NextBody = refl
leaf_by statics vars (Node-F.Prefixed ops e) = refl
leaf_by statics vars (Node-F.Row first rest) = refl
leaf_by statics vars (Node-F.Choice vs last) = refl

pub leaf_view : (statics : Option Level) (vars : Scopes) (n : Node)
    → leaf_in statics vars (out-Node n) ≡ leaf_code statics vars (node_view n)
leaf_view statics vars n = leaf_by statics vars (out-Node n)
    ∙ ap (λ t. leaf_code statics vars t) (sym (viewed n))

-- it comes to that code, and pays nothing
pub leaf_eval : {H : Type 0} (g : Setting H) (i : Inner H) (t : Tree) (p : List ℕ) (st : State H)
    → is_flat t ≡ true → eval g i t p st ≡ Ends (leaf_code g.statics st.vars t) st
leaf_eval g i (tree.plain text) p st e = refl
leaf_eval g i (tree.variable name) p st e = refl
leaf_eval g i (tree.element name no_trees) p st e = refl
leaf_eval g i (tree.element name (and_tree t ts)) p st e = absurd (cc e)
leaf_eval g i (tree.word no_trees) p st e = refl
leaf_eval g i (tree.word (and_tree t ts)) p st e = absurd (cc e)
leaf_eval g i (tree.script no_trees) p st e = refl
leaf_eval g i (tree.script (and_tree t ts)) p st e = absurd (cc e)
leaf_eval g i (tree.command verb.Named no_trees) p st e = refl
leaf_eval g i (tree.command verb.Computed no_trees) p st e = refl
leaf_eval g i (tree.command verb.Set no_trees) p st e = refl
leaf_eval g i (tree.command verb.Unset no_trees) p st e = refl
leaf_eval g i (tree.command verb.Incr no_trees) p st e = refl
leaf_eval g i (tree.command verb.Append no_trees) p st e = refl
leaf_eval g i (tree.command verb.Lappend no_trees) p st e = refl
leaf_eval g i (tree.command verb.Array no_trees) p st e = refl
leaf_eval g i (tree.command verb.Info no_trees) p st e = refl
leaf_eval g i (tree.command verb.Return no_trees) p st e = refl
leaf_eval g i (tree.command verb.Break no_trees) p st e = refl
leaf_eval g i (tree.command verb.Continue no_trees) p st e = refl
leaf_eval g i (tree.command verb.Error no_trees) p st e = refl
leaf_eval g i (tree.command verb.Call no_trees) p st e = refl
leaf_eval g i (tree.command verb.ExprOfWords no_trees) p st e = refl
leaf_eval g i (tree.command v (and_tree t ts)) p st e = absurd (cc e)
leaf_eval g i (tree.expr t) p st e = absurd (cc e)
leaf_eval g i (tree.branches vs last) p st e = absurd (cc e)
leaf_eval g i (tree.choice vs last) p st e = absurd (cc e)
leaf_eval g i (tree.loop s t n b) p st e = absurd (cc e)
leaf_eval g i (tree.each ts b) p st e = absurd (cc e)
leaf_eval g i (tree.switch k ts bs) p st e = absurd (cc e)
leaf_eval g i (tree.catch b) p st e = absurd (cc e)
leaf_eval g i (tree.catch_in b n) p st e = absurd (cc e)
leaf_eval g i tree.next_body p st e = refl
leaf_eval g i (tree.prefixed ops t) p st e = absurd (cc e)
leaf_eval g i (tree.row t os) p st e = absurd (cc e)
