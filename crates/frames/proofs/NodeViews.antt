-- The children of nodes and of their trees.
use Rattle.std.proofs.Common.{◌≡◌, refl, ap, ◌∙◌, sym, ℕ, List, [], ◌∷◌, ◌++◌, map, get_or}
use Rattle.std.proofs.Math.ListN.{get_or-map}
use Rattle.tcl_expr.specs.declared.expr.Joint.{Joint}
use Rattle.tcl_trees.specs.Tree.{Tree, trees_of, operands_of, values_of}
use Rattle.tcl_trees.specs.Tree as tree
use Rattle.tcl_trees.specs.TreeView.{node_step, node_view, nodes_view, operands_view, values_view}
use Rattle.tcl_trees.specs.declared.node.Node.{Node, out-Node, map-Node, fold_out-Node}
use Rattle.tcl_trees.specs.declared.node.Node.TheOpen.{Node-F}
use Rattle.rule_nodes.specs.Parts.{or_alone, parts_in}
use Rattle.frames.specs.Children.{all, behind, both, children, child_at, commands_of, is_script, parts_of, pieces_of, words_of}
use Rattle.frames.specs.Nodes.{both_nodes, children_in, commands_in, is_script_in, pieces_in, words_in}

-- a node's tree by what it is one level down
abbrev pub step_of : Node-F Node → Tree
step_of f = node_step (map-Node Node Tree node_view f)

pub viewed : (n : Node) → node_view n ≡ step_of (out-Node n)
viewed n = fold_out-Node Tree node_step n

pub all_trees : (ts : List Tree) → all (trees_of ts) ≡ ts
all_trees [] = refl
all_trees (t ∷ ts) = ap (λ l. t ∷ l) (all_trees ts)

map_both : (xs ys : List Node) → nodes_view (xs ++ ys) ≡ nodes_view xs ++ nodes_view ys
map_both [] ys = refl
map_both (x ∷ xs) ys = ap (λ l. node_view x ∷ l) (map_both xs ys)

behind_view : (os : List (Joint × Node)) → nodes_view (map (λ o. o.1) os) ≡ behind (operands_of (operands_view os))
behind_view [] = refl
behind_view (o ∷ os) = ap (λ l. node_view o.1 ∷ l) (behind_view os)

both_view : (vs : List (Node × Node)) (last : Node) → nodes_view (both_nodes vs ++ last ∷ []) ≡ both (values_of (values_view vs)) ++ node_view last ∷ []
both_view [] last = refl
both_view (v ∷ vs) last = ap (λ l. node_view v.0 ∷ node_view v.1 ∷ l) (both_view vs last)

children_by : (f : Node-F Node) → nodes_view (children_in f) ≡ children (step_of f)
children_by (Node-F.Plain text) = refl
children_by (Node-F.Variable name) = refl
children_by (Node-F.Element name ns) = sym (all_trees (nodes_view ns.items))
children_by (Node-F.Word ns) = sym (all_trees (nodes_view ns.items))
children_by (Node-F.Script ns) = sym (all_trees (nodes_view ns.items))
children_by (Node-F.Command v ns) = sym (all_trees (nodes_view ns.items))
children_by (Node-F.Expr e) = refl
children_by (Node-F.If vs last) = both_view vs.items last.value
children_by (Node-F.Loop s t n b) = refl
children_by (Node-F.Foreach ws b) = map_both ws.items (b.value ∷ []) ∙ ap (λ l. l ++ node_view b.value ∷ []) (sym (all_trees (nodes_view ws.items)))
children_by (Node-F.Switch k ws bs) = rw (all_trees (nodes_view ws.items), all_trees (nodes_view bs.items)) (map_both ws.items bs.items)
children_by (Node-F.Catch b) = refl
children_by (Node-F.CatchIn b n) = refl
children_by Node-F.NextBody = refl
children_by (Node-F.Prefixed ops e) = refl
children_by (Node-F.Row first rest) = ap (λ l. node_view first.value ∷ l) (behind_view rest.items)
children_by (Node-F.Choice vs last) = both_view vs.items last.value

pub children_view : (n : Node) → nodes_view (children_in (out-Node n)) ≡ children (node_view n)
children_view n = children_by (out-Node n) ∙ ap children (sym (viewed n))

pub child_view : (n : Node) (k : ℕ) → node_view (get_or (children_in (out-Node n)) k n) ≡ child_at (node_view n) k
child_view n k = sym (get_or-map node_view (children_in (out-Node n)) k n) ∙ ap (λ l. get_or l k (node_view n)) (children_view n)

commands_by : (f : Node-F Node) → nodes_view (commands_in f) ≡ commands_of (step_of f)
commands_by (Node-F.Script ns) = sym (all_trees (nodes_view ns.items))
commands_by (Node-F.Plain text) = refl
commands_by (Node-F.Variable name) = refl
commands_by (Node-F.Element name ns) = refl
commands_by (Node-F.Word ns) = refl
commands_by (Node-F.Command v ns) = refl
commands_by (Node-F.Expr e) = refl
commands_by (Node-F.If vs last) = refl
commands_by (Node-F.Loop s t n b) = refl
commands_by (Node-F.Foreach ws b) = refl
commands_by (Node-F.Switch k ws bs) = refl
commands_by (Node-F.Catch b) = refl
commands_by (Node-F.CatchIn b n) = refl
commands_by Node-F.NextBody = refl
commands_by (Node-F.Prefixed ops e) = refl
commands_by (Node-F.Row first rest) = refl
commands_by (Node-F.Choice vs last) = refl

pub commands_view : (n : Node) → nodes_view (commands_in (out-Node n)) ≡ commands_of (node_view n)
commands_view n = commands_by (out-Node n) ∙ ap commands_of (sym (viewed n))

pieces_by : (f : Node-F Node) → nodes_view (pieces_in f) ≡ pieces_of (step_of f)
pieces_by (Node-F.Word ns) = sym (all_trees (nodes_view ns.items))
pieces_by (Node-F.Element name ns) = sym (all_trees (nodes_view ns.items))
pieces_by (Node-F.Plain text) = refl
pieces_by (Node-F.Variable name) = refl
pieces_by (Node-F.Script ns) = refl
pieces_by (Node-F.Command v ns) = refl
pieces_by (Node-F.Expr e) = refl
pieces_by (Node-F.If vs last) = refl
pieces_by (Node-F.Loop s t n b) = refl
pieces_by (Node-F.Foreach ws b) = refl
pieces_by (Node-F.Switch k ws bs) = refl
pieces_by (Node-F.Catch b) = refl
pieces_by (Node-F.CatchIn b n) = refl
pieces_by Node-F.NextBody = refl
pieces_by (Node-F.Prefixed ops e) = refl
pieces_by (Node-F.Row first rest) = refl
pieces_by (Node-F.Choice vs last) = refl

pub pieces_view : (n : Node) → nodes_view (pieces_in (out-Node n)) ≡ pieces_of (node_view n)
pieces_view n = pieces_by (out-Node n) ∙ ap pieces_of (sym (viewed n))

words_by : (f : Node-F Node) → nodes_view (words_in f) ≡ words_of (step_of f)
words_by (Node-F.Command v ns) = sym (all_trees (nodes_view ns.items))
words_by (Node-F.Foreach ws b) = sym (all_trees (nodes_view ws.items))
words_by (Node-F.Switch k ws bs) = sym (all_trees (nodes_view ws.items))
words_by (Node-F.Plain text) = refl
words_by (Node-F.Variable name) = refl
words_by (Node-F.Element name ns) = refl
words_by (Node-F.Word ns) = refl
words_by (Node-F.Script ns) = refl
words_by (Node-F.Expr e) = refl
words_by (Node-F.If vs last) = refl
words_by (Node-F.Loop s t n b) = refl
words_by (Node-F.Catch b) = refl
words_by (Node-F.CatchIn b n) = refl
words_by Node-F.NextBody = refl
words_by (Node-F.Prefixed ops e) = refl
words_by (Node-F.Row first rest) = refl
words_by (Node-F.Choice vs last) = refl

pub words_view : (n : Node) → nodes_view (words_in (out-Node n)) ≡ words_of (node_view n)
words_view n = words_by (out-Node n) ∙ ap words_of (sym (viewed n))

word_parts : (ns : List Node) (m : Node) → node_view m ≡ tree.word (trees_of (nodes_view ns)) → nodes_view (or_alone ns m) ≡ parts_of (tree.word (trees_of (nodes_view ns)))
word_parts [] m e = ap (λ x. x ∷ []) e
word_parts (n ∷ ns) m e = ap (λ l. node_view n ∷ l) (sym (all_trees (nodes_view ns)))

parts_by : (f : Node-F Node) (m : Node) → node_view m ≡ step_of f → nodes_view (parts_in f m) ≡ parts_of (step_of f)
parts_by (Node-F.Word ns) m e = word_parts ns.items m e
parts_by (Node-F.Plain text) m e = ap (λ x. x ∷ []) e
parts_by (Node-F.Variable name) m e = ap (λ x. x ∷ []) e
parts_by (Node-F.Element name ns) m e = ap (λ x. x ∷ []) e
parts_by (Node-F.Script ns) m e = ap (λ x. x ∷ []) e
parts_by (Node-F.Command v ns) m e = ap (λ x. x ∷ []) e
parts_by (Node-F.Expr x) m e = ap (λ x. x ∷ []) e
parts_by (Node-F.If vs last) m e = ap (λ x. x ∷ []) e
parts_by (Node-F.Loop a t n b) m e = ap (λ x. x ∷ []) e
parts_by (Node-F.Foreach ws b) m e = ap (λ x. x ∷ []) e
parts_by (Node-F.Switch k ws bs) m e = ap (λ x. x ∷ []) e
parts_by (Node-F.Catch b) m e = ap (λ x. x ∷ []) e
parts_by (Node-F.CatchIn b n) m e = ap (λ x. x ∷ []) e
parts_by Node-F.NextBody m e = ap (λ x. x ∷ []) e
parts_by (Node-F.Prefixed ops x) m e = ap (λ x. x ∷ []) e
parts_by (Node-F.Row first rest) m e = ap (λ x. x ∷ []) e
parts_by (Node-F.Choice vs last) m e = ap (λ x. x ∷ []) e

pub parts_view : (n : Node) → nodes_view (parts_in (out-Node n) n) ≡ parts_of (node_view n)
parts_view n = parts_by (out-Node n) n (viewed n) ∙ ap parts_of (sym (viewed n))

pub part_view : (n : Node) (k : ℕ) → node_view (get_or (parts_in (out-Node n) n) k n) ≡ get_or (parts_of (node_view n)) k (node_view n)
part_view n k = sym (get_or-map node_view (parts_in (out-Node n) n) k n) ∙ ap (λ l. get_or l k (node_view n)) (parts_view n)

script_by : (f : Node-F Node) → is_script_in f ≡ is_script (step_of f)
script_by (Node-F.Script ns) = refl
script_by other = refl

pub is_script_view : (n : Node) → is_script_in (out-Node n) ≡ is_script (node_view n)
is_script_view n = script_by (out-Node n) ∙ ap is_script (sym (viewed n))
