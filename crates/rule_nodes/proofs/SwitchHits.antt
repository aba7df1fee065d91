-- The case and the body of a `switch`.
use Rattle.std.proofs.Common.{◌≡◌, refl, ap, ◌∙◌, ℕ, zero, suc, ◌+◌, ◌-◌, List, [], ◌∷◌, ◌++◌, length, take, drop, Bool, true, false, Option, Some, None, Ok}
use Rattle.std.proofs.Common.{arith, append_assoc}
use Rattle.std.specs.Prelude.{slice_get}
use Rattle.std.proofs.Math.Seq.{take-append_seam, drop-append_seam}
use Rattle.std.proofs.lemmas.List.{length-append}
use Rattle.tcl_trees.specs.Tree.{Tree, trees_of}
use Rattle.tcl_trees.specs.TreeView.{node_step, node_view, nodes_view}
use Rattle.tcl_trees.specs.declared.node.Node.{Node, fold_out-Node, map-Node, out-Node}
use Rattle.tcl_trees.specs.declared.node.Node.TheOpen.{Node-F}
use Rattle.tcl_vars.specs.Scopes.{Level}
use Rattle.rule_model.specs.Children.{is_next}
use Rattle.rule_model.specs.Control.{first_hit, hit_of, is_glob}
use Rattle.rule_nodes.specs.Choice.{first_body_of, is_next_in}
use Rattle.rule_nodes.specs.Short.{Brief, Purse, first_short, short, short_bodies, shortly}

get_seam : (os ps : List (List ℕ)) (x : List ℕ) → slice_get (os ++ x ∷ ps) (length os) ≡ Some x
get_seam [] ps x = refl
get_seam (o ∷ os) ps x = get_seam os ps x

pub hit_is : (os ps : List (List ℕ)) (x : List ℕ) (front : ℕ) (glob : Bool) → front ≡ length os + 1 → is_glob false os ≡ Some glob
    → hit_of front ((os ++ x ∷ []) ++ ps) ≡ Ok (first_hit glob x ps)
hit_is os ps x front glob at is =
    let before : front - 1 ≡ length os = omega arith in
    let end : front ≡ length (os ++ x ∷ []) = omega (arith, length-append os (x ∷ [])) in
    let options : take (front - 1) ((os ++ x ∷ []) ++ ps) ≡ os = rw (before, append_assoc) (take-append_seam os (x ∷ ps)) in
    let text : slice_get ((os ++ x ∷ []) ++ ps) (front - 1) ≡ Some x = rw (before, append_assoc) (get_seam os ps x) in
    let patterns : drop front ((os ++ x ∷ []) ++ ps) ≡ ps = rw end (drop-append_seam (os ++ x ∷ []) ps) in
    rw (options, is, text, patterns) refl

next_by : (f : Node-F Node) → is_next (node_step (map-Node Node Tree node_view f)) ≡ is_next_in f
next_by Node-F.NextBody = refl
next_by other = refl

next_is : (n : Node) → is_next (node_view n) ≡ is_next_in (out-Node n)
next_is n = ap is_next (fold_out-Node Tree node_step n) ∙ next_by (out-Node n)

-- what the first body comes to: none is the empty value
abbrev pub body_short : Option Level → Option Node → Brief
body_short level None p = Some (shortly [] p)
body_short level (Some n) p = short level (node_view n) p

bodies_behind : (level : Option Level) (k : ℕ) (ns : List Node)
    → drop k (short_bodies level (trees_of (nodes_view ns))) ≡ short_bodies level (trees_of (nodes_view (drop k ns)))
bodies_behind level zero ns = refl
bodies_behind level (suc k) [] = refl
bodies_behind level (suc k) (n ∷ ns) = bodies_behind level k ns

body_by : (level : Option Level) (n : Node) (ns : List Node) (p : Purse) (next : Bool) → is_next_in (out-Node n) ≡ next
    → first_short (short_bodies level (trees_of (nodes_view ns))) p ≡ body_short level (first_body_of ns) p
    → first_short (short_bodies level (trees_of (nodes_view (n ∷ ns)))) p ≡ body_short level (first_body_of (n ∷ ns)) p
body_by level n ns p true is h = rw (next_is n, is) h
body_by level n ns p false is h = rw (next_is n, is) refl

first_is : (level : Option Level) (ns : List Node) (p : Purse)
    → first_short (short_bodies level (trees_of (nodes_view ns))) p ≡ body_short level (first_body_of ns) p
first_is level [] p = refl
first_is level (n ∷ ns) p = body_by level n ns p (is_next_in (out-Node n)) refl (first_is level ns p)

pub body_is : (level : Option Level) (k : ℕ) (ns : List Node) (p : Purse)
    → first_short (drop k (short_bodies level (trees_of (nodes_view ns)))) p ≡ body_short level (first_body_of (drop k ns)) p
body_is level k ns p = ap (λ bs. first_short bs p) (bodies_behind level k ns) ∙ first_is level (drop k ns) p
