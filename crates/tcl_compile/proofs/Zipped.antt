-- Values that were had beside others.
use Rattle.std.proofs.Common.{◌≡◌, ap, sym, subst, ◌∙◌}
use Rattle.std.specs.Prelude.{Result, Ok, IfOk, is_ok, if◌then◌else◌}
use Rattle.tcl_trees.specs.Tree.{Tree}
use Rattle.tcl_trees.specs.TreeView.{node_view}
use Rattle.tcl_trees.specs.declared.node.Node.{Node}

-- what holds of the value that was had
pub ok_is : {X E : Type 0} (P : X → Type 0) {r : Result X E} {x : X} → IfOk r P → r ≡ Ok x → P x
ok_is P told is = subst (λ s. IfOk s P) is told

-- what a push leaves that was done
pub pushed : {X A E : Type 0} {r : Result X E} {x : X} {new : A} (more same : A)
    → new ≡ (if is_ok r then more else same) → r ≡ Ok x → new ≡ more
pushed {new = new} more same told is = subst (λ s. new ≡ (if is_ok s then more else same)) is told

-- a node that was kept is the one that was made
pub kept : {S : Type 0} {m : Tree × S} {n k : Node} {s : S} → m ≡ (node_view n, s) → k ≡ n → m ≡ (node_view k, s)
kept {s = s} made is = made ∙ ap (λ x. (node_view x, s)) (sym is)

pub kept_beside : {S T : Type 0} {m : (Tree × T) × S} {n k : Node} {t : T} {s : S} → m ≡ ((node_view n, t), s) → k ≡ n
    → m ≡ ((node_view k, t), s)
kept_beside {t = t} {s = s} made is = made ∙ ap (λ x. ((node_view x, t), s)) (sym is)
