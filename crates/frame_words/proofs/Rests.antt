-- What is left of a list of nodes.
use Rattle.std.proofs.Common.{◌≡◌, ap, ◌∙◌, sym, ℕ, suc, zero, ◌+◌, ◌<◌, List, [], ◌∷◌, length, drop, get_or, add-one}
use Rattle.std.proofs.Math.ListN.{get_or-map}
use Rattle.std.proofs.lemmas.List.{drop_more, length-map}
use Rattle.tcl_trees.specs.TreeView.{node_view, nodes_view}
use Rattle.tcl_trees.specs.declared.node.Node.{Node}

pub node_here : (ns : List Node) (i : ℕ) (n : Node) → n ≡ get_or ns i n → i < length ns
    → drop i (nodes_view ns) ≡ node_view n ∷ drop (i + 1) (nodes_view ns)
node_here ns i n at h =
    drop_more (nodes_view ns) i (node_view n) (rw (length-map ns node_view) h)
    ∙ ap (λ t. t ∷ drop (i + 1) (nodes_view ns)) (get_or-map node_view ns i n ∙ ap node_view (sym at))

-- the head and the tail of what is left of a list
pub head_at : {A : Type 0} (xs : List A) (k : ℕ) (x d : A) (ys : List A) → x ∷ ys ≡ drop k xs
    → get_or xs k d ≡ x
head_at [] zero x d ys e = cc
head_at [] (suc k) x d ys e = cc
head_at (z ∷ zs) zero x d ys e = cc
head_at (z ∷ zs) (suc k) x d ys e = head_at zs k x d ys e

tail_suc : {A : Type 0} (xs : List A) (k : ℕ) (x : A) (ys : List A) → x ∷ ys ≡ drop k xs
    → ys ≡ drop (suc k) xs
tail_suc [] zero x ys e = absurd (cc e)
tail_suc [] (suc k) x ys e = absurd (cc e)
tail_suc (z ∷ zs) zero x ys e = cc
tail_suc (z ∷ zs) (suc k) x ys e = tail_suc zs k x ys e

pub tail_at : {A : Type 0} (xs : List A) (k : ℕ) (x : A) (ys : List A) → x ∷ ys ≡ drop k xs
    → ys ≡ drop (k + 1) xs
tail_at xs k x ys e = rw add-one (tail_suc xs k x ys e)
