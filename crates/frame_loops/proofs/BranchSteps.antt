-- The condition of a number, with the body beside it.
use Rattle.std.proofs.Common.{◌≡◌, refl, ℕ, suc, zero, ◌+◌, List, [], ◌∷◌, drop, Some, None, true, false, arith}
use Rattle.std.specs.Prelude.{slice_get}
use Rattle.tcl_trees.specs.TreeView.{node_view, values_view}
use Rattle.tcl_trees.specs.declared.node.Node.{Node}
use Rattle.frame_loops.specs.Branches.{Choices, condition_move, told_by, value_move}
use Rattle.frames.specs.Reads.{Known}

pub none_here : (vs : List (Node × Node)) (at : ℕ) → None ≡ slice_get vs at → drop at (values_view vs) ≡ []
none_here [] zero e = refl
none_here [] (suc at) e = refl
none_here (v ∷ vs) zero e = absurd (cc e)
none_here (v ∷ vs) (suc at) e = none_here vs at e

pub pair_here : (vs : List (Node × Node)) (at : ℕ) (v : Node × Node) → Some v ≡ slice_get vs at
    → drop at (values_view vs) ≡ (node_view v.0, node_view v.1) ∷ drop (at + 1) (values_view vs)
pair_here [] zero v e = absurd (cc e)
pair_here [] (suc at) v e = absurd (cc e)
pair_here (x ∷ vs) zero v e = let h : v ≡ x = cc e in rw h refl
pair_here (x ∷ vs) (suc at) v e =
    let n : suc at + 1 ≡ suc (at + 1) = omega arith in
    rw n (pair_here vs at v e)

pub told_true : (k : Known) (c : Choices) (at : ℕ) (vs : List (Node × Node)) (v : Node × Node)
    → Some v ≡ slice_get vs at → told_by k c at (drop at (values_view vs)) true
    ≡ value_move k c (node_view v.1) (at + at + 1)
told_true k c at vs v e = rw (pair_here vs at v e) refl

pub told_false : (k : Known) (c : Choices) (at : ℕ) (vs : List (Node × Node)) (v : Node × Node)
    → Some v ≡ slice_get vs at → told_by k c at (drop at (values_view vs)) false
    ≡ condition_move k c (at + 1) (drop (at + 1) (values_view vs))
told_false k c at vs v e = rw (pair_here vs at v e) refl
