-- One step more along a row of operators, and along the bodies of a `switch`.
use Rattle.std.proofs.Common.{◌≡◌, refl, ap, ◌∙◌, sym, ℕ, suc, ◌+◌, ◌-◌, ◌<◌, List, [], ◌∷◌, length, drop, get_or, Bool, true, false, arith}
use Rattle.std.proofs.Math.ListN.{get_or-map}
use Rattle.std.proofs.lemmas.List.{drop_more, length-drop, length-map}
use Rattle.tcl_expr.specs.declared.expr.Joint.{Joint}
use Rattle.tcl_trees.specs.Tree.{Tree}
use Rattle.tcl_trees.specs.TreeView.{node_view, nodes_view, operands_view}
use Rattle.tcl_trees.specs.declared.node.Node.{Node}
use Rattle.rule_model.specs.Children.{is_next}
use Rattle.frame_loops.specs.Branches.{within}
use Rattle.frames.specs.Counted.{given, counted_after}
use Rattle.frames.specs.Reads.{Known}
use Rattle.frame_loops.specs.Rows.{joined_to, on_joined, row_from}
use Rattle.frame_loops.specs.Switches.{first_within}
use Rattle.frame_loops.specs.declared.rows.Joined.TheVariants as joined
use Rattle.frame_loops.specs.declared.rows.Rowed.{Rowed}
use Rattle.frame_loops.specs.declared.rows.Rowed.TheVariants as rowed

abbrev seen : Joint × Node → Joint × Tree
seen o = (o.0, node_view o.1)

pub operand_here : (ns : List (Joint × Node)) (i : ℕ) (n : Joint × Node) → n ≡ get_or ns i n → i < length ns
    → drop i (operands_view ns) ≡ (n.0, node_view n.1) ∷ drop (i + 1) (operands_view ns)
operand_here ns i n at h =
    drop_more (operands_view ns) i (seen n) (rw (length-map ns seen) h)
    ∙ ap (λ t. t ∷ drop (i + 1) (operands_view ns)) (get_or-map seen ns i n ∙ ap seen (sym at))

pub body_here : (ns : List Node) (i : ℕ) (n : Node) → n ≡ get_or ns i n → i < length ns
    → drop i (nodes_view ns) ≡ node_view n ∷ drop (i + 1) (nodes_view ns)
body_here ns i n at h =
    drop_more (nodes_view ns) i (node_view n) (rw (length-map ns node_view) h)
    ∙ ap (λ t. t ∷ drop (i + 1) (nodes_view ns)) (get_or-map node_view ns i n ∙ ap node_view (sym at))

stays_by : (k : Known) (n at : ℕ) (l : List (Joint × Tree)) (left : List ℕ) → 0 < length l → n ≡ 0
    → row_from k n at l left ≡ given (rowed.Stays at left)
stays_by k n at [] left some z = absurd (omega (arith, some))
stays_by k n at (o ∷ os) left some z = rw z refl

pub row_stays : (k : Known) (n at : ℕ) (ns : List (Joint × Node)) (left : List ℕ) → at < length ns → n ≡ 0
    → row_from k n at (drop at (operands_view ns)) left ≡ given (rowed.Stays at left)
row_stays k n at ns left h z =
    let a : length (drop at (operands_view ns)) ≡ length (operands_view ns) - at =
    length-drop at (operands_view ns) in
    let b : length (operands_view ns) ≡ length ns = length-map ns seen in
    stays_by k n at (drop at (operands_view ns)) left (omega (arith, a, b, h)) z

pub row_ends : (k : Known) (m n at : ℕ) (all rest : List (Joint × Tree)) (o : Joint × Tree) (left : List ℕ)
    (r : Rowed) → n ≡ suc m → all ≡ o ∷ rest → joined.Ends r ≡ (joined_to k (at + 1) o.0 o.1 left).value →
    row_from k n at all left ≡ counted_after (joined_to k (at + 1) o.0 o.1 left).cost
    (joined_to k (at + 1) o.0 o.1 left).ticks (given r)
row_ends k m n at all rest o left r e f v =
    rw (e, f) (ap (λ j. counted_after (joined_to k (at + 1) o.0 o.1 left).cost
    (joined_to k (at + 1) o.0 o.1 left).ticks (on_joined j (row_from k m (at + 1) rest))) (sym v))

pub row_goes : (k : Known) (m n at : ℕ) (all rest : List (Joint × Tree)) (o : Joint × Tree) (left w : List ℕ)
    → n ≡ suc m → all ≡ o ∷ rest → joined.Goes w ≡ (joined_to k (at + 1) o.0 o.1 left).value →
    row_from k n at all left ≡ counted_after (joined_to k (at + 1) o.0 o.1 left).cost
    (joined_to k (at + 1) o.0 o.1 left).ticks (row_from k m (at + 1) rest w)
row_goes k m n at all rest o left w e f v =
    rw (e, f) (ap (λ j. counted_after (joined_to k (at + 1) o.0 o.1 left).cost
    (joined_to k (at + 1) o.0 o.1 left).ticks (on_joined j (row_from k m (at + 1) rest))) (sym v))

pub first_here : (k : Known) (place : ℕ) (l rest : List Tree) (b : Tree) (w : Bool) → l ≡ b ∷ rest
    → is_next b ≡ false → first_within k place l w ≡ within k b place w
first_here k place l rest b w e f = rw (e, f) refl

pub first_more : (k : Known) (place : ℕ) (l rest : List Tree) (b : Tree) (w : Bool) → l ≡ b ∷ rest
    → is_next b ≡ true → first_within k place l w ≡ first_within k (place + 1) rest w
first_more k place l rest b w e f = rw (e, f) refl
