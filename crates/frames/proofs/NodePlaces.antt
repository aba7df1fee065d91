-- Places in lists.
use Rattle.std.proofs.Common.{◌≡◌, refl, ap, ◌∙◌, sym, ℕ, zero, suc, ◌+◌, ◌*◌, ◌-◌, ◌/◌, ◌%◌, ◌<◌, ◌≤◌, List, [], ◌∷◌, ◌++◌, length, get_or, map, arith, Some, slice_get, true, false, nat_lt}
use Rattle.std.proofs.lemmas.Nat.{div-add-mod'}
use Rattle.std.proofs.lemmas.Bool.Decides.{nat_tests}
use Rattle.std.proofs.lemmas.Option.{slice_get_read}
use Rattle.std.proofs.lemmas.List.{get_or_past, length-map}
use Rattle.tcl_expr.specs.declared.expr.Joint.{Joint}
use Rattle.tcl_trees.specs.declared.node.Node.{Node}
use Rattle.frames.specs.Nodes.{both_nodes}

at_both : (vs : List (Node × Node)) (more : List Node) (q : ℕ) (v : Node × Node) (d : Node) → slice_get vs q ≡ Some v
    → (get_or (both_nodes vs ++ more) (q + q) d ≡ v.0) × (get_or (both_nodes vs ++ more) (q + q + 1) d ≡ v.1)
at_both [] more q v d e = absurd (cc e)
at_both (w ∷ vs) more zero v d e = let s : w ≡ v = cc e in rw s (refl, refl)
at_both (w ∷ vs) more (suc q) v d e =
    let r = at_both vs more q v d e in
    let a : suc q + suc q ≡ suc (suc (q + q)) = omega arith in
    let b : suc q + suc q + 1 ≡ suc (suc (q + q + 1)) = omega arith in
    (rw a r.0, rw b r.1)

pub below : (i n : ℕ) → true ≡ nat_lt i n → i < n
below i n h = grind (arith, nat_tests)

pub not_below : (i n : ℕ) → false ≡ nat_lt i n → n ≤ i
not_below i n h = grind (arith, nat_tests)

pub even_both : (vs : List (Node × Node)) (more : List Node) (k : ℕ) (v : Node × Node) (d : Node) → true ≡ nat_lt (k / 2) (length vs) → v ≡ get_or vs (k / 2) v → k % 2 ≡ 0 → v.0 ≡ get_or (both_nodes vs ++ more) k d
even_both vs more k v d b is r =
    let e = slice_get_read vs (length vs) (k / 2) v refl (below _ _ b) is in
    let s = div-add-mod' k 2 in
    let a : k / 2 + k / 2 ≡ k = omega (arith, s, r) in
    sym (ap (λ n. get_or (both_nodes vs ++ more) n d) (sym a) ∙ (at_both vs more (k / 2) v d e).0)

pub odd_both : (vs : List (Node × Node)) (more : List Node) (k : ℕ) (v : Node × Node) (d : Node) → true ≡ nat_lt (k / 2) (length vs) → v ≡ get_or vs (k / 2) v → (k % 2 ≡ 0 → ⊥) → k % 2 < 2 → v.1 ≡ get_or (both_nodes vs ++ more) k d
odd_both vs more k v d b is r l =
    let e = slice_get_read vs (length vs) (k / 2) v refl (below _ _ b) is in
    let s = div-add-mod' k 2 in
    let o : k % 2 ≡ 1 = one_of (k % 2) r l in
    let a : k / 2 + k / 2 + 1 ≡ k = omega (arith, s, o) in
    sym (ap (λ n. get_or (both_nodes vs ++ more) n d) (sym a) ∙ (at_both vs more (k / 2) v d e).1)
  where
    one_of : (n : ℕ) → (n ≡ 0 → ⊥) → n < 2 → n ≡ 1
    one_of zero r l = absurd (r refl)
    one_of (suc n) r l = omega (arith, l)

past_both : (vs : List (Node × Node)) (more : List Node) (k : ℕ) (d : Node) → get_or (both_nodes vs ++ more) (2 * length vs + k) d ≡ get_or more k d
past_both [] more k d = let a : 2 * 0 + k ≡ k = omega arith in ap (λ n. get_or more n d) a
past_both (w ∷ vs) more k d =
    let a : 2 * length (w ∷ vs) + k ≡ suc (suc (2 * length vs + k)) = omega arith in
    rw a (past_both vs more k d)

pub behind_both : (vs : List (Node × Node)) (more : List Node) (k : ℕ) (d : Node) → false ≡ nat_lt (k / 2) (length vs) → get_or more (k - 2 * length vs) d ≡ get_or (both_nodes vs ++ more) k d
behind_both vs more k d b =
    let q = not_below _ _ b in
    let s = div-add-mod' k 2 in
    let h : 2 * length vs ≤ k = omega (arith, q, s) in
    let a : 2 * length vs + (k - 2 * length vs) ≡ k = omega (arith, h) in
    sym (ap (λ n. get_or (both_nodes vs ++ more) n d) (sym a) ∙ past_both vs more (k - 2 * length vs) d)

map_there : (rest : List (Joint × Node)) (n : ℕ) (o : Joint × Node) (d : Node) → slice_get rest n ≡ Some o → o.1 ≡ get_or (map (λ r. r.1) rest) n d
map_there [] n o d e = absurd (cc e)
map_there (r ∷ rest) zero o d e = let s : r ≡ o = cc e in ap (λ x. x.1) (sym s)
map_there (r ∷ rest) (suc n) o d e = map_there rest n o d e

pred : (n : ℕ) → suc n - 1 ≡ n
pred n = omega arith

pub row_there : (first : Node) (rest : List (Joint × Node)) (k : ℕ) (o : Joint × Node) (d : Node) → (k ≡ 0 → ⊥) → true ≡ nat_lt (k - 1) (length rest) → o ≡ get_or rest (k - 1) o → o.1 ≡ get_or (first ∷ map (λ r. r.1) rest) k d
row_there first rest zero o d z b is = absurd (z refl)
row_there first rest (suc n) o d z b is =
    let i : o ≡ get_or rest n o = is ∙ ap (λ m. get_or rest m o) (pred n) in
    let l : n < length rest = below n (length rest) (b ∙ ap (λ m. nat_lt m (length rest)) (pred n)) in
    map_there rest n o d (slice_get_read rest (length rest) n o refl l i)

pub row_past : (first : Node) (rest : List (Joint × Node)) (k : ℕ) (d : Node) → (k ≡ 0 → ⊥) → false ≡ nat_lt (k - 1) (length rest) → d ≡ get_or (first ∷ map (λ r. r.1) rest) k d
row_past first rest zero d z b = absurd (z refl)
row_past first rest (suc n) d z b =
    let l : length rest ≤ n = not_below n (length rest) (b ∙ ap (λ m. nat_lt m (length rest)) (pred n)) in
    sym (get_or_past (map (λ r. r.1) rest) n d (rw (length-map rest (λ r. r.1)) l))
