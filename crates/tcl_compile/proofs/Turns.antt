-- The turns of loops that gather what items give.
use Rattle.std.proofs.Common.{◌≡◌, ℕ, ◌+◌, ◌<◌, arith, List, [], ◌∷◌, ◌++◌, length, get_or, take, map, Bool}
use Rattle.std.proofs.Common.{refl, sym, ap, ap₂, ◌∙◌}
use Rattle.std.specs.Prelude.{false, ◌==◌}
use Rattle.std.proofs.lemmas.Bool.Decides.{nat_tests}
use Rattle.std.proofs.lemmas.List.{append-nil, append_assoc, map_more, map-append}
use Rattle.tcl_trees.specs.Making.{Made, Cases, gathered, in_turn, is_end}
use Rattle.tcl_trees.specs.Tree.{Tree}
use Rattle.tcl_trees.specs.TreeView.{node_view, nodes_view, values_view}
use Rattle.tcl_trees.specs.declared.findings.Findings.{Findings}
use Rattle.tcl_trees.specs.declared.node.Node.{Node}

module _ {A B : Type 0} (item : A → Findings → Made B) where
  abbrev followed : Made (List B) → Made B → Made (List B)
  followed r q = (r.0 ++ q.0 ∷ [], q.1)

  -- one item more
  gathered_more : (xs : List A) (x : A) (s : Findings)
      → gathered item (xs ++ x ∷ []) s
      ≡ followed (gathered item xs s) (item x (gathered item xs s).1)
  unfolding gathered
  gathered_more [] x s = refl
  gathered_more (a ∷ xs) x s =
      let first = item a s in ap (λ g. (first.0 ∷ g.0, g.1)) (gathered_more xs x first.1)

  pub gathered_none : (s : Findings) → gathered item [] s ≡ ([], s)
  unfolding gathered
  gathered_none s = refl

  pub gathered_turn : {X : Type 0} (view : X → A) (xs : List X) (i : ℕ) (x : X) → i < length xs
      → x ≡ get_or xs i x → (s s1 s2 : Findings) (done : List B) (more : B)
      → gathered item (map view (take i xs)) s ≡ (done, s1) → item (view x) s1 ≡ (more, s2)
      → gathered item (map view (take (i + 1) xs)) s ≡ (done ++ more ∷ [], s2)
  gathered_turn view xs i x there is s s1 s2 done more so now =
      let seen = map view (take i xs) in
      ap (λ l. gathered item l s)
      (map_more view xs i x there ∙ ap (λ y. seen ++ view y ∷ []) (sym is))
      ∙ gathered_more seen (view x) s
      ∙ ap (λ r. followed r (item (view x) r.1)) so
      ∙ ap (followed (done, s1)) now

-- one node more
pub nodes_push : (done new : List Node) (n : Node) → new ≡ done ++ n ∷ []
    → nodes_view done ++ node_view n ∷ [] ≡ nodes_view new
nodes_push done new n e = sym (map-append node_view done (n ∷ [])) ∙ ap nodes_view (sym e)

pub values_push : (done new : List (Node × Node)) (n m : Node) → new ≡ done ++ (n, m) ∷ []
    → values_view done ++ (node_view n, node_view m) ∷ [] ≡ values_view new
values_push done new n m e =
    sym (map-append (λ c. (node_view c.0, node_view c.1)) done ((n, m) ∷ [])) ∙ ap values_view (sym e)

-- a condition and its body
abbrev pub arm_of : Made Tree → Made Tree → Made (Tree × Tree)
arm_of c b = ((c.0, b.0), b.1)

-- patterns and bodies, and those behind them
abbrev pub cases_then : Cases → Made Cases → Made Cases
cases_then done r = ((done.0 ++ r.0.0, done.1 ++ r.0.1), r.1)

abbrev one_more : Cases → Tree → Tree → Cases
one_more done p b = (done.0 ++ p ∷ [], done.1 ++ b ∷ [])

module _ {A : Type 0} (pattern : A → Findings → Made Tree) (body : Bool → A → Findings → Made Tree) where
  abbrev with_case : List A → Made Tree → Made Tree → Made Cases
  with_case items r t =
      let rest = in_turn pattern body items t.1 in ((r.0 ∷ rest.0.0, t.0 ∷ rest.0.1), rest.1)

  pub cases_turn : (all : Made Cases) (done : Cases) (a b : A) (items : List A) (p q : Tree) (s s1 s2 : Findings)
      → all ≡ cases_then done (in_turn pattern body (a ∷ b ∷ items) s) → pattern a s ≡ (p, s1)
      → body (is_end items) b s1 ≡ (q, s2)
      → all ≡ cases_then (one_more done p q) (in_turn pattern body items s2)
  unfolding in_turn
  cases_turn all done a b items p q s s1 s2 so first second =
      let rest = in_turn pattern body items s2 in
      so
      ∙ ap (λ r. cases_then done (with_case items r (body (is_end items) b r.1))) first
      ∙ ap (λ r. cases_then done (with_case items (p, s1) r)) second
      ∙ ap₂ (λ x y. ((x, y), rest.1)) (sym (append_assoc done.0 (p ∷ []) rest.0.0))
      (sym (append_assoc done.1 (q ∷ []) rest.0.1))

  pub cases_end : (all : Made Cases) (done : Cases) (items : List A) (s : Findings) → length items < 2
      → all ≡ cases_then done (in_turn pattern body items s) → all ≡ (done, s)
  unfolding in_turn
  cases_end all done [] s few so = so ∙ ap₂ (λ x y. ((x, y), s)) (append-nil done.0) (append-nil done.1)
  cases_end all done (a ∷ []) s few so = so ∙ ap₂ (λ x y. ((x, y), s)) (append-nil done.0) (append-nil done.1)
  cases_end all done (a ∷ b ∷ items) s few so = absurd (omega arith)

end_is : {A : Type 0} (xs : List A) (r : Bool) → r ≡ (length xs == 0) → r ≡ is_end xs
end_is [] r e = e
end_is (x ∷ xs) r e = let some : (length (x ∷ xs) == 0) ≡ false = grind (arith, nat_tests) in e ∙ some

pub end_seen : {A X : Type 0} (view : X → A) (xs : List X) (r : Bool) → r ≡ (length xs == 0)
    → is_end (map view xs) ≡ r
end_seen view [] r e = sym e
end_seen view (x ∷ xs) r e = sym (end_is (x ∷ xs) r e)

pub end_told : {A : Type 0} (xs : List A) (r : Bool) → r ≡ (length xs == 0) → is_end xs ≡ r
end_told xs r e = sym (end_is xs r e)
