-- The operands of an expression, one after another.
use Rattle.std.proofs.Common.{◌≡◌, ℕ, ◌+◌, ◌<◌, List, [], ◌∷◌, ◌++◌, length, get_or, take, rules}
use Rattle.std.proofs.Common.{Vec, refl, sym, ap, ◌∙◌}
use Rattle.std.specs.declared.alloc.Global.{Global}
use Rattle.std.proofs.lemmas.List.{take_more, map-append}
use Rattle.tcl_expr.specs.Expression.{joined}
use Rattle.tcl_expr.specs.ExpressionView.{expr_view, more_view, cases_view}
use Rattle.tcl_expr.specs.declared.expr.Expr as code
use Rattle.tcl_expr.specs.declared.expr.Expr.{Parts, the_lemmas}
use Rattle.tcl_expr.specs.declared.expr.Joint.{Joint}
use Rattle.tcl_words.specs.View.{parts_view}
use Rattle.tcl_words.specs.declared.script.Part as code_part
use Rattle.tcl_trees.specs.Conditions.{MadeTo, expression_at, operands_at, values_at}
use Rattle.tcl_trees.specs.Conditions.{operand_of, value_of}
use Rattle.tcl_trees.specs.Making.{Level}
use Rattle.tcl_trees.specs.Tree.{Tree}
use Rattle.tcl_trees.specs.TreeView.{node_view, operands_view, values_view}
use Rattle.tcl_trees.specs.declared.findings.Findings.{Findings}
use Rattle.tcl_trees.specs.declared.node.Node.{Node}
use Rattle.tcl_trees.specs.declared.opened.Opened.{Opened}

pub view-Parts : (ps : Vec code_part.Part Global) → expr_view (Parts ps) ≡ joined (parts_view ps.items)
view-Parts ps = search (rules, the_lemmas)

module _ (level : Level) (base : ℕ) (text : List ℕ) where
  abbrev more_after : Joint → MadeTo (List (Joint × Tree)) → MadeTo Tree → MadeTo (List (Joint × Tree))
  more_after o r q = ((r.0.0 ++ (o, q.0.0) ∷ [], q.0.1), q.1)

  abbrev then_at : {A : Type 0} → code.Expr → MadeTo A → MadeTo Tree
  then_at e r = expression_at level base text (expr_view e) r.0.1 r.1

  operands_more : (xs : List (Joint × code.Expr)) (x : Joint × code.Expr) (o : Opened) (s : Findings)
      → operands_at level base text (more_view (xs ++ x ∷ [])) o s
      ≡ more_after x.0 (operands_at level base text (more_view xs) o s)
      (then_at x.1 (operands_at level base text (more_view xs) o s))
  operands_more [] x o s = refl
  operands_more (a ∷ xs) x o s =
      let first = expression_at level base text (expr_view a.1) o s in
      ap (operand_of a.0 first.0.0) (operands_more xs x first.0.1 first.1)

  pub operands_turn : (xs : List (Joint × code.Expr)) (i : ℕ) (x : Joint × code.Expr) → i < length xs
      → x ≡ get_or xs i x → (o o1 o2 : Opened) (s s1 s2 : Findings) (done new : List (Joint × Node)) (n : Node)
      → operands_at level base text (more_view (take i xs)) o s ≡ ((operands_view done, o1), s1)
      → expression_at level base text (expr_view x.1) o1 s1 ≡ ((node_view n, o2), s2)
      → new ≡ done ++ (x.0, n) ∷ []
      → operands_at level base text (more_view (take (i + 1) xs)) o s ≡ ((operands_view new, o2), s2)
  operands_turn xs i x there is o o1 o2 s s1 s2 done new n so now pushed =
      ap (λ l. operands_at level base text (more_view l) o s)
      (take_more xs i x there ∙ ap (λ y. take i xs ++ y ∷ []) (sym is))
      ∙ operands_more (take i xs) x o s
      ∙ ap (λ r. more_after x.0 r (then_at x.1 r)) so
      ∙ ap (more_after x.0 ((operands_view done, o1), s1)) now
      ∙ ap (λ l. ((l, o2), s2)) (sym (map-append (λ r. (r.0, node_view r.1)) done ((x.0, n) ∷ []))
      ∙ ap operands_view (sym pushed))

  abbrev value_after : MadeTo (List (Tree × Tree)) → MadeTo Tree → MadeTo Tree → MadeTo (List (Tree × Tree))
  value_after r c v = ((r.0.0 ++ (c.0.0, v.0.0) ∷ [], v.0.1), v.1)

  values_more : (xs : List (code.Expr × code.Expr)) (x : code.Expr × code.Expr) (o : Opened) (s : Findings)
      → values_at level base text (cases_view (xs ++ x ∷ [])) o s
      ≡ value_after (values_at level base text (cases_view xs) o s)
      (then_at x.0 (values_at level base text (cases_view xs) o s))
      (then_at x.1 (then_at x.0 (values_at level base text (cases_view xs) o s)))
  values_more [] x o s = refl
  values_more (a ∷ xs) x o s =
      let condition = expression_at level base text (expr_view a.0) o s in
      let value = expression_at level base text (expr_view a.1) condition.0.1 condition.1 in
      ap (value_of condition.0.0 value.0.0) (values_more xs x value.0.1 value.1)

  pub values_turn : (xs : List (code.Expr × code.Expr)) (i : ℕ) (x : code.Expr × code.Expr) → i < length xs
      → x ≡ get_or xs i x → (o o1 o2 o3 : Opened) (s s1 s2 s3 : Findings) (done new : List (Node × Node)) (n m : Node)
      → values_at level base text (cases_view (take i xs)) o s ≡ ((values_view done, o1), s1)
      → expression_at level base text (expr_view x.0) o1 s1 ≡ ((node_view n, o2), s2)
      → expression_at level base text (expr_view x.1) o2 s2 ≡ ((node_view m, o3), s3)
      → new ≡ done ++ (n, m) ∷ []
      → values_at level base text (cases_view (take (i + 1) xs)) o s ≡ ((values_view new, o3), s3)
  values_turn xs i x there is o o1 o2 o3 s s1 s2 s3 done new n m so first second pushed =
      ap (λ l. values_at level base text (cases_view l) o s)
      (take_more xs i x there ∙ ap (λ y. take i xs ++ y ∷ []) (sym is))
      ∙ values_more (take i xs) x o s
      ∙ ap (λ r. value_after r (then_at x.0 r) (then_at x.1 (then_at x.0 r))) so
      ∙ ap (λ c. value_after ((values_view done, o1), s1) c (then_at x.1 c)) first
      ∙ ap (value_after ((values_view done, o1), s1) ((node_view n, o2), s2)) second
      ∙ ap (λ l. ((l, o3), s3)) (sym (map-append (λ c. (node_view c.0, node_view c.1)) done ((n, m) ∷ []))
      ∙ ap values_view (sym pushed))
