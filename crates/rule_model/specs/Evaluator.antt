-- What a tree does: its recursive evaluation over all replies at once (Tcl 8.4, Tcl(n)).
use Rattle.std.specs.Prelude.{ℕ, zero, suc, ◌+◌, List, [], ◌∷◌, ◌++◌, Option, Some, None, codes}
use Rattle.px_bytes.specs.declared.fault.Reply.{Reply}
use Rattle.tcl_expr.specs.declared.expr.Joint.{Joint}
use Rattle.tcl_trees.specs.Tree.{Tree, Trees, Operands, Values}
use Rattle.tcl_trees.specs.Tree as tree
use Rattle.tcl_vars.specs.Names.{Name}
use Rattle.tcl_vars.specs.Scopes.{Scopes}
use Rattle.tcl_var_commands.specs.Reading.{read_value}
use Rattle.rule_model.specs.Outcome.{State, state, Outcome, Ends, Meaning, paid, ends, then_value}
use Rattle.rule_model.specs.declared.code.Code.TheVariants.{Value}
use Rattle.rule_model.specs.Children.{child, free, one, alone, is_next, count, places_of}
use Rattle.rule_model.specs.Words.{in_word, told, word_at, in_order, behind_name, commands}
use Rattle.rule_model.specs.Expressions.{prefixes, row, first_true, whole}
use Rattle.rule_model.specs.Control.{turns, each_rows, unless, chosen_of, caught_in}
use Rattle.rule_model.specs.Setting.{Setting, Inner}
use Rattle.rule_model.specs.Commands.{command}

-- reads a variable, or an array's element, which the text names
abbrev pub read : {H : Type 0} → Setting H → List ℕ → Name → State H → Outcome H
read g text name st = ends (read_value g.statics st.vars text name) st

abbrev pub read_variable : {H : Type 0} → Setting H → List ℕ → State H → Outcome H
read_variable g name st = read g name (record { name = name; index = None }) st

-- the element of this array with this index
abbrev pub read_element : {H : Type 0} → Setting H → (name index : List ℕ) → Meaning H
read_element g name index path st =
    read g (name ++ codes "(" ++ index ++ codes ")")
    (record { name = name; index = Some index }) st

-- The meaning of a tree. A command that holds bodies pays one for its name, which also counts among
-- its words.
abbrev mutual
  pub eval : {H : Type 0} → Setting H → Inner H → Tree → Meaning H
  eval g i (tree.plain text) path st = Ends (Value text) st
  eval g i (tree.variable name) path st = read_variable g name st
  eval g i (tree.element name ts) path st =
      in_word (read_element g name) (evals g i one 0 ts) [] path st
  eval g i (tree.word ts) path st = in_word told (evals g i one 0 ts) [] path st
  eval g i (tree.script ts) path st = commands (evals g i free 0 ts) [] path st
  eval g i (tree.command v ts) path st = in_order (command g i v) (words g i one 0 ts) [] path st
  eval g i (tree.expr t) path st = whole (child alone 0 t (eval g i t) path (paid 1 st))
  eval g i (tree.branches vs last) path st =
      first_true 0 (values g i alone free 0 vs) (child free (places_of vs) last (eval g i last))
      path (paid 1 st)
  eval g i (tree.loop start test next body) path st =
      then_value (child free 0 start (eval g i start) path (paid 1 st)) (λ v t.
      turns t.budget (child alone 1 test (eval g i test)) (child free 3 body (eval g i body))
      (child free 2 next (eval g i next)) path t)
  eval g i (tree.each ts body) path st =
      in_order (behind_name (each_rows g.statics (child free (count ts) body (eval g i body))))
      (words g i one 0 ts) (codes "foreach" ∷ []) path (paid 1 st)
  eval g i (tree.switch front ts bs) path st =
      in_order (behind_name (chosen_of front (bodies g i (count ts) bs)))
      (words g i free 0 ts) (codes "switch" ∷ []) path (paid 1 st)
  eval g i (tree.catch body) path st =
      caught_in g.statics (child free 0 body (eval g i body)) [] path (paid 1 st)
  eval g i (tree.catch_in body name) path st =
      in_order (behind_name (caught_in g.statics (child free 0 body (eval g i body))))
      (word_at 1 (parts g i one name (eval g i name)) ∷ []) (codes "catch" ∷ []) path (paid 1 st)
  eval g i tree.next_body path st = Ends (Value []) st
  eval g i (tree.prefixed ops t) path st = prefixes ops (child one 0 t (eval g i t)) path st
  eval g i (tree.row t os) path st =
      row (child one 0 t (eval g i t)) (joints g i 1 os) path st
  eval g i (tree.choice vs last) path st =
      first_true 1 (values g i one one 0 vs) (child one (places_of vs) last (eval g i last)) path st

  -- those of a row, whose first has this number
  pub evals : {H : Type 0} → Setting H → Inner H → (Tree → ℕ) → ℕ → Trees → List (Meaning H)
  evals g i price k tree.no_trees = []
  evals g i price k (tree.and_tree t ts) =
      child price k t (eval g i t) ∷ evals g i price (k + 1) ts

  -- the words of a command
  pub words : {H : Type 0} → Setting H → Inner H → (Tree → ℕ) → ℕ → Trees → List (Meaning H)
  words g i price k tree.no_trees = []
  words g i price k (tree.and_tree t ts) =
      word_at k (parts g i price t (eval g i t)) ∷ words g i price (k + 1) ts

  -- the parts of a word; a tree that has none is its own only part, with this price and meaning
  pub parts : {H : Type 0} → Setting H → Inner H → (Tree → ℕ) → Tree → Meaning H
      → List (Meaning H)
  parts g i price (tree.word (tree.and_tree t ts)) m =
      child one 0 t (eval g i t) ∷ evals g i one 1 ts
  parts g i price t m = child price 0 t m ∷ []

  -- operands with what joins them to those before
  pub joints : {H : Type 0} → Setting H → Inner H → ℕ → Operands → List (Joint × Meaning H)
  joints g i k tree.no_operands = []
  joints g i k (tree.and_operand joint t os) =
      (joint, child one k t (eval g i t)) ∷ joints g i (k + 1) os

  -- conditions with their values, and the price of each
  pub values : {H : Type 0} → Setting H → Inner H → (condition value : Tree → ℕ) → ℕ → Values
      → List (Meaning H × Meaning H)
  values g i p q k tree.no_values = []
  values g i p q k (tree.and_value t u vs) =
      (child p k t (eval g i t), child q (k + 1) u (eval g i u)) ∷ values g i p q (k + 2) vs

  -- the bodies of a `switch`; none where the next one is meant
  pub bodies : {H : Type 0} → Setting H → Inner H → ℕ → Trees → List (Option (Meaning H))
  bodies g i k tree.no_trees = []
  bodies g i k (tree.and_tree t ts) =
      unless (is_next t) (child free k t (eval g i t)) ∷ bodies g i (k + 1) ts

-- With so many calls and so many expressions that may still stand inside one another: first with
-- what an expression does where so many calls are left.
abbrev pub with_calls : {H : Type 0} → Setting H → ℕ → (ℕ → Option (Tree → Meaning H)) → Inner H
with_calls g zero expression = record { call = None; expression = expression 0 }
with_calls g (suc calls) expression = record {
  call = Some (eval g (with_calls g calls expression));
  expression = expression (suc calls);
}

abbrev pub inner_expression : {H : Type 0} → Setting H → (expressions calls : ℕ)
    → Option (Tree → Meaning H)
inner_expression g zero calls = None
inner_expression g (suc expressions) calls =
    Some (eval g (with_calls g calls (inner_expression g expressions)))

abbrev pub inner : {H : Type 0} → Setting H → (expressions calls : ℕ) → Inner H
inner g expressions calls = with_calls g calls (inner_expression g expressions)

-- as many of each as may stand inside one another
abbrev pub inner_limit : ℕ
inner_limit = 100

-- the evaluation of a body: on these variables, this host's state, these replies and this budget
unfoldable pub evaluate : {H : Type 0} → Setting H → Tree → Scopes → H → List Reply → ℕ → Outcome H
evaluate g tree vars host replies budget =
    eval g (inner g inner_limit inner_limit) tree [] (state vars host replies budget 0 [])
