-- The name of a command that holds bodies counts among its words: a word with which it is too long is a
-- fault, though the word alone is none.
use Rattle.std.proofs.Common.{◌≡◌, ap, ◌∙◌, ℕ, List, [], ◌∷◌, true, false, length, codes}
use Rattle.std.proofs.lemmas.Bool.{cond-true, cond-false}
use Rattle.std.specs.Prelude.{nat_lt, sum_by}
use Rattle.px_bytes.specs.FaultText.{too_long}
use Rattle.px_bytes.specs.Limit.{text_limit}
use Rattle.tcl_trees.specs.Tree.{Tree, Trees, trees_of}
use Rattle.tcl_trees.specs.Tree as tree
use Rattle.rule_model.specs.Children.{child, free, one, count}
use Rattle.rule_model.specs.Control.{each_rows, chosen_of, caught_in}
use Rattle.rule_model.specs.Evaluator.{eval, words, bodies as bodies_of}
use Rattle.rule_model.specs.Outcome.{State, Ends, Meaning, then_value, paid}
use Rattle.rule_model.specs.declared.code.Code.TheVariants.{Value, Raised}
use Rattle.rule_model.specs.Setting.{Setting, Inner}
use Rattle.rule_model.specs.Words.{word_at, after_word, in_order, behind_name}

-- a text that may stand alone, and not behind this name
pub record TooLongBehind (name v : List ℕ) : Type 0 where
  pub alone : nat_lt text_limit (length v) ≡ false
  pub behind : nat_lt text_limit (sum_by length (name ∷ (v ∷ []))) ≡ true

abbrev plain : List ℕ → Tree
plain v = tree.word (trees_of (tree.plain v ∷ []))

behind_name_is_long : {H : Type 0} (name v : List ℕ) → TooLongBehind name v → (finish : List (List ℕ) → Meaning H) (ms : List (Meaning H)) (k : ℕ) (path : List ℕ) (st : State H)
    → in_order finish (word_at k (child one 0 (tree.plain v) (λ p s. Ends (Value v) s) ∷ []) ∷ ms) (name ∷ []) path st ≡ Ends (Raised too_long) (paid 1 st)
behind_name_is_long name v is finish ms k path st =
    ap (λ o. then_value o (after_word (in_order finish ms) (name ∷ []) path)) (cond-false _ _ _ is.alone) ∙ cond-true _ _ _ is.behind

each_name : {H : Type 0} (g : Setting H) (i : Inner H) (v : List ℕ) → TooLongBehind (codes "foreach") v → (ts : Trees) (body : Tree) (path : List ℕ) (st : State H)
    → eval g i (tree.each (tree.and_tree (plain v) ts) body) path st ≡ Ends (Raised too_long) (paid 1 (paid 1 st))
each_name g i v is ts body path st =
    behind_name_is_long (codes "foreach") v is (behind_name (each_rows g.statics (child free (count (tree.and_tree (plain v) ts)) body (eval g i body))))
    (words g i one 1 ts) 0 path (paid 1 st)

switch_name : {H : Type 0} (g : Setting H) (i : Inner H) (v : List ℕ) → TooLongBehind (codes "switch") v → (front : ℕ) (ts bodies : Trees) (path : List ℕ) (st : State H)
    → eval g i (tree.switch front (tree.and_tree (plain v) ts) bodies) path st ≡ Ends (Raised too_long) (paid 1 (paid 1 st))
switch_name g i v is front ts bodies path st =
    behind_name_is_long (codes "switch") v is (behind_name (chosen_of front (bodies_of g i (count (tree.and_tree (plain v) ts)) bodies)))
    (words g i free 1 ts) 0 path (paid 1 st)

catch_name : {H : Type 0} (g : Setting H) (i : Inner H) (v : List ℕ) → TooLongBehind (codes "catch") v → (body : Tree) (path : List ℕ) (st : State H)
    → eval g i (tree.catch_in body (plain v)) path st ≡ Ends (Raised too_long) (paid 1 (paid 1 st))
catch_name g i v is body path st =
    behind_name_is_long (codes "catch") v is (behind_name (caught_in g.statics (child free 0 body (eval g i body)))) [] 1 path (paid 1 st)
