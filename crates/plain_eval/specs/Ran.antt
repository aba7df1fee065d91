-- What the functions of the plain evaluator come to.
use Rattle.std.specs.Prelude.{ℕ, List, [], length, drop, map, Bool}
use Rattle.tcl_trees.specs.Procedures.{procedure_view}
use Rattle.tcl_trees.specs.Tree.{Tree, loop, trees_of, values_of}
use Rattle.tcl_trees.specs.TreeView.{node_view, nodes_view, values_view}
use Rattle.tcl_trees.specs.declared.node.Node.{Node}
use Rattle.tcl_trees.specs.declared.node.Verb.{Verb}
use Rattle.tcl_var_commands.specs.Assigning.{row_assigned}
use Rattle.rule_model.specs.Children.{alone, child, free, places_of}
use Rattle.rule_model.specs.Commands.{command, deeper}
use Rattle.rule_model.specs.Control.{after_body, turns}
use Rattle.rule_model.specs.Evaluator.{eval, evals, values, words}
use Rattle.rule_model.specs.Expressions.{first_true, then_truth}
use Rattle.rule_model.specs.Host.{HostStep}
use Rattle.rule_model.specs.Outcome.{Meaning, changed, then_code, then_value}
use Rattle.rule_model.specs.Words.{in_order, in_word, told}
use Rattle.rule_nodes.specs.declared.calls.Call.{Call}
use Rattle.plain_eval.specs.Stand.{stand, Ran, setting_of, inner_of}
use Rattle.plain_eval.specs.declared.context.Context.{Context}
use Rattle.plain_eval.specs.declared.loops.Loop.{Loop}
use Rattle.plain_eval.specs.declared.run.Run.{Run}

module _ {E H : Type 0} (table : E → H → List (List ℕ) → HostStep H) (context : Context E) where
  -- what a tree does there
  abbrev pub meaning_of : Tree → Meaning H
  meaning_of tree = eval (setting_of table context) (inner_of table context) tree

  -- an evaluation of a tree
  abbrev pub Evaluates : (wanted : Bool) → Tree → Run → H → Run → H → Type 0
  Evaluates wanted tree old before new after =
      Ran wanted (meaning_of tree) (stand old before) new.end (stand new after)

  -- a condition, and what is done with its truth value
  abbrev pub test_of : (Tree → ℕ) → ℕ → Node → (Bool → Meaning H) → Meaning H
  test_of price k condition go path st =
      then_truth (child price k (node_view condition) (meaning_of (node_view condition)) path st)
      (λ holds t. go holds path t)

  -- the pieces of a word
  abbrev pub pieces_of : (Tree → ℕ) → List Node → Meaning H
  pieces_of p parts = in_word told
      (evals (setting_of table context) (inner_of table context) p 0 (trees_of (nodes_view parts)))
      []

  -- words behind a name, and what is done with their values
  abbrev pub words_of : (name : List (List ℕ)) → ℕ → (Tree → ℕ) → List Node
      → (List (List ℕ) → Meaning H) → Meaning H
  words_of name k p nodes go = in_order (λ all. go (drop (length name) all))
      (words (setting_of table context) (inner_of table context) p k (trees_of (nodes_view nodes)))
      name

  -- the value beside the first condition that holds
  abbrev pub first_of : ℕ → (p q r : Tree → ℕ) → List (Node × Node) → Node → Meaning H
  first_of n p q r vs last = first_true n
      (values (setting_of table context) (inner_of table context) p q 0
      (values_of (values_view vs)))
      (child r (places_of (values_of (values_view vs))) (node_view last)
      (meaning_of (node_view last)))

  -- so many turns of a loop
  abbrev pub turns_of : Loop → ℕ → Meaning H
  turns_of parts n = turns n
      (child alone 1 (node_view parts.test.now) (meaning_of (node_view parts.test.now)))
      (child free 3 (node_view parts.body.now) (meaning_of (node_view parts.body.now)))
      (child free 2 (node_view parts.next.now) (meaning_of (node_view parts.next.now)))

  -- a loop's body, and what is left of the loop where it goes on
  abbrev pub body_of : ℕ → Node → (Unit {0} → Meaning H) → Meaning H
  body_of k body go path st =
      then_code (child free k (node_view body) (meaning_of (node_view body)) path st)
      (after_body (go tt path))

  -- what a command does with its words
  abbrev pub command_of : Verb → List (List ℕ) → Meaning H
  command_of v ws = command (setting_of table context) (inner_of table context) v ws

  -- a procedure inside its own level
  abbrev pub inside_of : Call → Meaning H
  inside_of call path st =
      let p = procedure_view call.procedure.now in
      then_value (changed (row_assigned (setting_of table context).statics
      (map (λ q. q.name) p.parameters) call.values st.vars) st)
      (λ v t. deeper (inner_of table context).call p.body path t)

abbrev pub loop_tree : Node → Loop → Tree
loop_tree start parts = loop (node_view start) (node_view parts.test.now)
    (node_view parts.next.now) (node_view parts.body.now)
