use Rattle.plain_eval.proofs.Vocabulary
use Vocabulary.{[], drop, true, ℕ, ◌*◌, ◌++◌, ◌+◌, ◌-◌, ◌∷◌, Tree, operands_of, script, trees_of}
use Vocabulary.{values_of, node_view, nodes_view, operands_view, values_view, child, places_of}
use Vocabulary.{rows_view, first_of, loop_tree, meaning_of, pieces_of, turns_of, GoesOn, inner_of}
use Vocabulary.{setting_of, stand}
use Rattle.tcl_trees.specs.Tree.{each, row}
use Rattle.plain_eval.proofs.InExpressions.{RowLeft, first_left}
use Rattle.plain_eval.proofs.InLoops.{rows_left}
use Rattle.plain_eval.proofs.InScripts.{ScriptLeft}
use Rattle.plain_eval.proofs.InWords.{WordsLeft, pieces_left}
use Rattle.plain_eval.proofs.+plain.Given as goal

-- what a function of the cycle calls at the same level comes before it; one tree further in is a level
-- less
abbrev at_level : ℕ → ℕ → ℕ
at_level levels order = 16 * levels + order

abbrev pub decreases-tree::eval_tree : goal.decreases-tree::eval_tree
decreases-tree::eval_tree g l = at_level l.levels 0

abbrev pub decreases-tree::eval_script : goal.decreases-tree::eval_script
decreases-tree::eval_script g l = at_level l.levels 1

abbrev pub decreases-words::eval_word : goal.decreases-words::eval_word
decreases-words::eval_word g l = at_level l.levels 1

abbrev pub decreases-words::eval_element : goal.decreases-words::eval_element
decreases-words::eval_element g l = at_level l.levels 2

abbrev pub decreases-words::eval_words : goal.decreases-words::eval_words
decreases-words::eval_words g l = at_level l.levels 2

abbrev pub decreases-commands::eval_command : goal.decreases-commands::eval_command
decreases-commands::eval_command g l = at_level l.levels 3

abbrev pub decreases-expressions::eval_test : goal.decreases-expressions::eval_test
decreases-expressions::eval_test g l = at_level l.levels 1

abbrev pub decreases-expressions::eval_expr : goal.decreases-expressions::eval_expr
decreases-expressions::eval_expr g l = at_level l.levels 1

abbrev pub decreases-expressions::eval_prefixed : goal.decreases-expressions::eval_prefixed
decreases-expressions::eval_prefixed g l = at_level l.levels 1

abbrev pub decreases-expressions::eval_row : goal.decreases-expressions::eval_row
decreases-expressions::eval_row g l = at_level l.levels 1

abbrev pub decreases-branches::eval_branches : goal.decreases-branches::eval_branches
decreases-branches::eval_branches g l = at_level l.levels 2

abbrev pub decreases-loops::eval_turn : goal.decreases-loops::eval_turn
decreases-loops::eval_turn g l = at_level l.levels 2

abbrev pub decreases-loops::eval_loop : goal.decreases-loops::eval_loop
decreases-loops::eval_loop g l = at_level l.levels 3

abbrev pub decreases-loops::eval_body : goal.decreases-loops::eval_body
decreases-loops::eval_body g l = at_level l.levels 1

abbrev pub decreases-loops::eval_each : goal.decreases-loops::eval_each
decreases-loops::eval_each g l = at_level l.levels 3

abbrev pub decreases-choice::eval_switch : goal.decreases-choice::eval_switch
decreases-choice::eval_switch g l = at_level l.levels 3

abbrev pub decreases-catches::eval_catch : goal.decreases-catches::eval_catch
decreases-catches::eval_catch g l = at_level l.levels 1

abbrev pub decreases-catches::eval_catch_in : goal.decreases-catches::eval_catch_in
decreases-catches::eval_catch_in g l = at_level l.levels 3

abbrev pub decreases-calls::eval_procedure : goal.decreases-calls::eval_procedure
decreases-calls::eval_procedure g l = at_level l.levels 1

abbrev pub decreases-calls::eval_call : goal.decreases-calls::eval_call
decreases-calls::eval_call g l = at_level l.levels 2

abbrev pub decreases-calls::eval_expression : goal.decreases-calls::eval_expression
decreases-calls::eval_expression g l = at_level l.levels 1

abbrev pub invariant-tree::eval_script-loop-command : goal.invariant-tree::eval_script-loop-command
invariant-tree::eval_script-loop-command g l =
    ScriptLeft (setting_of g.H.PlainHost.table l.context) (inner_of g.H.PlainHost.table l.context) l.wanted (meaning_of g.H.PlainHost.table l.context (script (trees_of (nodes_view l.commands))))
    (stand l.fn.run l.fn.host) (drop l.command-index l.front ++ l.last ∷ []) l.command-index (stand l.run l.host)

abbrev pub invariant-words::eval_words-loop-word : goal.invariant-words::eval_words-loop-word
invariant-words::eval_words-loop-word g l =
    WordsLeft (setting_of g.H.PlainHost.table l.context) (inner_of g.H.PlainHost.table l.context) (stand l.fn.run l.fn.host) l.words l.word-index l.name_len l.total l.values (stand l.run l.host)

abbrev pub invariant-words::eval_word-loop-part : goal.invariant-words::eval_word-loop-part
invariant-words::eval_word-loop-part g l =
    (p : Tree → ℕ) → GoesOn true (pieces_of g.H.PlainHost.table l.context p l.parts) (stand l.fn.run l.fn.host)
    (pieces_left (setting_of g.H.PlainHost.table l.context) (inner_of g.H.PlainHost.table l.context) p l.parts l.part-index l.text) (stand l.run l.host)

abbrev pub invariant-expressions::eval_row-loop-joint : goal.invariant-expressions::eval_row-loop-joint
invariant-expressions::eval_row-loop-joint g l =
    RowLeft (setting_of g.H.PlainHost.table l.context) (inner_of g.H.PlainHost.table l.context) (meaning_of g.H.PlainHost.table l.context (row (node_view l.first) (operands_of (operands_view l.rest))))
    (stand l.fn.run l.fn.host) l.rest l.joint-index l.run.end (stand l.run l.host)

abbrev pub invariant-branches::eval_branches-loop-condition : goal.invariant-branches::eval_branches-loop-condition
invariant-branches::eval_branches-loop-condition g l =
    (n : ℕ) (p q r : Tree → ℕ) → GoesOn l.wanted (first_of g.H.PlainHost.table l.context n p q r l.values l.last) (stand l.fn.run l.fn.host)
    (first_left (setting_of g.H.PlainHost.table l.context) (inner_of g.H.PlainHost.table l.context) n p q l.values l.condition-index
    (child r (places_of (values_of (values_view l.values))) (node_view l.last) (meaning_of g.H.PlainHost.table l.context (node_view l.last)))) (stand l.run l.host)

abbrev pub invariant-loops::eval_loop-loop : goal.invariant-loops::eval_loop-loop
invariant-loops::eval_loop-loop g l =
    GoesOn true (meaning_of g.H.PlainHost.table l.context (loop_tree l.start l.parts)) (stand l.fn.run l.fn.host) (turns_of g.H.PlainHost.table l.context l.parts (l.end - l.counter)) (stand l.run l.host)

abbrev pub invariant-loops::eval_each-loop-number : goal.invariant-loops::eval_each-loop-number
invariant-loops::eval_each-loop-number g l =
    GoesOn true (meaning_of g.H.PlainHost.table l.context (each (trees_of (nodes_view l.words)) (node_view l.body))) (stand l.fn.run l.fn.host)
    (rows_left g.H.PlainHost.table l.context l.words l.body (rows_view l.rows) (l.number-end - l.number) l.number) (stand l.run l.host)
