use Rattle.plain_eval.proofs.Vocabulary
use Vocabulary.{Err, None, Ok, Some, [], arith, codes, false, length, refl, suc, true, zero, ◌*◌}
use Vocabulary.{◌+◌, ◌-◌, ◌∷◌, nil_from_length, slice_get, budget_spent, trees_of, node_view}
use Vocabulary.{nodes_view, alone, child, count, free, one, called, command, expression_read}
use Vocabulary.{too_deep, after_body, caught_in, chosen, chosen_of, each_rows, turn_assigned, evals}
use Vocabulary.{read_element, Raised, Value, call_view, body_goes, rows_view, fault_end, value_in}
use Vocabulary.{meaning_of, inner_of, setting_of, stand}
use Rattle.tcl_trees.specs.declared.node.Node.{fold-roll-Node, the_lemmas}
use Rattle.tcl_trees.specs.declared.node.Node.TheVariants.{rolls-Catch, rolls-CatchIn}
use Rattle.tcl_trees.specs.declared.node.Node.TheVariants.{rolls-Choice}
use Rattle.tcl_trees.specs.declared.node.Node.TheVariants.{rolls-Expr, rolls-Foreach, rolls-If}
use Rattle.tcl_trees.specs.declared.node.Node.TheVariants.{rolls-Loop, rolls-Prefixed, rolls-Row}
use Rattle.plain_eval.proofs.InCommands as commands
use Rattle.plain_eval.proofs.InControls as controls
use Rattle.plain_eval.proofs.InExpressions as expressions
use Rattle.plain_eval.proofs.InLoops as loops
use Rattle.plain_eval.proofs.InScripts as scripts
use Rattle.plain_eval.proofs.InWords as words
use Rattle.plain_eval.proofs.InWords.{child_ran}
use Rattle.plain_eval.proofs.Steps.{any_ran, change_fails, change_goes, code_ran, ends_ran}
use Rattle.plain_eval.proofs.Steps.{fault_is, gives_ran, goes_then, halted_is, halts_is, kept_fails}
use Rattle.plain_eval.proofs.Steps.{kept_was, ok_is, paid_gave, paid_ran, spend_gave, value_stops}
use Rattle.plain_eval.proofs.Steps.{valued}
use Rattle.plain_eval.proofs.+plain.Goals as goal

pub tree::eval_tree-returns-in-Element-clause-ran : goal.tree::eval_tree-returns-in-Element-clause-ran
tree::eval_tree-returns-in-Element-clause-ran g t c =
    rw c.in-Element.is (simp the_lemmas (any_ran _ (rw c.deref.ensures.value at c.eval_element.ensures.ran)))

pub tree::eval_tree-returns-in-Word-clause-ran : goal.tree::eval_tree-returns-in-Word-clause-ran
tree::eval_tree-returns-in-Word-clause-ran g t c =
    rw c.in-Word.is (simp the_lemmas (any_ran _ (rw c.deref-in-Word.ensures.value at (c.eval_word.ensures.ran one))))

pub tree::eval_tree-returns-in-Expr-clause-ran : goal.tree::eval_tree-returns-in-Expr-clause-ran
tree::eval_tree-returns-in-Expr-clause-ran g t c =
    rw (c.in-Expr.is, ← rolls-Expr, fold-roll-Node) (any_ran _ (rw c.deref-in-Expr.ensures at c.eval_expr.ensures.ran))

pub tree::eval_tree-returns-in-If-clause-ran : goal.tree::eval_tree-returns-in-If-clause-ran
tree::eval_tree-returns-in-If-clause-ran g t c =
    rw (c.in-If.is, ← rolls-If, fold-roll-Node) (paid_ran 1 (rw (c.deref-in-If.ensures.value, c.deref-in-If-2.ensures) at (c.eval_branches.ensures.ran 0 alone free free)))

pub tree::eval_tree-returns-in-Choice-clause-ran : goal.tree::eval_tree-returns-in-Choice-clause-ran
tree::eval_tree-returns-in-Choice-clause-ran g t c =
    rw (c.in-Choice.is, ← rolls-Choice, fold-roll-Node) (rw (c.deref-in-Choice.ensures.value, c.deref-in-Choice-2.ensures) at (c.eval_branches-in-Choice.ensures.ran 1 one one one))

pub tree::eval_tree-returns-in-Loop-clause-ran : goal.tree::eval_tree-returns-in-Loop-clause-ran
tree::eval_tree-returns-in-Loop-clause-ran g t c =
    rw (c.in-Loop.is, ← rolls-Loop, fold-roll-Node) (any_ran _ (rw (c.deref-in-Loop.ensures, c.deref-in-Loop-2.ensures, c.deref-in-Loop-3.ensures, c.deref-in-Loop-4.ensures) at c.eval_loop.ensures.ran))

pub tree::eval_tree-returns-in-Foreach-clause-ran : goal.tree::eval_tree-returns-in-Foreach-clause-ran
tree::eval_tree-returns-in-Foreach-clause-ran g t c =
    rw (c.in-Foreach.is, ← rolls-Foreach, fold-roll-Node) (any_ran _ (rw (c.deref-in-Foreach.ensures.value, c.deref-in-Foreach-2.ensures) at c.eval_each.ensures.ran))

pub tree::eval_tree-returns-in-Catch-clause-ran : goal.tree::eval_tree-returns-in-Catch-clause-ran
tree::eval_tree-returns-in-Catch-clause-ran g t c =
    rw (c.in-Catch.is, ← rolls-Catch, fold-roll-Node) (any_ran _ (rw c.deref-in-Catch.ensures at c.eval_catch.ensures.ran))

pub tree::eval_tree-returns-in-CatchIn-clause-ran : goal.tree::eval_tree-returns-in-CatchIn-clause-ran
tree::eval_tree-returns-in-CatchIn-clause-ran g t c =
    rw (c.in-CatchIn.is, ← rolls-CatchIn, fold-roll-Node) (any_ran _ (rw (c.deref-in-CatchIn.ensures, c.deref-in-CatchIn-2.ensures) at c.eval_catch_in.ensures.ran))

pub tree::eval_tree-returns-in-Prefixed-clause-ran : goal.tree::eval_tree-returns-in-Prefixed-clause-ran
tree::eval_tree-returns-in-Prefixed-clause-ran g t c =
    rw (c.in-Prefixed.is, ← rolls-Prefixed, fold-roll-Node) (any_ran _ (rw (c.deref-in-Prefixed.ensures.value, c.deref-in-Prefixed-2.ensures) at c.eval_prefixed.ensures.ran))

pub tree::eval_tree-returns-in-Row-clause-ran : goal.tree::eval_tree-returns-in-Row-clause-ran
tree::eval_tree-returns-in-Row-clause-ran g t c =
    rw (c.in-Row.is, ← rolls-Row, fold-roll-Node) (any_ran _ (rw (c.deref-in-Row-2.ensures.value, c.deref-in-Row.ensures) at c.eval_row.ensures.ran))

pub tree::eval_script-returns-in_default-clause-ran : goal.tree::eval_script-returns-in_default-clause-ran
tree::eval_script-returns-in_default-clause-ran g t c =
    rw (c.nothing.ensures.noted, nil_from_length c.args.commands.now (rw c.in_default.is at c.split_last.ensures.cases)) (ends_ran (Value []))

pub tree::eval_script-loop-command-init : goal.tree::eval_script-loop-command-init
tree::eval_script-loop-command-init g t c =
    let last = rw c.in-Some.is at c.split_last.ensures.cases in record { closes = λ e after r. rw last.0 (r []) }

pub tree::eval_script-loop-command-preserved : goal.tree::eval_script-loop-command-preserved
tree::eval_script-loop-command-preserved g t c =
    scripts.command_ran _ _ _ c.loop-command.command-index c.loop-command.run c.spend.new.self c.loop-command.host c.command-item.result c.in-Some.last.now c.eval_tree.new.run.end _ (Ok _) c.loop-command.invariant c.loop-command-test.true c.command-item.is c.in_ok-spend.ensures.spends c.in_ok-eval_tree.ensures.ended c.in_ok-eval_tree.ensures.ran

pub tree::eval_script-returns-in_err-eval_tree-clause-ran : goal.tree::eval_script-returns-in_err-eval_tree-clause-ran
tree::eval_script-returns-in_err-eval_tree-clause-ran g t c =
    scripts.command_ran _ _ _ c.loop-command.command-index c.loop-command.run c.spend.new.self c.loop-command.host c.command-item.result c.in-Some.last.now c.eval_tree.new.run.end _ (Err _) c.loop-command.invariant c.loop-command-test.true c.command-item.is c.in_ok-spend.ensures.spends c.in_err-eval_tree.ensures.ended c.in_err-eval_tree.ensures.ran

pub tree::eval_script-returns-in_err-spend-clause-ran : goal.tree::eval_script-returns-in_err-spend-clause-ran
tree::eval_script-returns-in_err-spend-clause-ran g t c =
    scripts.unit _ _ c.loop-command.run c.spend.new.self c.loop-command.host c.command-item.result _ (Err _) c.loop-command.invariant (scripts.command_at _ _ _ c.in-Some.last.now c.loop-command-test.true c.command-item.is) c.in_err-spend.ensures.spends

pub tree::eval_script-returns-in_err-spend-2-clause-ran : goal.tree::eval_script-returns-in_err-spend-2-clause-ran
tree::eval_script-returns-in_err-spend-2-clause-ran g t c =
    scripts.unit _ _ c.loop-command.run c.spend-2.new.self c.loop-command.host c.in-Some.last.now [] (Err _) c.loop-command.invariant (scripts.last_at _ c.loop-command.command-index c.in-Some.last.now (omega arith)) c.in_err-spend-2.ensures.spends

pub tree::eval_script-returns-clause-ran : goal.tree::eval_script-returns-clause-ran
tree::eval_script-returns-clause-ran g t c =
    scripts.last_ends _ _ _ c.loop-command.command-index c.loop-command.run c.spend-2.new.self c.loop-command.host c.in-Some.last.now c.eval_tree-2.new.run.end _ c.eval_tree-2.result c.loop-command.invariant (omega arith) c.in_ok-spend-2.ensures.spends c.eval_tree-2.ensures.ended c.eval_tree-2.ensures.ran

pub branches::eval_branches-loop-condition-preserved : goal.branches::eval_branches-loop-condition-preserved
branches::eval_branches-loop-condition-preserved g t c =
    λ n p q r. goes_then (c.loop-condition.invariant n p q r) (expressions.first_tested _ _ c.args.wanted n p q c.args.values.now c.loop-condition.condition-index c.loop-condition-item.result _ (Ok false) c.loop-condition-test.true c.loop-condition-item.is (rw c.if-branch.false at (c.in_ok-eval_test.ensures.gave p (c.loop-condition.condition-index * 2))))

pub branches::eval_branches-returns-then-branch-clause-ran : goal.branches::eval_branches-returns-then-branch-clause-ran
branches::eval_branches-returns-then-branch-clause-ran g t c =
    λ n p q r. (goes_then (c.loop-condition.invariant n p q r) (expressions.first_tested _ _ c.args.wanted n p q c.args.values.now c.loop-condition.condition-index c.loop-condition-item.result _ (Ok true) c.loop-condition-test.true c.loop-condition-item.is (rw c.if-branch.true at (c.in_ok-eval_test.ensures.gave p (c.loop-condition.condition-index * 2))))).closes _ _ (child_ran (setting_of g.H.PlainHost.table c.args.context.now) (inner_of g.H.PlainHost.table c.args.context.now) q (c.loop-condition.condition-index * 2 + 1) (node_view c.loop-condition-item.result.1) c.eval_tree.ensures.ran)

pub branches::eval_branches-returns-in_err-eval_test-clause-ran : goal.branches::eval_branches-returns-in_err-eval_test-clause-ran
branches::eval_branches-returns-in_err-eval_test-clause-ran g t c =
    λ n p q r. (c.loop-condition.invariant n p q r).closes _ _ (expressions.first_tested _ _ c.args.wanted n p q c.args.values.now c.loop-condition.condition-index c.loop-condition-item.result _ (Err _) c.loop-condition-test.true c.loop-condition-item.is (c.in_err-eval_test.ensures.gave p (c.loop-condition.condition-index * 2)))

pub branches::eval_branches-returns-clause-ran : goal.branches::eval_branches-returns-clause-ran
branches::eval_branches-returns-clause-ran g t c =
    λ n p q r. (c.loop-condition.invariant n p q r).closes _ _ (expressions.first_last _ _ c.args.wanted n p q r c.args.values.now c.loop-condition.condition-index _ c.args.last.now (omega arith) c.eval_tree-2.ensures.ran)

pub words::eval_words-loop-word-init : goal.words::eval_words-loop-word-init
words::eval_words-loop-word-init g t c =
    words.words_begin _ _ c.args.words.now c.args.name_len c.new-values.result c.new-values.ensures c.requires

pub words::eval_words-loop-word-preserved : goal.words::eval_words-loop-word-preserved
words::eval_words-loop-word-preserved g t c =
    rw c.in_ok-total.ensures.same (words.word_next _ _ c.args.words.now c.loop-word.word-index c.args.name_len c.loop-word.total c.in_ok-total.total c.loop-word.values c.add_value.new.values c.word-item.result c.eval_word.new.run.end c.add_value.new.self.end _
    c.loop-word.invariant c.loop-word-test.true c.word-item.is c.in_ok-eval_word.ensures.ended (λ q. rw c.parts.ensures at (c.in_ok-eval_word.ensures.ran q)) c.in_ok-total.ensures.adds)

pub words::eval_words-returns-clause-gave : goal.words::eval_words-returns-clause-gave
words::eval_words-returns-clause-gave g t c =
    λ name m p at. words.words_done _ _ c.args.words.now c.loop-word.word-index c.args.name_len c.loop-word.total c.loop-word.values c.loop-word.invariant (omega arith) name m p at

pub words::eval_words-returns-in_err-eval_word-clause-gave : goal.words::eval_words-returns-in_err-eval_word-clause-gave
words::eval_words-returns-in_err-eval_word-clause-gave g t c =
    λ name m p at. rw (halted_is c.from_residual.result c.in_err-eval_word.field-0.0 c.from_residual.ensures) (words.word_stops _ _ c.args.words.now c.loop-word.word-index c.args.name_len c.loop-word.total c.loop-word.values c.word-item.result c.eval_word.new.run.end _ c.loop-word.invariant c.loop-word-test.true c.word-item.is c.in_err-eval_word.ensures.ended (λ q. rw c.parts.ensures at (c.in_err-eval_word.ensures.ran q)) name m p at)

pub words::eval_words-returns-in_err-total-clause-gave : goal.words::eval_words-returns-in_err-total-clause-gave
words::eval_words-returns-in_err-total-clause-gave g t c =
    λ name m p at. rw (halted_is c.from_residual-in_err-total.result c.in_err-total.field-0.0 c.from_residual-in_err-total.ensures, c.in_err-total.ensures.same)
    (words.word_refused _ _ c.args.words.now c.loop-word.word-index c.args.name_len c.loop-word.total c.loop-word.values c.add_value.new.values c.word-item.result c.eval_word.new.run.end c.add_value.new.self.end _ _ c.loop-word.invariant c.loop-word-test.true c.word-item.is c.in_ok-eval_word.ensures.ended (λ q. rw c.parts.ensures at (c.in_ok-eval_word.ensures.ran q)) c.in_err-total.ensures.adds name m p at)

pub words::eval_element-returns-in_err-eval_word-clause-ran : goal.words::eval_element-returns-in_err-eval_word-clause-ran
words::eval_element-returns-in_err-eval_word-clause-ran g t c =
    words.word_made (read_element (setting_of g.H.PlainHost.table c.args.context.now) c.args.name.now) (evals _ _ one 0 (trees_of (nodes_view c.args.index.now))) c.eval_word.new.run.end (Err _) c.in_err-eval_word.ensures.ended (c.in_err-eval_word.ensures.ran one)

pub words::eval_element-returns-clause-ran : goal.words::eval_element-returns-clause-ran
words::eval_element-returns-clause-ran g t c =
    let value = rw (c.take-index.ensures.noted, c.take-index.ensures.value) at c.element-value.ensures in
    rw (c.settle.ensures.noted, c.take-index.ensures.noted) ((words.word_made (read_element (setting_of g.H.PlainHost.table c.args.context.now) c.args.name.now) (evals _ _ one 0 (trees_of (nodes_view c.args.index.now))) c.eval_word.new.run.end (Ok _) c.in_ok-eval_word.ensures.ended (c.in_ok-eval_word.ensures.ran one)).closes _ _ (record { by = (gives_ran {w = true} {s = stand c.eval_word.new.run c.eval_word.new.host} c.element-value.result _ value).by }))

pub expressions::eval_test-returns-in_err-eval_tree-clause-gave : goal.expressions::eval_test-returns-in_err-eval_tree-clause-gave
expressions::eval_test-returns-in_err-eval_tree-clause-gave g t c =
    λ p k. rw (halted_is c.from_residual.result c.in_err-eval_tree.field-0.0 c.from_residual.ensures) (record { went = λ w go. valued w _ _ (Err _) c.in_err-eval_tree.ensures.ended (child_ran _ _ p k (node_view c.args.condition.now) c.in_err-eval_tree.ensures.ran) })

pub expressions::eval_test-returns-clause-gave : goal.expressions::eval_test-returns-clause-gave
expressions::eval_test-returns-clause-gave g t c =
    λ p k. rw (c.kept.ensures.noted, c.kept.ensures.kept) (expressions.test_told _ _ _ c.in_ok-eval_tree.ensures.ended (child_ran _ _ p k (node_view c.args.condition.now) c.in_ok-eval_tree.ensures.ran) (rw c.value.ensures at c.truth_of-holds.ensures))

pub expressions::eval_expr-returns-in_err-eval_tree-clause-ran : goal.expressions::eval_expr-returns-in_err-eval_tree-clause-ran
expressions::eval_expr-returns-in_err-eval_tree-clause-ran g t c =
    paid_ran 1 (valued true _ _ (Err _) c.in_err-eval_tree.ensures.ended (child_ran _ _ alone 0 (node_view c.args.expression.now) c.in_err-eval_tree.ensures.ran))

pub expressions::eval_expr-returns-clause-ran : goal.expressions::eval_expr-returns-clause-ran
expressions::eval_expr-returns-clause-ran g t c =
    rw (c.settle.ensures.noted, c.take-value.ensures.noted) (paid_ran 1 ((valued true _ _ (Ok _) c.in_ok-eval_tree.ensures.ended (child_ran _ _ alone 0 (node_view c.args.expression.now) c.in_ok-eval_tree.ensures.ran)).closes _ _ (gives_ran _ _ (rw c.take-value.ensures.value at c.whole_text.ensures))))

pub expressions::eval_prefixed-returns-in_err-eval_tree-clause-ran : goal.expressions::eval_prefixed-returns-in_err-eval_tree-clause-ran
expressions::eval_prefixed-returns-in_err-eval_tree-clause-ran g t c =
    valued true _ _ (Err _) c.in_err-eval_tree.ensures.ended (child_ran _ _ one 0 (node_view c.args.operand.now) c.in_err-eval_tree.ensures.ran)

pub expressions::eval_prefixed-returns-clause-ran : goal.expressions::eval_prefixed-returns-clause-ran
expressions::eval_prefixed-returns-clause-ran g t c =
    rw (c.settle.ensures.noted, c.take-value.ensures.noted) ((valued true _ _ (Ok _) c.in_ok-eval_tree.ensures.ended (child_ran _ _ one 0 (node_view c.args.operand.now) c.in_ok-eval_tree.ensures.ran)).closes _ _ (paid_ran (length c.args.ops.now) (gives_ran _ _ (rw c.take-value.ensures.value at c.prefixed_text.ensures))))

pub expressions::eval_row-returns-in_err-eval_tree-clause-ran : goal.expressions::eval_row-returns-in_err-eval_tree-clause-ran
expressions::eval_row-returns-in_err-eval_tree-clause-ran g t c =
    valued true _ _ (Err _) c.in_err-eval_tree.ensures.ended (child_ran _ _ one 0 (node_view c.args.first.now) c.in_err-eval_tree.ensures.ran)

pub expressions::eval_row-loop-joint-init : goal.expressions::eval_row-loop-joint-init
expressions::eval_row-loop-joint-init g t c =
    expressions.row_begins _ _ (node_view c.args.first.now) c.args.rest.now _ c.in_ok-eval_tree.ensures.ended c.in_ok-eval_tree.ensures.ran

pub expressions::eval_row-returns-clause-ran : goal.expressions::eval_row-returns-clause-ran
expressions::eval_row-returns-clause-ran g t c =
    c.loop-joint.invariant.left.closes _ _ (expressions.row_done _ _ c.args.rest.now c.loop-joint.joint-index c.loop-joint.run.end _ _ (omega arith) c.loop-joint.invariant.value)

pub loops::eval_loop-returns-in_err-eval_tree-clause-ran : goal.loops::eval_loop-returns-in_err-eval_tree-clause-ran
loops::eval_loop-returns-in_err-eval_tree-clause-ran g t c =
    record { by = λ path cost acts. value_stops false true _ _ _ _ _ c.in_err-eval_tree.ensures.ended ((child_ran _ _ free 0 (node_view c.args.start.now) c.in_err-eval_tree.ensures.ran).by path (cost + 1) acts) }

pub loops::eval_loop-loop-init : goal.loops::eval_loop-loop-init
loops::eval_loop-loop-init g t c =
    rw (loops.all_left c.eval_tree.new.run.budget) (loops.loop_starts g.H.PlainHost.table c.args.context.now c.args.parts.now c.args.start.now _ _ c.in_ok-eval_tree.ensures.ended c.in_ok-eval_tree.ensures.ran)

pub loops::eval_loop-loop-preserved : goal.loops::eval_loop-loop-preserved
loops::eval_loop-loop-preserved g t c =
    goes_then c.loop.invariant (rw (loops.one_less c.eval_tree.new.run.budget c.loop.counter c.loop-test.true) (rw (ok_is c.eval_turn.result (cc (c.is_err.ensures.value, c.if-is_err.false))) at (c.eval_turn.ensures (c.eval_tree.new.run.budget - (c.loop.counter + 1)))))

pub loops::eval_loop-returns-then-is_err-clause-ran : goal.loops::eval_loop-returns-then-is_err-clause-ran
loops::eval_loop-returns-then-is_err-clause-ran g t c =
    c.loop.invariant.closes _ _ (rw (loops.one_less c.eval_tree.new.run.budget c.loop.counter c.loop-test.true) (rw (halts_is c.eval_turn.result (cc (c.is_err.ensures.value, c.if-is_err.true))) at (c.eval_turn.ensures (c.eval_tree.new.run.budget - (c.loop.counter + 1)))))

pub loops::eval_loop-returns-in_err-eval_test-clause-ran : goal.loops::eval_loop-returns-in_err-eval_test-clause-ran
loops::eval_loop-returns-in_err-eval_test-clause-ran g t c =
    c.loop.invariant.closes _ _ (rw (loops.none_left c.eval_tree.new.run.budget c.loop.counter c.loop-test.false) ((c.in_err-eval_test.ensures.gave alone 1).went true (loops.turn_at g.H.PlainHost.table c.args.context.now c.args.parts.now zero)))

pub loops::eval_loop-returns-then-branch-clause-ran : goal.loops::eval_loop-returns-then-branch-clause-ran
loops::eval_loop-returns-then-branch-clause-ran g t c =
    rw c.raise.ensures (c.loop.invariant.closes _ _ (rw (loops.none_left c.eval_tree.new.run.budget c.loop.counter c.loop-test.false) (((rw c.if-branch.true at (c.in_ok-eval_test.ensures.gave alone 1)).went true (loops.turn_at g.H.PlainHost.table c.args.context.now c.args.parts.now zero)).closes _ _ (code_ran (Raised budget_spent) _ (fault_is budget_spent _ c.budget_spent.ensures)))))

pub loops::eval_loop-returns-clause-ran : goal.loops::eval_loop-returns-clause-ran
loops::eval_loop-returns-clause-ran g t c =
    rw c.nothing.ensures.noted (c.loop.invariant.closes _ _ (rw (loops.none_left c.eval_tree.new.run.budget c.loop.counter c.loop-test.false) (((rw c.if-branch.false at (c.in_ok-eval_test.ensures.gave alone 1)).went true (loops.turn_at g.H.PlainHost.table c.args.context.now c.args.parts.now zero)).closes _ _ (ends_ran (Value [])))))

pub loops::eval_turn-returns-in_err-eval_test : goal.loops::eval_turn-returns-in_err-eval_test
loops::eval_turn-returns-in_err-eval_test g t c =
    λ n. rw (halted_is c.from_residual.result c.in_err-eval_test.field-0.0 c.from_residual.ensures) ((c.in_err-eval_test.ensures.gave alone 1).went true (loops.turn_at g.H.PlainHost.table c.args.context.now c.args.parts.now (suc n)))

pub loops::eval_turn-returns-then-not-branch : goal.loops::eval_turn-returns-then-not-branch
loops::eval_turn-returns-then-not-branch g t c =
    λ n. rw (c.go_on.ensures.going, c.go_on.ensures.noted) (((rw c.if-not-branch.true at (c.in_ok-eval_test.ensures.gave alone 1)).went true (loops.turn_at g.H.PlainHost.table c.args.context.now c.args.parts.now (suc n))).closes _ _ (ends_ran (Value [])))

pub loops::eval_turn-returns-in_err-spend : goal.loops::eval_turn-returns-in_err-spend
loops::eval_turn-returns-in_err-spend g t c =
    λ n. rw (halted_is c.from_residual-in_err-spend.result c.in_err-spend.field-0.0 c.from_residual-in_err-spend.ensures) (loops.turn_paid g.H.PlainHost.table c.args.context.now c.args.parts.now n c.eval_test.new.run c.spend.new.self c.eval_test.new.host (Err _) (rw c.if-not-branch.false at (c.in_ok-eval_test.ensures.gave alone 1)) c.in_err-spend.ensures.spends)

pub loops::eval_turn-returns-in_err-eval_body : goal.loops::eval_turn-returns-in_err-eval_body
loops::eval_turn-returns-in_err-eval_body g t c =
    λ n. rw (halted_is c.from_residual-in_err-eval_body.result c.in_err-eval_body.field-0.0 c.from_residual-in_err-eval_body.ensures) ((loops.turn_paid g.H.PlainHost.table c.args.context.now c.args.parts.now n c.eval_test.new.run c.spend.new.self c.eval_test.new.host (Ok _) (rw c.if-not-branch.false at (c.in_ok-eval_test.ensures.gave alone 1)) c.in_ok-spend.ensures.spends).closes _ _ ((c.in_err-eval_body.ensures 3).went true (loops.behind_body g.H.PlainHost.table c.args.context.now c.args.parts.now n)))

pub loops::eval_turn-returns : goal.loops::eval_turn-returns
loops::eval_turn-returns g t c =
    λ n. rw (c.go_on-2.ensures.going, c.go_on-2.ensures.noted, c.goes_after_next-goes.ensures) (loops.turn_ends g.H.PlainHost.table c.args.context.now c.args.parts.now n c.eval_tree.new.run.end (goes_then (loops.turn_paid g.H.PlainHost.table c.args.context.now c.args.parts.now n c.eval_test.new.run c.spend.new.self c.eval_test.new.host (Ok _) (rw c.if-not-branch.false at (c.in_ok-eval_test.ensures.gave alone 1)) c.in_ok-spend.ensures.spends) ((c.in_ok-eval_body.ensures 3).went true (loops.behind_body g.H.PlainHost.table c.args.context.now c.args.parts.now n))) c.eval_tree.ensures.ran)

pub loops::eval_body-returns : goal.loops::eval_body-returns
loops::eval_body-returns g t c =
    λ k. rw (c.go_on.ensures.going, c.go_on.ensures.noted, c.goes_after_body-goes.ensures) (loops.looped_gave after_body body_goes loops.body_by (λ go v st. refl) c.eval_tree.new.run.end (child_ran _ _ free k (node_view c.args.body.now) c.eval_tree.ensures.ran))

pub words::eval_word-returns-in-len1-clause-ran : goal.words::eval_word-returns-in-len1-clause-ran
words::eval_word-returns-in-len1-clause-ran g t c =
    λ p. rw c.limit.ensures.same (words.piece_alone _ _ p c.args.parts.now c.part-item.result c.eval_tree.new.run.end c.limit.new.self.end (omega (arith, c.in-len1.len_at_least, c.in-len1.len_below)) c.part-item.is c.eval_tree.ensures.ran c.limit.ensures.value)

pub words::eval_word-loop-part-preserved : goal.words::eval_word-loop-part-preserved
words::eval_word-loop-part-preserved g t c =
    λ p. rw c.in_ok-add_piece.ensures.same (goes_then (c.loop-part.invariant p) (words.piece_added _ _ p c.args.parts.now c.loop-part.part-index c.part-item-in-loop-part.result c.loop-part.text c.add_piece.new.text c.eval_tree-in-loop-part.new.run.end c.add_piece.new.self.end _ (Ok _) c.loop-part-test.true c.part-item-in-loop-part.is c.in_ok-eval_tree.ensures.ended c.in_ok-eval_tree.ensures.ran c.in_ok-add_piece.ensures.adds))

pub words::eval_word-returns-in_err-eval_tree-clause-ran : goal.words::eval_word-returns-in_err-eval_tree-clause-ran
words::eval_word-returns-in_err-eval_tree-clause-ran g t c =
    λ p. (c.loop-part.invariant p).closes _ _ (words.piece_stops _ _ p c.args.parts.now c.loop-part.part-index c.part-item-in-loop-part.result c.loop-part.text c.eval_tree-in-loop-part.new.run.end _ c.loop-part-test.true c.part-item-in-loop-part.is c.in_err-eval_tree.ensures.ended c.in_err-eval_tree.ensures.ran)

pub words::eval_word-returns-in_err-add_piece-clause-ran : goal.words::eval_word-returns-in_err-add_piece-clause-ran
words::eval_word-returns-in_err-add_piece-clause-ran g t c =
    λ p. rw c.in_err-add_piece.ensures.same ((c.loop-part.invariant p).closes _ _ (words.piece_added _ _ p c.args.parts.now c.loop-part.part-index c.part-item-in-loop-part.result c.loop-part.text c.add_piece.new.text c.eval_tree-in-loop-part.new.run.end c.add_piece.new.self.end _ (Err _) c.loop-part-test.true c.part-item-in-loop-part.is c.in_ok-eval_tree.ensures.ended c.in_ok-eval_tree.ensures.ran c.in_err-add_piece.ensures.adds))

pub words::eval_word-returns-clause-ran : goal.words::eval_word-returns-clause-ran
words::eval_word-returns-clause-ran g t c =
    λ p. rw c.settle.ensures.noted ((c.loop-part.invariant p).closes _ _ (words.pieces_done _ _ p c.args.parts.now c.loop-part.part-index c.loop-part.text (stand c.loop-part.run c.loop-part.host) (omega arith)))

pub expressions::eval_row-returns-in_err-value-clause-ran : goal.expressions::eval_row-returns-in_err-value-clause-ran
expressions::eval_row-returns-in_err-value-clause-ran g t c =
    rw (c.in_err-value.ensures.noted, c.take-left.ensures.noted) ((expressions.row_goes _ _ c.args.rest.now c.loop-joint.joint-index c.loop-joint-item.result c.loop-joint.invariant c.loop-joint-test.true c.loop-joint-item.is).closes _ _ (kept_fails true (expressions.row_by _ _ c.args.rest.now c.loop-joint.joint-index c.loop-joint-item.result (value_in c.loop-joint.run.end)) c.decide-decided.result _ (λ f path st. refl) c.in_err-value.ensures.kept (λ f is. rw is at (rw (c.as_bytes.ensures, c.take-left.ensures.value) at c.decide-decided.ensures))))

pub expressions::eval_row-returns-in-Some-clause-ran : goal.expressions::eval_row-returns-in-Some-clause-ran
expressions::eval_row-returns-in-Some-clause-ran g t c =
    rw (c.settle.ensures.noted, c.in_ok-value.ensures.noted, c.take-left.ensures.noted) ((expressions.row_goes _ _ c.args.rest.now c.loop-joint.joint-index c.loop-joint-item.result c.loop-joint.invariant c.loop-joint-test.true c.loop-joint-item.is).closes _ _ (rw (rw (kept_was c.decide-decided.result (Some c.in-Some.value) (rw c.in-Some.is at c.in_ok-value.ensures.kept)) at (rw (c.as_bytes.ensures, c.take-left.ensures.value) at c.decide-decided.ensures)) (ends_ran (Value c.in-Some.value))))

pub expressions::eval_row-returns-in_err-eval_tree-2-clause-ran : goal.expressions::eval_row-returns-in_err-eval_tree-2-clause-ran
expressions::eval_row-returns-in_err-eval_tree-2-clause-ran g t c =
    (expressions.row_needed _ _ c.args.rest.now c.loop-joint.joint-index c.loop-joint-item.result c.loop-joint.invariant c.loop-joint-test.true c.loop-joint-item.is (rw (kept_was c.decide-decided.result None (rw c.in_default.is at c.in_ok-value.ensures.kept)) at (rw (c.as_bytes.ensures, c.take-left.ensures.value) at c.decide-decided.ensures))).closes _ _ (valued true _ _ (Err _) c.in_err-eval_tree-2.ensures.ended (child_ran _ _ one (c.loop-joint.joint-index + 1) (node_view c.loop-joint-item.result.1) (rw (c.in_ok-value.ensures.noted, c.take-left.ensures.noted) at c.in_err-eval_tree-2.ensures.ran)))

pub expressions::eval_row-returns-in_err-settle-clause-ran : goal.expressions::eval_row-returns-in_err-settle-clause-ran
expressions::eval_row-returns-in_err-settle-clause-ran g t c =
    rw c.in_err-settle.ensures.noted (expressions.row_ran _ _ c.args.rest.now c.loop-joint.joint-index c.loop-joint-item.result (value_in c.loop-joint.run.end) c.eval_tree-in-loop-joint.new.run.end _ c.both_text-value.result (Err _) (expressions.row_needed _ _ c.args.rest.now c.loop-joint.joint-index c.loop-joint-item.result c.loop-joint.invariant c.loop-joint-test.true c.loop-joint-item.is (rw (kept_was c.decide-decided.result None (rw c.in_default.is at c.in_ok-value.ensures.kept)) at (rw (c.as_bytes.ensures, c.take-left.ensures.value) at c.decide-decided.ensures)))
    c.in_ok-eval_tree-2.ensures.ended (rw (c.in_ok-value.ensures.noted, c.take-left.ensures.noted) at c.in_ok-eval_tree-2.ensures.ran) (rw (c.take-left.ensures.value, c.value.ensures) at c.both_text-value.ensures) c.in_err-settle.ensures.ended)

pub expressions::eval_row-loop-joint-preserved : goal.expressions::eval_row-loop-joint-preserved
expressions::eval_row-loop-joint-preserved g t c =
    rw c.in_ok-settle.ensures.noted (expressions.row_ran _ _ c.args.rest.now c.loop-joint.joint-index c.loop-joint-item.result (value_in c.loop-joint.run.end) c.eval_tree-in-loop-joint.new.run.end _ c.both_text-value.result (Ok _) (expressions.row_needed _ _ c.args.rest.now c.loop-joint.joint-index c.loop-joint-item.result c.loop-joint.invariant c.loop-joint-test.true c.loop-joint-item.is (rw (kept_was c.decide-decided.result None (rw c.in_default.is at c.in_ok-value.ensures.kept)) at (rw (c.as_bytes.ensures, c.take-left.ensures.value) at c.decide-decided.ensures)))
    c.in_ok-eval_tree-2.ensures.ended (rw (c.in_ok-value.ensures.noted, c.take-left.ensures.noted) at c.in_ok-eval_tree-2.ensures.ran) (rw (c.take-left.ensures.value, c.value.ensures) at c.both_text-value.ensures) c.in_ok-settle.ensures.ended)

pub choice::eval_switch-returns-in_err-words-clause-ran : goal.choice::eval_switch-returns-in_err-words-clause-ran
choice::eval_switch-returns-in_err-words-clause-ran g t c =
    (paid_gave 1 (Err _) (c.in_err-words.ensures.gave (codes "switch" ∷ []) 0 free refl)).went c.args.wanted (chosen_of c.args.front (controls.bodies_at (setting_of g.H.PlainHost.table c.args.context.now) (inner_of g.H.PlainHost.table c.args.context.now) (count (trees_of (nodes_view c.args.words.now))) c.args.bodies.now))

pub choice::eval_switch-returns-in_err-number-clause-ran : goal.choice::eval_switch-returns-in_err-number-clause-ran
choice::eval_switch-returns-in_err-number-clause-ran g t c =
    rw c.in_err-number.ensures.noted (((paid_gave 1 (Ok _) (c.in_ok-words.ensures.gave (codes "switch" ∷ []) 0 free refl)).went c.args.wanted (chosen_of c.args.front (controls.bodies_at (setting_of g.H.PlainHost.table c.args.context.now) (inner_of g.H.PlainHost.table c.args.context.now) (count (trees_of (nodes_view c.args.words.now))) c.args.bodies.now))).closes _ _ (kept_fails c.args.wanted (λ r. chosen r (controls.bodies_at (setting_of g.H.PlainHost.table c.args.context.now) (inner_of g.H.PlainHost.table c.args.context.now) (count (trees_of (nodes_view c.args.words.now))) c.args.bodies.now)) c.hit_of-hit.result _ (λ f path st. refl) c.in_err-number.ensures.kept (λ f is. rw (is, c.as_slice.ensures) at c.hit_of-hit.ensures)))

pub choice::eval_switch-returns-in-Some-clause-ran : goal.choice::eval_switch-returns-in-Some-clause-ran
choice::eval_switch-returns-in-Some-clause-ran g t c =
    ((paid_gave 1 (Ok _) (c.in_ok-words.ensures.gave (codes "switch" ∷ []) 0 free refl)).went c.args.wanted (chosen_of c.args.front (controls.bodies_at (setting_of g.H.PlainHost.table c.args.context.now) (inner_of g.H.PlainHost.table c.args.context.now) (count (trees_of (nodes_view c.args.words.now))) c.args.bodies.now))).closes _ _
    (rw (rw (kept_was c.hit_of-hit.result c.in_ok-number.number c.in_ok-number.ensures.kept, c.as_slice.ensures) at c.hit_of-hit.ensures) (controls.chosen_at _ _ c.args.wanted _ c.args.bodies.now c.in_ok-number.number (Some c.in-Some.body.now) (rw c.in-Some.is at c.body_at.ensures) (rw c.in_ok-number.ensures.noted at c.eval_tree.ensures.ran)))

pub choice::eval_switch-returns-clause-ran : goal.choice::eval_switch-returns-clause-ran
choice::eval_switch-returns-clause-ran g t c =
    rw (c.nothing.ensures.noted, c.in_ok-number.ensures.noted) (((paid_gave 1 (Ok _) (c.in_ok-words.ensures.gave (codes "switch" ∷ []) 0 free refl)).went c.args.wanted (chosen_of c.args.front (controls.bodies_at (setting_of g.H.PlainHost.table c.args.context.now) (inner_of g.H.PlainHost.table c.args.context.now) (count (trees_of (nodes_view c.args.words.now))) c.args.bodies.now))).closes _ _
    (rw (rw (kept_was c.hit_of-hit.result c.in_ok-number.number c.in_ok-number.ensures.kept, c.as_slice.ensures) at c.hit_of-hit.ensures) (controls.chosen_at _ _ c.args.wanted _ c.args.bodies.now c.in_ok-number.number None {s = stand c.eval_words.new.run c.eval_words.new.host} (rw c.in-None.is at c.body_at.ensures) (refl, refl))))

pub loops::eval_each-returns-in_err-lists-clause-ran : goal.loops::eval_each-returns-in_err-lists-clause-ran
loops::eval_each-returns-in_err-lists-clause-ran g t c =
    (paid_gave 1 (Err _) (c.in_err-lists.ensures.gave (codes "foreach" ∷ []) 0 one refl)).went true (each_rows (setting_of g.H.PlainHost.table c.args.context.now).statics (loops.each_body g.H.PlainHost.table c.args.context.now c.args.words.now c.args.body.now))

pub loops::eval_each-returns-in_err-rows-clause-ran : goal.loops::eval_each-returns-in_err-rows-clause-ran
loops::eval_each-returns-in_err-rows-clause-ran g t c =
    rw c.in_err-rows.ensures.noted ((loops.each_goes g.H.PlainHost.table c.args.context.now c.args.words.now c.args.body.now c.in_ok-lists.lists (c.in_ok-lists.ensures.gave (codes "foreach" ∷ []) 0 one refl)).closes _ _ (kept_fails true (loops.rows_read g.H.PlainHost.table c.args.context.now c.args.words.now c.args.body.now) c.rows_of.result _ (λ f path st. refl) c.in_err-rows.ensures.kept (λ f is. rw is at c.rows_of.ensures)))

pub loops::eval_each-loop-number-init : goal.loops::eval_each-loop-number-init
loops::eval_each-loop-number-init g t c =
    rw (c.in_ok-rows.ensures.noted, loops.all_left c.most_turns-number-end.result, c.most_turns-number-end.ensures, c.deref.ensures.value) (rw (rw (kept_was c.rows_of.result c.in_ok-rows.rows c.in_ok-rows.ensures.kept) at c.rows_of.ensures) at (loops.each_goes g.H.PlainHost.table c.args.context.now c.args.words.now c.args.body.now c.in_ok-lists.lists (c.in_ok-lists.ensures.gave (codes "foreach" ∷ []) 0 one refl)))

pub loops::eval_each-returns-in_err-spend-clause-ran : goal.loops::eval_each-returns-in_err-spend-clause-ran
loops::eval_each-returns-in_err-spend-clause-ran g t c =
    c.loop-number.invariant.closes _ _ (rw (loops.one_less c.most_turns-number-end.result c.loop-number.number c.loop-number-test.true) ((spend_gave c.loop-number.run c.spend.new.self c.loop-number.host (Err _) c.in_err-spend.ensures.spends).went true (loops.row_in g.H.PlainHost.table c.args.context.now c.args.words.now c.args.body.now (rows_view c.in_ok-rows.rows) _ c.loop-number.number)))

pub loops::eval_each-returns-in_err-kept-clause-ran : goal.loops::eval_each-returns-in_err-kept-clause-ran
loops::eval_each-returns-in_err-kept-clause-ran g t c =
    rw c.in_err-kept.ensures.noted (c.loop-number.invariant.closes _ _ (rw (loops.one_less c.most_turns-number-end.result c.loop-number.number c.loop-number-test.true) (((spend_gave c.loop-number.run c.spend.new.self c.loop-number.host (Ok _) c.in_ok-spend.ensures.spends).went true (loops.row_in g.H.PlainHost.table c.args.context.now c.args.words.now c.args.body.now (rows_view c.in_ok-rows.rows) _ c.loop-number.number)).closes _ _
    (change_fails _ (turn_assigned (setting_of g.H.PlainHost.table c.args.context.now).statics c.loop-number.number (rows_view c.in_ok-rows.rows)) c.set_turn-set.result _ c.in_err-kept.ensures.kept (rw c.deref-in-loop-number.ensures.value at c.set_turn-set.ensures)))))

pub loops::eval_each-returns-then-is_err-clause-ran : goal.loops::eval_each-returns-then-is_err-clause-ran
loops::eval_each-returns-then-is_err-clause-ran g t c =
    c.loop-number.invariant.closes _ _ (rw (loops.one_less c.most_turns-number-end.result c.loop-number.number c.loop-number-test.true) (rw (halts_is c.eval_body.result (cc (c.is_err.ensures.value, c.if-is_err.true))) at (loops.row_went g.H.PlainHost.table c.args.context.now c.args.words.now c.args.body.now (rows_view c.in_ok-rows.rows) (c.most_turns-number-end.result - (c.loop-number.number + 1)) c.loop-number.number c.loop-number.run c.spend.new.self c.loop-number.host c.set_turn-set.new.vars c.set_turn-set.result _ _ c.eval_body.result c.in_ok-spend.ensures.spends c.in_ok-kept.ensures.kept (rw c.deref-in-loop-number.ensures.value at c.set_turn-set.ensures)
    (rw c.in_ok-kept.ensures.noted at (c.eval_body.ensures (count (trees_of (nodes_view c.args.words.now))))))))

pub loops::eval_each-loop-number-preserved : goal.loops::eval_each-loop-number-preserved
loops::eval_each-loop-number-preserved g t c =
    goes_then c.loop-number.invariant (rw (loops.one_less c.most_turns-number-end.result c.loop-number.number c.loop-number-test.true) (rw (ok_is c.eval_body.result (cc (c.is_err.ensures.value, c.if-is_err.false))) at (loops.row_went g.H.PlainHost.table c.args.context.now c.args.words.now c.args.body.now (rows_view c.in_ok-rows.rows) (c.most_turns-number-end.result - (c.loop-number.number + 1)) c.loop-number.number c.loop-number.run c.spend.new.self c.loop-number.host c.set_turn-set.new.vars c.set_turn-set.result _ _ c.eval_body.result c.in_ok-spend.ensures.spends c.in_ok-kept.ensures.kept (rw c.deref-in-loop-number.ensures.value at c.set_turn-set.ensures)
    (rw c.in_ok-kept.ensures.noted at (c.eval_body.ensures (count (trees_of (nodes_view c.args.words.now))))))))

pub loops::eval_each-returns-clause-ran : goal.loops::eval_each-returns-clause-ran
loops::eval_each-returns-clause-ran g t c =
    rw c.nothing.ensures.noted (c.loop-number.invariant.closes _ _ (rw (loops.none_left c.most_turns-number-end.result c.loop-number.number c.loop-number-test.false) (ends_ran (Value []))))

pub catches::eval_catch-returns-clause-ran : goal.catches::eval_catch-returns-clause-ran
catches::eval_catch-returns-clause-ran g t c =
    paid_ran 1 (controls.catch_unheard (setting_of g.H.PlainHost.table c.args.context.now).statics c.eval_tree.new.run c.caught.new.run c.eval_tree.new.host (child_ran _ _ free 0 (node_view c.args.body.now) c.eval_tree.ensures.ran) c.caught.ensures.caught)

pub catches::eval_catch_in-returns-in_err-names-clause-ran : goal.catches::eval_catch_in-returns-in_err-names-clause-ran
catches::eval_catch_in-returns-in_err-names-clause-ran g t c =
    (paid_gave 1 (Err _) (rw c.from_ref-name.ensures.value at (c.in_err-names.ensures.gave (codes "catch" ∷ []) 1 one refl))).went true (caught_in (setting_of g.H.PlainHost.table c.args.context.now).statics (child free 0 (node_view c.args.body.now) (meaning_of g.H.PlainHost.table c.args.context.now (node_view c.args.body.now))))

pub catches::eval_catch_in-returns-clause-ran : goal.catches::eval_catch_in-returns-clause-ran
catches::eval_catch_in-returns-clause-ran g t c =
    ((paid_gave 1 (Ok _) (rw c.from_ref-name.ensures.value at (c.in_ok-names.ensures.gave (codes "catch" ∷ []) 1 one refl))).went true (caught_in (setting_of g.H.PlainHost.table c.args.context.now).statics (child free 0 (node_view c.args.body.now) (meaning_of g.H.PlainHost.table c.args.context.now (node_view c.args.body.now))))).closes _ _
    (controls.catch_heard _ (slice_get c.in_ok-names.names 0) c.eval_tree.new.run c.caught.new.run c.eval_tree.new.host (child_ran _ _ free 0 (node_view c.args.body.now) c.eval_tree.ensures.ran) (rw c.get.ensures at c.caught.ensures.caught))

pub calls::eval_call-returns-in_err-call-clause-ran : goal.calls::eval_call-returns-in_err-call-clause-ran
calls::eval_call-returns-in_err-call-clause-ran g t c =
    rw c.in_err-call.ensures.noted (kept_fails c.args.wanted (called (setting_of g.H.PlainHost.table c.args.context.now) (inner_of g.H.PlainHost.table c.args.context.now)) c.bound.result _ (λ f path st. refl) c.in_err-call.ensures.kept (λ f is. rw is at c.bound.ensures))

pub calls::eval_call-returns-clause-ran : goal.calls::eval_call-returns-clause-ran
calls::eval_call-returns-clause-ran g t c =
    let entered = rw (ok_is c.enter_proc.result (cc (c.is_err.ensures.value, c.if-is_err.false))) at c.enter_proc.ensures.ok in
    rw (rw (kept_was c.bound.result c.in_ok-call.call c.in_ok-call.ensures.kept) at c.bound.ensures)
    (commands.call_ran _ c.args.wanted c.args.context.now.room.expressions c.args.context.now.room.calls (call_view c.in_ok-call.call) (stand c.args.run.now c.args.host.now) c.eval_procedure.new.run c.leave.new.run c.eval_procedure.new.host (rw (entered, c.in_ok-call.ensures.noted) at c.eval_procedure.ensures.ran) c.leave.ensures.left)

pub calls::eval_procedure-returns-in_err-kept-clause-ran : goal.calls::eval_procedure-returns-in_err-kept-clause-ran
calls::eval_procedure-returns-in_err-kept-clause-ran g t c =
    rw c.in_err-kept.ensures.noted (change_fails _ (commands.set_by (setting_of g.H.PlainHost.table c.args.context.now) (call_view c.args.call.now)) c.set_parameters-set.result (commands.body_in (setting_of g.H.PlainHost.table c.args.context.now) c.args.context.now.room.expressions c.args.context.now.room.calls (call_view c.args.call.now)) c.in_err-kept.ensures.kept c.set_parameters-set.ensures)

pub calls::eval_procedure-returns-in_default-clause-ran : goal.calls::eval_procedure-returns-in_default-clause-ran
calls::eval_procedure-returns-in_default-clause-ran g t c =
    rw (c.raise.ensures, c.in_ok-kept.ensures.noted) ((change_goes (commands.set_by (setting_of g.H.PlainHost.table c.args.context.now) (call_view c.args.call.now)) c.set_parameters-set.result _ (commands.body_in (setting_of g.H.PlainHost.table c.args.context.now) c.args.context.now.room.expressions c.args.context.now.room.calls (call_view c.args.call.now)) c.in_ok-kept.ensures.kept c.set_parameters-set.ensures).closes _ _
    (commands.body_deep _ _ _ (call_view c.args.call.now) (fault_end c.too_deep.result) (commands.none_more _ c.in_default.ensures) (fault_is too_deep _ c.too_deep.ensures)))

pub calls::eval_procedure-returns-clause-ran : goal.calls::eval_procedure-returns-clause-ran
calls::eval_procedure-returns-clause-ran g t c =
    (change_goes (commands.set_by (setting_of g.H.PlainHost.table c.args.context.now) (call_view c.args.call.now)) c.set_parameters-set.result _ (commands.body_in (setting_of g.H.PlainHost.table c.args.context.now) c.args.context.now.room.expressions c.args.context.now.room.calls (call_view c.args.call.now)) c.in_ok-kept.ensures.kept c.set_parameters-set.ensures).closes _ _
    (commands.body_ran _ _ _ c.in-Some.calls (call_view c.args.call.now) (commands.one_more _ _ c.in-Some.ensures) (rw c.in_ok-kept.ensures.noted at c.eval_tree.ensures.ran))

pub calls::eval_expression-returns-in_err-tree-clause-ran : goal.calls::eval_expression-returns-in_err-tree-clause-ran
calls::eval_expression-returns-in_err-tree-clause-ran g t c =
    rw c.in_err-tree.ensures.noted (kept_fails true (expression_read (inner_of g.H.PlainHost.table c.args.context.now)) c.read_expression.result _ (λ f path st. refl) c.in_err-tree.ensures.kept (λ f is. rw is at c.read_expression.ensures))

pub calls::eval_expression-returns-in_default-clause-ran : goal.calls::eval_expression-returns-in_default-clause-ran
calls::eval_expression-returns-in_default-clause-ran g t c =
    rw (c.raise.ensures, c.in_ok-tree.ensures.noted, rw (kept_was c.read_expression.result c.in_ok-tree.tree c.in_ok-tree.ensures.kept) at c.read_expression.ensures) (commands.read_deep _ c.args.context.now.room.expressions c.args.context.now.room.calls (node_view c.in_ok-tree.tree) (fault_end c.too_deep.result) (stand c.args.run.now c.args.host.now) (commands.none_more _ c.in_default.ensures) (fault_is too_deep _ c.too_deep.ensures))

pub calls::eval_expression-returns-in_err-eval_tree-clause-ran : goal.calls::eval_expression-returns-in_err-eval_tree-clause-ran
calls::eval_expression-returns-in_err-eval_tree-clause-ran g t c =
    rw (rw (kept_was c.read_expression.result c.in_ok-tree.tree c.in_ok-tree.ensures.kept) at c.read_expression.ensures) (valued true _ _ (Err _) c.in_err-eval_tree.ensures.ended (commands.read_ran _ c.args.context.now.room.expressions c.args.context.now.room.calls c.in-Some.expressions (node_view c.in_ok-tree.tree) (commands.one_more _ _ c.in-Some.ensures) (rw c.in_ok-tree.ensures.noted at c.in_err-eval_tree.ensures.ran)))

pub calls::eval_expression-returns-clause-ran : goal.calls::eval_expression-returns-clause-ran
calls::eval_expression-returns-clause-ran g t c =
    rw (c.settle.ensures.noted, c.take-value.ensures.noted, rw (kept_was c.read_expression.result c.in_ok-tree.tree c.in_ok-tree.ensures.kept) at c.read_expression.ensures) ((valued true _ _ (Ok _) c.in_ok-eval_tree.ensures.ended (commands.read_ran _ c.args.context.now.room.expressions c.args.context.now.room.calls c.in-Some.expressions (node_view c.in_ok-tree.tree) (commands.one_more _ _ c.in-Some.ensures) (rw c.in_ok-tree.ensures.noted at c.in_ok-eval_tree.ensures.ran))).closes _ _
    (gives_ran c.whole_text.result _ (rw c.take-value.ensures.value at c.whole_text.ensures)))

pub commands::eval_command-returns-in_err-words-clause-ran : goal.commands::eval_command-returns-in_err-words-clause-ran
commands::eval_command-returns-in_err-words-clause-ran g t c =
    (c.in_err-words.ensures.gave [] 0 one refl).went c.args.wanted (command (setting_of g.H.PlainHost.table c.args.context.now) (inner_of g.H.PlainHost.table c.args.context.now) c.args.verb)

pub commands::eval_command-returns-in-Call-clause-ran : goal.commands::eval_command-returns-in-Call-clause-ran
commands::eval_command-returns-in-Call-clause-ran g t c =
    ((c.in_ok-words.ensures.gave [] 0 one refl).went c.args.wanted (command (setting_of g.H.PlainHost.table c.args.context.now) (inner_of g.H.PlainHost.table c.args.context.now) c.args.verb)).closes _ _ (rw c.in-Call.is c.eval_call.ensures.ran)

pub commands::eval_command-returns-in-ExprOfWords-clause-ran : goal.commands::eval_command-returns-in-ExprOfWords-clause-ran
commands::eval_command-returns-in-ExprOfWords-clause-ran g t c =
    ((c.in_ok-words.ensures.gave [] 0 one refl).went c.args.wanted (command (setting_of g.H.PlainHost.table c.args.context.now) (inner_of g.H.PlainHost.table c.args.context.now) c.args.verb)).closes _ _ (rw c.in-ExprOfWords.is (any_ran _ c.eval_expression.ensures.ran))

pub commands::eval_command-returns-clause-ran : goal.commands::eval_command-returns-clause-ran
commands::eval_command-returns-clause-ran g t c =
    ((c.in_ok-words.ensures.gave [] 0 one refl).went c.args.wanted (command (setting_of g.H.PlainHost.table c.args.context.now) (inner_of g.H.PlainHost.table c.args.context.now) c.args.verb)).closes _ _ c.by_words.ensures.ran
