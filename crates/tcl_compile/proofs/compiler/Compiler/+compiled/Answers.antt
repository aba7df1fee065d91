use Rattle.std.proofs.Common.{◌≡◌, ◌-◌, ◌<◌, [], ◌∷◌, ◌++◌, length, get_or, map, cond, refl, sym, ap, ap₂, subst, ◌∙◌, arith, true, false, rules}
use Rattle.std.proofs.lemmas.List.{length-map}
use Rattle.std.proofs.lemmas.Result.{IfOk-weaker}
use Rattle.std.specs.Prelude.{option_map, Some, ◌%◌, ◌==◌}
use Rattle.tcl_expr.proofs.ExpressionViews as read
use Rattle.tcl_expr.specs.ExpressionView.{expr_view, more_view, cases_view}
use Rattle.tcl_words.specs.View.{command_view, part_view, word_view, parts_of, script_view}
use Rattle.tcl_words.specs.declared.script.Word.{out-Word}
use Rattle.tcl_trees.specs.CaseList.{case_item, listed, listed_of, pattern_item}
use Rattle.tcl_trees.specs.Compiled.{level, text_at, read_script, read_expression, expression_text_at}
use Rattle.tcl_trees.specs.Compiled.{inner_place, tree_of}
use Rattle.tcl_trees.specs.Compiling.{command_at, script_at}
use Rattle.tcl_trees.specs.Conditions.{expression_at, operands_at, values_at, row_of, choice_of}
use Rattle.tcl_trees.specs.Conditions.{operand_to, operand_at}
use Rattle.tcl_trees.specs.Controls.{arm_at, case_word, for_at, while_at}
use Rattle.tcl_trees.specs.Flaws.{noted, place_in}
use Rattle.tcl_compile.specs.IfView.{arm_view}
use Rattle.tcl_trees.specs.Making.{Cases, flawed, in_turn, no_cases, one_too_many, word_of}
use Rattle.tcl_trees.specs.Opened.{scanned}
use Rattle.tcl_trees.specs.Pieces.{all_commands}
use Rattle.tcl_compile.specs.Reads.{seen_expression}
use Rattle.tcl_trees.specs.Tree.{plain, loop, row, choice, operands_of, values_of}
use Rattle.tcl_trees.specs.TreeView.{node_view, nodes_view, operands_view, values_view}
use Rattle.tcl_trees.specs.Words.{part_at, parts_at, word_at, word_place}
use Rattle.tcl_trees.specs.declared.flaw.Flaw.TheVariants.{Expr, Arity}
use Rattle.tcl_trees.specs.declared.shapes.Shape.TheVariants as shape
use Rattle.tcl_compile.proofs.ControlTurns.{three_items, five_items, while_made, for_made, catch_made}
use Rattle.tcl_trees.specs.Forms.{catch_form}
use Rattle.tcl_compile.proofs.ExpressionTurns.{view-Parts, operands_turn, values_turn}
use Rattle.tcl_compile.proofs.Levels.{level_none, level_some, shown_none, shown_no_cases, placed_at, body_none}
use Rattle.tcl_compile.proofs.Levels.{body_some, condition_none, condition_some}
use Rattle.tcl_trees.proofs.PieceLists.{script_commands, all_parts-of}
use Rattle.tcl_compile.proofs.Levels.{command_shaped, word_plain, bracket_part, under_within, under_beyond, item_body, inner_seen}
use Rattle.tcl_compile.proofs.TreeViews.{view-Plain, view-Word, view-Row, view-Choice}
use Rattle.tcl_compile.proofs.Turns.{gathered_none, gathered_turn, nodes_push, values_push, arm_of}
use Rattle.tcl_compile.proofs.Turns.{cases_then, cases_turn, cases_end, end_seen, end_told}
use Rattle.tcl_compile.proofs.Zipped.{ok_is, pushed, kept, kept_beside}
use Rattle.tcl_compile.proofs.compiler.Compiler.+compiled.Goals as goal

pub body-returns-then-levels-eq0 : goal.body-returns-then-levels-eq0
body-returns-then-levels-eq0 t c =
    let w = c.args.word.now in
    ap (λ l. l.body c.args.base (word_view w) c.args.self.now.findings) (level_none c.args.levels c.if-levels-eq0.true)
    ∙ ap (λ p. flawed (one_too_many p) c.args.self.now.findings) (placed_at w c.args.base ∙ sym c.place_in.ensures)
    ∙ c.too_deep.ensures

pub body-returns-in-None : goal.body-returns-in-None
body-returns-in-None t c =
    let w = c.args.word.now in
    ap (λ l. l.body c.args.base (word_view w) c.args.self.now.findings) (level_some c.args.levels (omega arith))
    ∙ body_none w (level (c.args.levels - 1)) (c.args.levels - 1) c.args.base c.args.self.now.findings c.in-None.is
    ∙ c.no_body.ensures

pub condition-returns-then-levels-eq0 : goal.condition-returns-then-levels-eq0
condition-returns-then-levels-eq0 t c =
    let w = c.args.word.now in
    ap (λ l. l.condition c.args.base (word_view w) c.args.self.now.findings) (level_none c.args.levels c.if-levels-eq0.true)
    ∙ ap (λ p. flawed (one_too_many p) c.args.self.now.findings) (placed_at w c.args.base ∙ sym c.place_in.ensures)
    ∙ c.too_deep.ensures

pub condition-returns-in-None : goal.condition-returns-in-None
condition-returns-in-None t c =
    let w = c.args.word.now in
    ap (λ l. l.condition c.args.base (word_view w) c.args.self.now.findings) (level_some c.args.levels (omega arith))
    ∙ condition_none w (level (c.args.levels - 1)) (c.args.levels - 1) c.args.base c.args.self.now.findings c.in-None.is
    ∙ c.no_body.ensures

pub body-returns-in-Some : goal.body-returns-in-Some
body-returns-in-Some t c =
    let w = c.args.word.now in
    let inner = level (c.args.levels - 1) in
    let s = c.args.self.now.findings in
    let same = ap (λ l. l.body c.args.base (word_view w) s) (level_some c.args.levels (omega arith))
    ∙ body_some w inner (c.args.levels - 1) c.args.base s c.in-Some.raw c.in-Some.is
    ∙ ap (λ r. text_at inner r (place_in c.args.base (out-Word w).inner.start) c.in-Some.raw s) (sym c.room_inside-room.ensures.value)
    ∙ ap (λ p. text_at inner c.room_inside-room.result p c.in-Some.raw s) (sym c.place_in-place.ensures)
    ∙ ap (λ b. text_at inner c.room_inside-room.result c.place_in-place.result b s) (sym c.as_bytes.ensures) in
    IfOk-weaker c.text.result _ _ (λ v is. same ∙ is) c.text.ensures

pub condition-returns-in-Some : goal.condition-returns-in-Some
condition-returns-in-Some t c =
    let w = c.args.word.now in
    let inner = level (c.args.levels - 1) in
    let s = c.args.self.now.findings in
    let same = ap (λ l. l.condition c.args.base (word_view w) s) (level_some c.args.levels (omega arith))
    ∙ condition_some w inner (c.args.levels - 1) c.args.base s c.in-Some.raw c.in-Some.is
    ∙ ap (λ r. expression_text_at inner r (place_in c.args.base (out-Word w).inner.start) c.in-Some.raw s) (sym c.room_inside-room.ensures.value)
    ∙ ap (λ p. expression_text_at inner c.room_inside-room.result p c.in-Some.raw s) (sym c.place_in-place.ensures)
    ∙ ap (λ b. expression_text_at inner c.room_inside-room.result c.place_in-place.result b s) (sym c.as_bytes.ensures) in
    IfOk-weaker c.expression_text.result _ _ (λ v is. same ∙ is) c.expression_text.ensures

pub enclosed-returns-then-levels-eq0 : goal.enclosed-returns-then-levels-eq0
enclosed-returns-then-levels-eq0 t c =
    ap (λ l. l.parts c.args.base c.args.at (parts_of (map part_view c.args.parts.now)) c.args.self.now.findings) (level_none c.args.levels c.if-levels-eq0.true)
    ∙ shown_none _ c.args.self.now.findings c.note_deep.new.self.findings c.new.result.items c.new.ensures.items
    (subst (λ p. c.note_deep.new.self.findings ≡ noted (one_too_many p) c.args.self.now.findings) c.place_in.ensures c.note_deep.ensures)

pub enclosed-returns : goal.enclosed-returns
enclosed-returns t c =
    let same = ap (λ l. l.parts c.args.base c.args.at (parts_of (map part_view c.args.parts.now)) c.args.self.now.findings) (level_some c.args.levels (omega arith))
    ∙ ap (λ ps. parts_at (level (c.args.levels - 1)) c.args.base ps c.args.self.now.findings) (all_parts-of (map part_view c.args.parts.now)) in
    IfOk-weaker c.parts.result _ _ (λ v is. same ∙ is) c.parts.ensures

pub parts-loop-part-init : goal.parts-loop-part-init
parts-loop-part-init t c =
    gathered_none (part_at (level c.args.levels) c.args.base) c.args.self.now.findings
    ∙ ap (λ l. (nodes_view l, c.args.self.now.findings)) (sym c.new-nodes.ensures.items)

pub parts-loop-part-preserved : goal.parts-loop-part-preserved
parts-loop-part-preserved t c =
    let l = c.loop-part in
    gathered_turn (part_at (level c.args.levels) c.args.base) part_view c.args.parts.now l.part-index c.part-item.result (omega arith) c.part-item.is
    c.args.self.now.findings l.self.findings c.part.new.self.findings (nodes_view l.nodes.items) (node_view c.in_ok-node.node) l.invariant c.in_ok-node.ensures
    ∙ ap (λ x. (x, c.part.new.self.findings)) (nodes_push l.nodes.items c.push.new.self.items c.in_ok-node.node c.in_ok-push.ensures.items)

pub words-loop-word-init : goal.words-loop-word-init
words-loop-word-init t c =
    gathered_none (word_at (level c.args.levels) c.args.base) c.args.self.now.findings
    ∙ ap (λ l. (nodes_view l, c.args.self.now.findings)) (sym c.new-nodes.ensures.items)

pub words-loop-word-preserved : goal.words-loop-word-preserved
words-loop-word-preserved t c =
    let l = c.loop-word in
    gathered_turn (word_at (level c.args.levels) c.args.base) word_view c.args.words.now l.word-index c.word-item.result (omega arith) c.word-item.is
    c.args.self.now.findings l.self.findings c.word.new.self.findings (nodes_view l.nodes.items) (node_view c.in_ok-node.node) l.invariant c.in_ok-node.ensures
    ∙ ap (λ x. (x, c.word.new.self.findings)) (nodes_push l.nodes.items c.push.new.self.items c.in_ok-node.node c.in_ok-push.ensures.items)

pub script-loop-command-init : goal.script-loop-command-init
script-loop-command-init t c =
    gathered_none (command_at (level c.args.levels) c.args.base) c.args.self.now.findings
    ∙ ap (λ l. (nodes_view l, c.args.self.now.findings)) (sym c.new-nodes.ensures.items)

pub script-loop-command-preserved : goal.script-loop-command-preserved
script-loop-command-preserved t c =
    let l = c.loop-command in
    gathered_turn (command_at (level c.args.levels) c.args.base) command_view c.args.commands.now l.command-index c.command-item.result (omega arith) c.command-item.is
    c.args.self.now.findings l.self.findings c.command.new.self.findings (nodes_view l.nodes.items) (node_view c.in_ok-node.node) l.invariant c.in_ok-node.ensures
    ∙ ap (λ x. (x, c.command.new.self.findings)) (nodes_push l.nodes.items c.push.new.self.items c.in_ok-node.node c.in_ok-push.ensures.items)

pub arms-loop-arm-init : goal.arms-loop-arm-init
arms-loop-arm-init t c =
    gathered_none (arm_at (level c.args.levels) c.args.base) c.args.self.now.findings
    ∙ ap (λ l. (values_view l, c.args.self.now.findings)) (sym c.new-values.ensures.items)

pub arms-loop-arm-preserved : goal.arms-loop-arm-preserved
arms-loop-arm-preserved t c =
    let l = c.loop-arm in
    let base = c.args.base in
    let inner = level c.args.levels in
    let a = c.arm-item.result in
    let v = c.in_ok-value.value in
    let now = ap (λ r. arm_of r (inner.body base (word_view a.body.now) r.1)) (kept c.in_ok-condition.ensures c.in_ok-value.ensures.0)
    ∙ ap (arm_of (node_view v.0, c.condition.new.self.findings)) (ok_is _ c.body.ensures c.in_ok-value.ensures.1) in
    gathered_turn (arm_at inner base) arm_view c.args.arms.now l.arm-index a (omega arith) c.arm-item.is
    c.args.self.now.findings l.self.findings c.body.new.self.findings (values_view l.values.items) (node_view v.0, node_view v.1) l.invariant now
    ∙ ap (λ x. (x, c.body.new.self.findings)) (values_push l.values.items c.push.new.self.items v.0 v.1 c.in_ok-push.ensures.items)

pub text-returns : goal.text-returns
text-returns t c =
    let inner = level c.args.levels in
    let s = c.args.self.now.findings in
    let read = ap (λ r. read_script inner c.args.place r s) c.in_ok-script.ensures
    ∙ ap (script_at inner c.args.place (all_commands (script_view c.in_ok-script.script))) (sym c.note_fault.ensures)
    ∙ ap (λ cs. script_at inner c.args.place cs c.note_fault.new.self.findings)
    (script_commands c.in_ok-script.script ∙ ap (map command_view) (sym c.deref.ensures.value)) in
    IfOk-weaker c.script.result _ _ (λ v is. read ∙ is) c.script.ensures

pub expression_text-returns-in_ok-node-in-Ok : goal.expression_text-returns-in_ok-node-in-Ok
expression_text-returns-in_ok-node-in-Ok t c =
    let s = c.args.self.now.findings in
    let inner = level c.args.levels in
    ap (λ r. read_expression inner c.args.place c.args.text.now r s) c.in_ok-expr.ensures
    ∙ ap (λ r. read_expression inner c.args.place c.args.text.now (seen_expression r) s) c.in-Ok.is
    ∙ ap tree_of c.in_ok-node-in-Ok.ensures

pub expression_text-returns-in-Err : goal.expression_text-returns-in-Err
expression_text-returns-in-Err t c =
    let s = c.args.self.now.findings in
    let inner = level c.args.levels in
    ap (λ r. read_expression inner c.args.place c.args.text.now r s) c.in_ok-expr.ensures
    ∙ ap (λ r. read_expression inner c.args.place c.args.text.now (seen_expression r) s) c.in-Err.is
    ∙ ap (λ f. flawed (Expr f) s) (sym c.moved_misread.ensures)
    ∙ ap₂ (λ n x. (n, x)) (sym c.nothing.ensures) (sym c.note.ensures)

pub part-returns-then-levels-eq0 : goal.part-returns-then-levels-eq0
part-returns-then-levels-eq0 t c =
    let s = c.args.self.now.findings in
    bracket_part (level c.args.levels) c.args.base s c.args.part.now c.in-Bracket.span c.in-Bracket.script c.in-Bracket.is
    ∙ ap (λ l. l.script c.args.base c.in-Bracket.span.start (script_view c.in-Bracket.script) s) (level_none c.args.levels c.if-levels-eq0.true)
    ∙ ap (λ p. flawed (one_too_many p) s) (sym c.place_in.ensures)
    ∙ c.too_deep.ensures

pub part-returns-else-levels-eq0 : goal.part-returns-else-levels-eq0
part-returns-else-levels-eq0 t c =
    let s = c.args.self.now.findings in
    let same = bracket_part (level c.args.levels) c.args.base s c.args.part.now c.in-Bracket.span c.in-Bracket.script c.in-Bracket.is
    ∙ ap (λ l. l.script c.args.base c.in-Bracket.span.start (script_view c.in-Bracket.script) s) (level_some c.args.levels (omega arith))
    ∙ ap (λ cs. script_at (level (c.args.levels - 1)) c.args.base cs s)
    (script_commands c.in-Bracket.script ∙ ap (map command_view) (sym c.deref-in-Bracket.ensures.value)) in
    IfOk-weaker c.script.result _ _ (λ v is. same ∙ is) c.script.ensures

pub word-returns : goal.word-returns
word-returns t c =
    let s = c.args.self.now.findings in
    let inner = level c.args.levels in
    word_plain inner c.args.base s c.args.word.now (sym c.is_quoted.ensures ∙ c.if-is_quoted.false)
    ∙ ap (λ ps. word_of (parts_at inner c.args.base (map part_view ps) s)) (sym c.deref-2.ensures.value)
    ∙ ap word_of c.in_ok-parts-2.ensures
    ∙ ap (λ x. (x, c.parts.new.self.findings)) (sym (view-Word c.in_ok-parts-2.parts))

pub expression-returns-in_ok-new-in-Row : goal.expression-returns-in_ok-new-in-Row
expression-returns-in_ok-new-in-Row t c =
    let s = c.args.self.now.findings in
    let o = c.args.opened in
    let inner = level c.args.levels in
    let base = c.args.base in
    let text = c.args.text.now in
    let mid = c.in_ok-first-in-Row.mid in
    let both = c.in_ok-first-in-Row-2 in
    let rest = both.rest in
    ap (λ e. expression_at inner base text e o s) (ap expr_view c.in-Row.is ∙ read.view-Row c.in-Row.first c.in-Row.rest)
    ∙ ap (λ r. row_of r.0.0 (operands_at inner base text (more_view c.in-Row.rest.items) r.0.1 r.1))
    (ap (λ e. expression_at inner base text (expr_view e) o s) (sym c.deref-in-Row.ensures) ∙ kept_beside c.in_ok-first-in-Row.ensures both.ensures.0)
    ∙ ap (row_of (node_view both.first)) (ap (λ xs. operands_at inner base text (more_view xs) mid c.expression-in-Row.new.self.findings) (sym c.deref-in-Row-2.ensures.value)
    ∙ ok_is _ c.operands-rest.ensures both.ensures.1)
    ∙ ap (λ x. ((x, both.end), c.operands-rest.new.self.findings)) (sym (view-Row c.in_ok-new-in-Row.field-0 rest
    ∙ ap (λ n. row (node_view n) (operands_of (operands_view rest.items))) c.in_ok-new-in-Row.ensures.ok))

pub expression-returns-in_ok-new-in-Choice : goal.expression-returns-in_ok-new-in-Choice
expression-returns-in_ok-new-in-Choice t c =
    let s = c.args.self.now.findings in
    let o = c.args.opened in
    let inner = level c.args.levels in
    let base = c.args.base in
    let text = c.args.text.now in
    let last = c.in_ok-last-in-Choice.last in
    let mid = c.in_ok-cases-in-Choice.mid in
    let values = c.in_ok-cases-in-Choice.cases in
    ap (λ e. expression_at inner base text e o s) (ap expr_view c.in-Choice.is ∙ read.view-Choice c.in-Choice.cases c.in-Choice.last)
    ∙ ap (λ r. choice_of r.0.0 (expression_at inner base text (expr_view c.in-Choice.last.value) r.0.1 r.1))
    (ap (λ xs. values_at inner base text (cases_view xs) o s) (sym c.deref-in-Choice.ensures.value) ∙ c.in_ok-cases-in-Choice.ensures)
    ∙ ap (choice_of (values_view values.items)) (ap (λ e. expression_at inner base text (expr_view e) mid c.values.new.self.findings) (sym c.deref-in-Choice-2.ensures)
    ∙ c.in_ok-last-in-Choice.ensures)
    ∙ ap (λ x. ((x, c.in_ok-last-in-Choice.end), c.expression-in-Choice.new.self.findings)) (sym (view-Choice values c.in_ok-new-in-Choice.field-0
    ∙ ap (λ n. choice (values_of (values_view values.items)) (node_view n)) c.in_ok-new-in-Choice.ensures.ok))

pub operands-loop-joint-preserved : goal.operands-loop-joint-preserved
operands-loop-joint-preserved t c =
    let l = c.loop-joint in
    operands_turn (level c.args.levels) c.args.base c.args.text.now c.args.rest.now l.joint-index c.loop-joint-item.result (omega arith) c.loop-joint-item.is
    c.args.start l.opened c.in_ok-operand.end c.args.self.now.findings l.self.findings c.expression.new.self.findings l.operands.items c.push.new.self.items c.in_ok-operand.operand
    l.invariant c.in_ok-operand.ensures c.in_ok-push.ensures.items

pub values-loop-condition-preserved : goal.values-loop-condition-preserved
values-loop-condition-preserved t c =
    let l = c.loop-condition in
    let both = c.in_ok-condition-2 in
    values_turn (level c.args.levels) c.args.base c.args.text.now c.args.cases.now l.condition-index c.loop-condition-item.result (omega arith) c.loop-condition-item.is
    c.args.start l.opened c.in_ok-condition.mid both.end c.args.self.now.findings l.self.findings c.expression.new.self.findings c.expression-value.new.self.findings
    l.values.items c.push.new.self.items both.condition both.value
    l.invariant (kept_beside c.in_ok-condition.ensures both.ensures.0) (ok_is _ c.expression-value.ensures both.ensures.1) c.in_ok-push.ensures.items

pub under-returns-then-openers-levels : goal.under-returns-then-openers-levels
under-returns-then-openers-levels t c =
    let s = c.args.self.now.findings in
    ap (λ f. f s) (under_beyond c.args.levels c.args.openers c.args.base (map part_view c.args.parts.now) (omega arith))
    ∙ shown_none _ s c.note_deep.new.self.findings c.new.result.items c.new.ensures.items c.note_deep.ensures

pub under-returns : goal.under-returns
under-returns t c =
    let same = ap (λ f. f c.args.self.now.findings) (under_within c.args.levels c.args.openers c.args.base (map part_view c.args.parts.now) (omega arith)) in
    IfOk-weaker c.parts.result _ _ (λ v is. same ∙ is) c.parts.ensures

pub expression-returns-in_ok-nodes-in-Parts : goal.expression-returns-in_ok-nodes-in-Parts
expression-returns-in_ok-nodes-in-Parts t c =
    let s = c.args.self.now.findings in
    let o = c.args.opened in
    let inner = level c.args.levels in
    let base = c.args.base in
    let text = c.args.text.now in
    let ps = c.in-Parts.parts.items in
    let q = c.scanned-scanned.result in
    ap (λ e. expression_at inner base text e o s) (ap expr_view c.in-Parts.is ∙ view-Parts c.in-Parts.parts)
    ∙ ap (λ l. operand_at inner base l (scanned text l o) s) (all_parts-of (map part_view ps))
    ∙ ap (λ x. operand_at inner base (map part_view ps) x s) (ap (λ l. scanned text (map part_view l) o) (sym c.deref.ensures.value)
    ∙ sym c.scanned-scanned.ensures)
    ∙ ap (λ l. operand_at inner base (map part_view l) q s) (sym c.deref-in-Parts.ensures.value)
    ∙ ap (operand_to q.quoted q.behind) c.in_ok-nodes-in-Parts.ensures
    ∙ ap (λ x. ((x, q.behind), c.under.new.self.findings)) (sym c.operand.ensures)

pub cases_inside-returns-then-levels-eq0 : goal.cases_inside-returns-then-levels-eq0
cases_inside-returns-then-levels-eq0 t c =
    let w = c.args.word.now in
    ap (λ l. l.cases c.args.base c.args.at (word_view w) c.args.self.now.findings) (level_none c.args.levels c.if-levels-eq0.true)
    ∙ shown_no_cases _ c.args.self.now.findings c.note_deep.new.self.findings c.new.result.items c.new-then-levels-eq0.result.items c.new.ensures.items c.new-then-levels-eq0.ensures.items
    (c.note_deep.ensures ∙ ap (λ p. noted (one_too_many p) c.args.self.now.findings) (c.place_in.ensures ∙ sym (placed_at w c.args.base)))

pub cases_inside-returns-in_default : goal.cases_inside-returns-in_default
cases_inside-returns-in_default t c =
    let w = c.args.word.now in
    let s = c.args.self.now.findings in
    let base = c.args.base in
    let inner = level (c.args.levels - 1) in
    let same = ap (λ l. l.cases base c.args.at (word_view w) s) (level_some c.args.levels (omega arith))
    ∙ ap (λ r. listed_of inner (place_in base (word_place (word_view w))) (place_in base c.args.at) (place_in base (inner_place (word_view w))) r s)
    (sym c.in_ok-items.ensures ∙ ap (option_map (λ v. v.items)) c.in_default.is) in
    same ∙ shown_no_cases _ s c.note_body.new.self.findings c.new-in_default.result.items c.new-in_default-2.result.items c.new-in_default.ensures.items c.new-in_default-2.ensures.items c.note_body.ensures

pub cases_inside-returns-then-len-ne0 : goal.cases_inside-returns-then-len-ne0
cases_inside-returns-then-len-ne0 t c =
    let w = c.args.word.now in
    let s = c.args.self.now.findings in
    let base = c.args.base in
    let inner = level (c.args.levels - 1) in
    let same = ap (λ l. l.cases base c.args.at (word_view w) s) (level_some c.args.levels (omega arith))
    ∙ ap (λ r. listed_of inner (place_in base (word_place (word_view w))) (place_in base c.args.at) (place_in base (inner_place (word_view w))) r s)
    (sym c.in_ok-items.ensures ∙ ap (option_map (λ v. v.items)) c.in-Some.is) in
    let odd : (length c.in-Some.items.items % 2 == 0) ≡ false = search rules in
    same ∙ ap (λ b. cond b (listed inner (place_in base (inner_place (word_view w))) c.in-Some.items.items s) (no_cases (Arity (place_in base c.args.at)) s)) odd
    ∙ shown_no_cases _ s c.note_number.new.self.findings c.new-then-len-ne0.result.items c.new-then-len-ne0-2.result.items c.new-then-len-ne0.ensures.items c.new-then-len-ne0-2.ensures.items c.note_number.ensures

pub cases_inside-returns : goal.cases_inside-returns
cases_inside-returns t c =
    let w = c.args.word.now in
    let s = c.args.self.now.findings in
    let base = c.args.base in
    let inner = level (c.args.levels - 1) in
    let items = c.in-Some.items.items in
    let same = ap (λ l. l.cases base c.args.at (word_view w) s) (level_some c.args.levels (omega arith))
    ∙ ap (λ r. listed_of inner (place_in base (word_place (word_view w))) (place_in base c.args.at) (place_in base (inner_place (word_view w))) r s)
    (sym c.in_ok-items.ensures ∙ ap (option_map (λ v. v.items)) c.in-Some.is) in
    let even : (length items % 2 == 0) ≡ true = search rules in
    let read = same ∙ ap (λ b. cond b (listed inner (place_in base (inner_place (word_view w))) items s) (no_cases (Arity (place_in base c.args.at)) s)) even
    ∙ ap (λ p. listed inner p items s) (ap (place_in base) (inner_seen w) ∙ sym c.place_in-2.ensures)
    ∙ ap (λ xs. listed inner c.place_in-2.result xs s) (sym c.deref.ensures.value) in
    IfOk-weaker c.listed.result _ _ (λ v is. read ∙ is) c.listed.ensures

pub case_item-returns-then-levels-eq0 : goal.case_item-returns-then-levels-eq0
case_item-returns-then-levels-eq0 t c =
    let s = c.args.self.now.findings in
    let item = c.args.item.now in
    let braced : item.braced ≡ true = search rules in
    item_body (level c.args.levels) 0 s c.args.place c.args.last item braced
    ∙ ap (λ l. l.inside (place_in c.args.place item.start) item.text s) (level_none c.args.levels c.if-levels-eq0.true)
    ∙ ap (λ p. flawed (one_too_many p) s) (sym c.place_in-start.ensures)
    ∙ c.too_deep.ensures

pub case_item-returns : goal.case_item-returns
case_item-returns t c =
    let s = c.args.self.now.findings in
    let item = c.args.item.now in
    let braced : item.braced ≡ true = search rules in
    let inner = level (c.args.levels - 1) in
    let room : c.args.levels - 1 - 1 ≡ c.args.levels - 2 = omega arith in
    let read = item_body (level c.args.levels) 0 s c.args.place c.args.last item braced
    ∙ ap (λ l. l.inside (place_in c.args.place item.start) item.text s) (level_some c.args.levels (omega arith))
    ∙ ap (λ r. text_at inner r (place_in c.args.place item.start) item.text s) (room ∙ sym c.saturating_sub-room.ensures)
    ∙ ap (λ p. text_at inner c.saturating_sub-room.result p item.text s) (sym c.place_in-start.ensures)
    ∙ ap (λ b. text_at inner c.saturating_sub-room.result c.place_in-start.result b s) (sym c.as_bytes.ensures) in
    IfOk-weaker c.text.result _ _ (λ v is. read ∙ is) c.text.ensures

pub command-returns-in-Words : goal.command-returns-in-Words
command-returns-in-Words t c =
    let same = command_shaped (level c.args.levels) c.args.base c.args.self.now.findings c.args.command.now c.as_slice-words.result.now (shape.Words c.in-Words.verb)
    c.as_slice-words.ensures.value (sym c.in-Words.is ∙ c.shape_of.ensures) in
    IfOk-weaker c.evaluated.result _ _ (λ v is. same ∙ is) c.evaluated.ensures

pub command-returns-in-Expr : goal.command-returns-in-Expr
command-returns-in-Expr t c =
    let same = command_shaped (level c.args.levels) c.args.base c.args.self.now.findings c.args.command.now c.as_slice-words.result.now shape.Expr
    c.as_slice-words.ensures.value (sym c.in-Expr.is ∙ c.shape_of.ensures) in
    IfOk-weaker c.expr.result _ _ (λ v is. same ∙ is) c.expr.ensures

pub command-returns-in-If : goal.command-returns-in-If
command-returns-in-If t c =
    let same = command_shaped (level c.args.levels) c.args.base c.args.self.now.findings c.args.command.now c.as_slice-words.result.now shape.If
    c.as_slice-words.ensures.value (sym c.in-If.is ∙ c.shape_of.ensures) in
    IfOk-weaker c.conditional.result _ _ (λ v is. same ∙ is) c.conditional.ensures

pub command-returns-in-Foreach : goal.command-returns-in-Foreach
command-returns-in-Foreach t c =
    let same = command_shaped (level c.args.levels) c.args.base c.args.self.now.findings c.args.command.now c.as_slice-words.result.now shape.Foreach
    c.as_slice-words.ensures.value (sym c.in-Foreach.is ∙ c.shape_of.ensures) in
    IfOk-weaker c.foreach.result _ _ (λ v is. same ∙ is) c.foreach.ensures

pub command-returns-in-Switch : goal.command-returns-in-Switch
command-returns-in-Switch t c =
    let same = command_shaped (level c.args.levels) c.args.base c.args.self.now.findings c.args.command.now c.as_slice-words.result.now shape.Switch
    c.as_slice-words.ensures.value (sym c.in-Switch.is ∙ c.shape_of.ensures) in
    IfOk-weaker c.switch.result _ _ (λ v is. same ∙ is) c.switch.ensures

pub while_loop-returns : goal.while_loop-returns
while_loop-returns t c =
    let inner = level c.args.levels in
    let ws = c.args.words.now in
    let test = c.test-item.result in
    let body = c.body-item.result in
    let both = c.in_ok-test-2 in
    let b = node_view both.body in
    let same = ap (λ l. while_at inner c.args.base c.args.at (map word_view l) c.args.self.now.findings) (three_items ws test body (omega arith) c.test-item.is c.body-item.is)
    ∙ while_made inner c.args.base c.args.at (word_view (get_or ws 0 test)) (word_view test) (word_view body) (node_view both.test) b
    c.args.self.now.findings c.condition.new.self.findings c.body.new.self.findings (kept c.in_ok-test.ensures both.ensures.0) (ok_is _ c.body.ensures both.ensures.1)
    ∙ ap₂ (λ x y. (loop x (node_view both.test) y b, c.body.new.self.findings)) (sym c.nothing.ensures) (sym c.nothing-2.ensures) in
    IfOk-weaker c.loop_of.result _ _ (λ v is. same ∙ ap (λ n. (n, c.body.new.self.findings)) (sym is)) c.loop_of.ensures

pub for_loop-returns : goal.for_loop-returns
for_loop-returns t c =
    let inner = level c.args.levels in
    let ws = c.args.words.now in
    let start = c.start-item.result in
    let two = c.in_ok-start-2 in
    let ends = c.in_ok-ends in
    let all = c.in_ok-start-3 in
    let same = ap (λ l. for_at inner c.args.base c.args.at (map word_view l) c.args.self.now.findings) (five_items ws start c.test-item.result c.next-item.result c.body-item.result (omega arith)
    c.start-item.is c.test-item.is c.next-item.is c.body-item.is)
    ∙ for_made inner c.args.base c.args.at (word_view (get_or ws 0 start)) (word_view start) (word_view c.test-item.result) (word_view c.next-item.result) (word_view c.body-item.result)
    (node_view all.start) (node_view all.test) (node_view all.next) (node_view all.body)
    c.args.self.now.findings c.body.new.self.findings c.condition.new.self.findings c.body-2.new.self.findings c.body-3.new.self.findings
    (kept c.in_ok-start.ensures (ap (λ x. x.0.0) all.ensures.0 ∙ ap (λ x. x.0) ends.ensures.0 ∙ two.ensures.0))
    (kept (ok_is _ c.condition.ensures two.ensures.1) (ap (λ x. x.0.1) all.ensures.0 ∙ ap (λ x. x.1) ends.ensures.0))
    (kept (ok_is _ c.body-2.ensures ends.ensures.1) (ap (λ x. x.1) all.ensures.0))
    (ok_is _ c.body-3.ensures all.ensures.1) in
    IfOk-weaker c.loop_of.result _ _ (λ v is. same ∙ ap (λ n. (n, c.body-3.new.self.findings)) (sym is)) c.loop_of.ensures

pub case_words-loop-pattern-preserved : goal.case_words-loop-pattern-preserved
case_words-loop-pattern-preserved t c =
    let l = c.loop-pattern in
    let pattern = word_at (level c.args.levels) c.args.base in
    let body = case_word (level c.args.levels) c.args.base in
    let a = c.in-Some.pattern.now in
    let b = c.in-Some.body.now in
    let behind = c.in-Some.behind.now in
    let both = c.in_ok-pattern-2 in
    let done : Cases = (nodes_view l.patterns.items, nodes_view l.bodies.items) in
    let all = in_turn pattern body (map word_view c.args.words.now) c.args.self.now.findings in
    cases_turn pattern body all done (word_view a) (word_view b) (map word_view behind) (node_view both.pattern) (node_view both.body)
    l.self.findings c.word.new.self.findings c.case_word-body.new.self.findings
    (l.invariant ∙ ap (λ ws. cases_then done (in_turn pattern body (map word_view ws) l.self.findings)) c.in-Some.ensures)
    (kept c.in_ok-pattern.ensures both.ensures.0)
    (ap (λ e. body e (word_view b) c.word.new.self.findings) (end_seen word_view behind c.is_empty.result c.is_empty.ensures) ∙ ok_is _ c.case_word-body.ensures both.ensures.1)
    ∙ ap₂ (λ x y. cases_then (x, y) (in_turn pattern body (map word_view behind) c.case_word-body.new.self.findings))
    (nodes_push l.patterns.items c.push.new.self.items both.pattern (pushed (l.patterns.items ++ both.pattern ∷ []) l.patterns.items c.push.ensures.items c.in_ok-body.ensures.1))
    (nodes_push l.bodies.items c.push-in-Some.new.self.items both.body (c.in_ok-push.ensures.items ∙ ap (λ n. l.bodies.items ++ n ∷ []) c.in_ok-body.ensures.0))

pub case_words-returns : goal.case_words-returns
case_words-returns t c =
    let l = c.loop-pattern in
    cases_end (word_at (level c.args.levels) c.args.base) (case_word (level c.args.levels) c.args.base)
    (in_turn (word_at (level c.args.levels) c.args.base) (case_word (level c.args.levels) c.args.base) (map word_view c.args.words.now) c.args.self.now.findings)
    (nodes_view l.patterns.items, nodes_view l.bodies.items) (map word_view l.left.now) l.self.findings
    (subst (λ n. n < 2) (sym (length-map l.left.now word_view)) c.in_default.ensures) l.invariant

pub listed-loop-pattern-preserved : goal.listed-loop-pattern-preserved
listed-loop-pattern-preserved t c =
    let l = c.loop-pattern in
    let body = case_item (level c.args.levels) c.args.place in
    let a = c.in-Some.pattern.now in
    let b = c.in-Some.body.now in
    let behind = c.in-Some.behind.now in
    let both = c.in_ok-pattern in
    let done : Cases = (nodes_view l.patterns.items, nodes_view l.bodies.items) in
    let all = listed (level c.args.levels) c.args.place c.args.items.now c.args.self.now.findings in
    cases_turn pattern_item body all done a b behind (plain a.text) (node_view both.body)
    l.self.findings l.self.findings c.case_item-body.new.self.findings
    (l.invariant ∙ ap (λ xs. cases_then done (in_turn pattern_item body xs l.self.findings)) c.in-Some.ensures)
    refl
    (ap (λ e. body e b l.self.findings) (end_told behind c.is_empty.result c.is_empty.ensures) ∙ ok_is _ c.case_item-body.ensures both.ensures.1)
    ∙ ap₂ (λ x y. cases_then (x, y) (in_turn pattern_item body behind c.case_item-body.new.self.findings))
    (ap (λ x. nodes_view l.patterns.items ++ x ∷ []) (ap plain (sym c.in_ok-copy.ensures) ∙ sym (view-Plain c.in_ok-copy.field-0) ∙ ap node_view (sym both.ensures.0))
    ∙ nodes_push l.patterns.items c.push.new.self.items both.pattern (pushed (l.patterns.items ++ both.pattern ∷ []) l.patterns.items c.push.ensures.items c.in_ok-body.ensures.1))
    (nodes_push l.bodies.items c.push-in-Some.new.self.items both.body (c.in_ok-push.ensures.items ∙ ap (λ n. l.bodies.items ++ n ∷ []) c.in_ok-body.ensures.0))

pub listed-returns : goal.listed-returns
listed-returns t c =
    let l = c.loop-pattern in
    cases_end pattern_item (case_item (level c.args.levels) c.args.place)
    (listed (level c.args.levels) c.args.place c.args.items.now c.args.self.now.findings)
    (nodes_view l.patterns.items, nodes_view l.bodies.items) l.left.now l.self.findings c.in_default.ensures l.invariant

pub catch-returns-in_ok-body-in-Some-name : goal.catch-returns-in_ok-body-in-Some-name
catch-returns-in_ok-body-in-Some-name t c =
    let inner = level c.args.levels in
    let s = c.args.self.now.findings in
    let both = c.in_ok-body-in-Some-name in
    let words = map word_view c.args.words.now in
    let form : catch_form words ≡ Some (word_view c.in-Some.body.now, Some (word_view c.in-Some-name.name.now)) =
    sym c.catch_form.ensures ∙ ap (option_map (λ r. (word_view r.0.now, option_map (λ w. word_view w.now) r.1))) c.in-Some.is
    ∙ ap (λ o. Some (word_view c.in-Some.body.now, option_map (λ w. word_view w.now) o)) c.in-Some-name.is in
    let made = catch_made inner c.args.base c.args.at words (word_view c.in-Some.body.now) (word_view c.in-Some-name.name.now) (node_view both.body) (node_view both.name)
    s c.body.new.self.findings c.word.new.self.findings form (kept c.in_ok-body.ensures both.ensures.0) (ok_is _ c.word.ensures both.ensures.1) in
    IfOk-weaker c.caught_in.result _ _ (λ v is. made ∙ ap (λ n. (n, c.word.new.self.findings)) (sym is)) c.caught_in.ensures
