use Rattle.std.proofs.Common.{◌≡◌, ◌-◌, sym, ap, subst, ◌∙◌, arith, true, false, rules}
use Rattle.std.specs.Prelude.{Ok, Err}
use Rattle.tcl_expr.specs.ExpressionReading.{and_then, closed_by, operand_at, row_at, enclosed_at, more_at}
use Rattle.tcl_expr.specs.ExpressionReading.{whole_at, row_of, prefixed_by}
use Rattle.tcl_expr.specs.Tokens.{white_end}
use Rattle.tcl_words.specs.Places.{stands}
use Rattle.tcl_words.specs.Skips.{turns}
use Rattle.tcl_expr.specs.ExpressionView.{expr_view, more_view, cases_view}
use Rattle.tcl_expr.specs.Outcome.{Reads}
use Rattle.tcl_expr.proofs.Places.{byte_within, variable_within}
use Rattle.tcl_expr.proofs.ReadingCases.{handed_on, enclosed_below, enclosed_deepest, row_tightest}
use Rattle.tcl_expr.proofs.ReadingCases.{first_faults, first_read, whole_faults, whole_read}
use Rattle.tcl_expr.proofs.PrefixTurns.{none_left}
use Rattle.tcl_expr.proofs.ReadingCases.{operand_between, operand_quoted, operand_braced, operand_bracket}
use Rattle.tcl_expr.proofs.ReadingCases.{operand_name, operand_variable, operand_literal}
use Rattle.tcl_expr.proofs.RowTurns.{seen_expr, seen_rest, MoreTo, more_begins, more_turn, more_ends, more_faults}
use Rattle.tcl_expr.proofs.RowTurns.{CasesTo, cases_begin, cases_turn, cases_end, condition_faults, value_faults}
use Rattle.tcl_expr.proofs.expr_rows.+expression.Goals as goal

pub enclosed-returns-then-room-eq0-clause-reads : goal.enclosed-returns-then-room-eq0-clause-reads
enclosed-returns-then-room-eq0-clause-reads t c =
    enclosed_deepest c.args.room c.args.text.now c.args.opener c.if-room-eq0.true

pub enclosed-returns-clause-reads : goal.enclosed-returns-clause-reads
enclosed-returns-clause-reads t c =
    let text = c.args.text.now in
    let same = enclosed_below c.args.room text c.args.opener (omega arith)
    ∙ ap (whole_at (c.args.room - 1) (enclosed_at (c.args.room - 1) text) text) (sym c.white_end.ensures.value) in
    subst (Reads expr_view c.whole.result) (sym same) c.whole.ensures.reads

pub operand-between-requires : goal.operand-between-requires
operand-between-requires t c = (omega arith, byte_within c.args.text.now c.args.at 40 (sym c.stands.ensures ∙ c.if-stands.true))

pub operand-returns-then-stands-clause-reads : goal.operand-returns-then-stands-clause-reads
operand-returns-then-stands-clause-reads t c =
    let text = c.args.text.now in
    subst (Reads expr_view c.between.result) (sym (operand_between c.args.room (enclosed_at c.args.room text) text c.args.at (sym c.stands.ensures ∙ c.if-stands.true)))
    c.between.ensures.reads

pub operand-quoted-requires : goal.operand-quoted-requires
operand-quoted-requires t c = byte_within c.args.text.now c.args.at 34 (sym c.stands-2.ensures ∙ c.if-stands-2.true)

pub operand-returns-then-stands-2-clause-reads : goal.operand-returns-then-stands-2-clause-reads
operand-returns-then-stands-2-clause-reads t c =
    let text = c.args.text.now in
    subst (Reads expr_view c.quoted.result) (sym (operand_quoted c.args.room (enclosed_at c.args.room text) text c.args.at (sym c.stands.ensures ∙ c.if-stands.false) (sym c.stands-2.ensures ∙ c.if-stands-2.true)))
    c.quoted.ensures.reads

pub operand-braced-requires : goal.operand-braced-requires
operand-braced-requires t c = byte_within c.args.text.now c.args.at 123 (sym c.stands-3.ensures ∙ c.if-stands-3.true)

pub operand-returns-then-stands-3-clause-reads : goal.operand-returns-then-stands-3-clause-reads
operand-returns-then-stands-3-clause-reads t c =
    let text = c.args.text.now in
    subst (Reads expr_view c.braced.result) (sym (operand_braced c.args.room (enclosed_at c.args.room text) text c.args.at (sym c.stands.ensures ∙ c.if-stands.false) (sym c.stands-2.ensures ∙ c.if-stands-2.false) (sym c.stands-3.ensures ∙ c.if-stands-3.true)))
    c.braced.ensures.reads

pub operand-bracket-requires : goal.operand-bracket-requires
operand-bracket-requires t c = byte_within c.args.text.now c.args.at 91 (sym c.stands-4.ensures ∙ c.if-stands-4.true)

pub operand-returns-then-stands-4-clause-reads : goal.operand-returns-then-stands-4-clause-reads
operand-returns-then-stands-4-clause-reads t c =
    let text = c.args.text.now in
    subst (Reads expr_view c.bracket.result) (sym (operand_bracket c.args.room (enclosed_at c.args.room text) text c.args.at (sym c.stands.ensures ∙ c.if-stands.false) (sym c.stands-2.ensures ∙ c.if-stands-2.false) (sym c.stands-3.ensures ∙ c.if-stands-3.false) (sym c.stands-4.ensures ∙ c.if-stands-4.true)))
    c.bracket.ensures.reads

pub operand-returns-then-opens_name-clause-reads : goal.operand-returns-then-opens_name-clause-reads
operand-returns-then-opens_name-clause-reads t c =
    let text = c.args.text.now in
    subst (Reads expr_view c.braced_name.result) (sym (operand_name c.args.room (enclosed_at c.args.room text) text c.args.at (sym c.stands.ensures ∙ c.if-stands.false) (sym c.stands-2.ensures ∙ c.if-stands-2.false) (sym c.stands-3.ensures ∙ c.if-stands-3.false) (sym c.stands-4.ensures ∙ c.if-stands-4.false) (sym c.opens_name.ensures ∙ c.if-opens_name.true)))
    c.braced_name.ensures.reads

pub operand-variable-requires : goal.operand-variable-requires
operand-variable-requires t c = variable_within c.args.text.now c.args.at (sym c.starts_variable.ensures ∙ c.if-starts_variable.true)

pub operand-returns-then-starts_variable-clause-reads : goal.operand-returns-then-starts_variable-clause-reads
operand-returns-then-starts_variable-clause-reads t c =
    let text = c.args.text.now in
    subst (Reads expr_view c.variable.result) (sym (operand_variable c.args.room (enclosed_at c.args.room text) text c.args.at (sym c.stands.ensures ∙ c.if-stands.false) (sym c.stands-2.ensures ∙ c.if-stands-2.false) (sym c.stands-3.ensures ∙ c.if-stands-3.false) (sym c.stands-4.ensures ∙ c.if-stands-4.false) (sym c.opens_name.ensures ∙ c.if-opens_name.false) (sym c.starts_variable.ensures ∙ c.if-starts_variable.true)))
    c.variable.ensures.reads

pub operand-returns-clause-reads : goal.operand-returns-clause-reads
operand-returns-clause-reads t c =
    let text = c.args.text.now in
    subst (Reads expr_view c.literal.result) (sym (operand_literal c.args.room (enclosed_at c.args.room text) text c.args.at (sym c.stands.ensures ∙ c.if-stands.false) (sym c.stands-2.ensures ∙ c.if-stands-2.false) (sym c.stands-3.ensures ∙ c.if-stands-3.false) (sym c.stands-4.ensures ∙ c.if-stands-4.false) (sym c.opens_name.ensures ∙ c.if-opens_name.false) (sym c.starts_variable.ensures ∙ c.if-starts_variable.false)))
    c.literal.ensures.reads

pub rest-loop-joint-init : goal.rest-loop-joint-init
rest-loop-joint-init t c = record {
  so_far = subst (λ l. MoreTo c.args.row_number (row_at (c.args.row_number - 1) (operand_at c.args.room (enclosed_at c.args.room c.args.text.now) c.args.text.now) c.args.text.now) c.args.text.now c.args.start l c.args.start) (sym c.new-rest.ensures.items) (more_begins _ _ _ _);
  within = c.requires.within;
  onward = omega arith;
}

pub rest-returns-in_err-operand-clause-reads : goal.rest-returns-in_err-operand-clause-reads
rest-returns-in_err-operand-clause-reads t c =
    let text = c.args.text.now in
    let tighter = row_at (c.args.row_number - 1) (operand_at c.args.room (enclosed_at c.args.room text) text) text in
    let given = subst (λ k. Reads expr_view (Err c.in_err-operand.field-0.0) (tighter k)) c.white_end.ensures.value c.in_err-operand.ensures.reads in
    handed_on seen_expr seen_rest c.in_err-operand.field-0.0 (tighter (white_end text c.in-Some.end)) (more_at c.args.row_number tighter text (turns text) c.args.start) c.from_residual.result c.from_residual.ensures
    (λ f faulty. more_faults c.args.row_number tighter text c.args.start c.loop-joint.at c.loop-joint.rest.items c.in-Some.joint c.in-Some.end f c.loop-joint.invariant.within (sym c.in-Some.ensures.value) faulty c.loop-joint.invariant.so_far)
    given

pub rest-loop-joint-preserved : goal.rest-loop-joint-preserved
rest-loop-joint-preserved t c =
    let text = c.args.text.now in
    let tighter = row_at (c.args.row_number - 1) (operand_at c.args.room (enclosed_at c.args.room text) text) text in
    let read : tighter (white_end text c.in-Some.end) ≡ Ok (expr_view c.in_ok-operand.operand, c.in_ok-operand.next) = ap tighter (sym c.white_end.ensures.value) ∙ c.in_ok-operand.ensures.reads in
    let turned = more_turn c.args.row_number tighter text c.args.start c.loop-joint.at c.loop-joint.rest.items c.in-Some.joint c.in-Some.end c.in_ok-operand.operand c.in_ok-operand.next c.loop-joint.invariant.within (sym c.in-Some.ensures.value) read
    (omega (arith, c.in-Some.ensures.onward, c.white_end.ensures.onward, c.in_ok-operand.ensures.onward)) c.loop-joint.invariant.so_far in
    record {
      so_far = subst (λ l. MoreTo c.args.row_number tighter text c.args.start l c.in_ok-operand.next) (sym c.in_ok-push.ensures.items) turned;
      within = c.in_ok-operand.ensures.within;
      onward = omega (arith, c.loop-joint.invariant.onward, c.in-Some.ensures.onward, c.white_end.ensures.onward, c.in_ok-operand.ensures.onward);
    }

pub rest-returns-clause-reads : goal.rest-returns-clause-reads
rest-returns-clause-reads t c =
    let text = c.args.text.now in
    more_ends c.args.row_number (row_at (c.args.row_number - 1) (operand_at c.args.room (enclosed_at c.args.room text) text) text) text c.args.start c.loop-joint.at c.loop-joint.rest.items
    (sym c.joint_at.ensures.value ∙ none_left c.joint_at.result c.in_default.not-Some) c.loop-joint.invariant.so_far

pub row-returns-then-row_number-eq0-clause-reads : goal.row-returns-then-row_number-eq0-clause-reads
row-returns-then-row_number-eq0-clause-reads t c =
    let text = c.args.text.now in
    subst (Reads expr_view c.operand.result) (sym (row_tightest (operand_at c.args.room (enclosed_at c.args.room text) text) text c.args.row_number c.args.at c.if-row_number-eq0.true))
    c.operand.ensures.reads

pub row-returns-in_err-first-clause-reads : goal.row-returns-in_err-first-clause-reads
row-returns-in_err-first-clause-reads t c =
    let text = c.args.text.now in
    let operand = (operand_at c.args.room (enclosed_at c.args.room text) text) in
    handed_on seen_expr seen_expr c.in_err-first.field-0.0 (row_at (c.args.row_number - 1) operand text c.in_ok-operators.start) (row_at c.args.row_number operand text c.args.at) c.from_residual-in_err-first.result c.from_residual-in_err-first.ensures
    (λ f faulty. first_faults operand text c.args.row_number c.args.at c.in_ok-operators.operators.items c.in_ok-operators.start f (omega arith) c.in_ok-operators.ensures.value faulty)
    c.in_err-first.ensures.reads

pub row-returns-in_err-rest-clause-reads : goal.row-returns-in_err-rest-clause-reads
row-returns-in_err-rest-clause-reads t c =
    let text = c.args.text.now in
    let operand = (operand_at c.args.room (enclosed_at c.args.room text) text) in
    let tighter = row_at (c.args.row_number - 1) operand text in
    let ops = c.in_ok-operators.operators.items in
    let first = expr_view c.in_ok-first.first in
    handed_on seen_rest seen_expr c.in_err-rest.field-0.0 (more_at c.args.row_number tighter text (turns text) c.in_ok-first.mid) (row_at c.args.row_number operand text c.args.at) c.from_residual-in_err-rest.result c.from_residual-in_err-rest.ensures
    (λ f faulty. first_read operand text c.args.row_number c.args.at ops c.in_ok-operators.start first c.in_ok-first.mid (omega arith) c.in_ok-operators.ensures.value c.in_ok-first.ensures.reads
    ∙ ap (λ r. and_then r (λ rest end. Ok (row_of (prefixed_by ops first) rest, end))) faulty)
    c.in_err-rest.ensures.reads

pub row-returns-clause-reads : goal.row-returns-clause-reads
row-returns-clause-reads t c =
    let text = c.args.text.now in
    let operand = (operand_at c.args.room (enclosed_at c.args.room text) text) in
    let ops = c.in_ok-operators.operators.items in
    let first = expr_view c.in_ok-first.first in
    let rest = more_view c.in_ok-rest.rest.items in
    first_read operand text c.args.row_number c.args.at ops c.in_ok-operators.start first c.in_ok-first.mid (omega arith) c.in_ok-operators.ensures.value c.in_ok-first.ensures.reads
    ∙ ap (λ r. and_then r (λ rest end. Ok (row_of (prefixed_by ops first) rest, end))) c.in_ok-rest.ensures.reads
    ∙ ap (λ e. Ok (e, c.in_ok-rest.end)) (ap (λ e. row_of e rest) (sym c.in_ok-first-2.ensures.value) ∙ sym c.in_ok-joined.ensures.value)

pub whole-loop-cases-init : goal.whole-loop-cases-init
whole-loop-cases-init t c = record {
  so_far = subst (λ l. CasesTo (enclosed_at c.args.room c.args.text.now) (row_at 13 (operand_at c.args.room (enclosed_at c.args.room c.args.text.now) c.args.text.now) c.args.text.now) c.args.text.now c.args.start l c.args.start) (sym c.new-cases.ensures.items) (cases_begin _ _ _ _);
  within = c.requires;
  onward = omega arith;
}

pub whole-returns-in_err-condition-clause-reads : goal.whole-returns-in_err-condition-clause-reads
whole-returns-in_err-condition-clause-reads t c =
    let text = c.args.text.now in
    let enclosed = enclosed_at c.args.room text in
    let condition = row_at 13 (operand_at c.args.room (enclosed_at c.args.room text) text) text in
    handed_on seen_expr seen_expr c.in_err-condition.field-0.0 (condition c.loop-cases.at) (whole_at c.args.room enclosed text c.args.start) c.from_residual.result c.from_residual.ensures
    (λ f faulty. whole_faults c.args.room enclosed text c.args.start f (condition_faults enclosed condition text c.args.start c.loop-cases.at c.loop-cases.cases.items f c.loop-cases.invariant.within faulty c.loop-cases.invariant.so_far))
    c.in_err-condition.ensures.reads

pub whole-returns-then-not-stands-clause-reads : goal.whole-returns-then-not-stands-clause-reads
whole-returns-then-not-stands-clause-reads t c =
    let text = c.args.text.now in
    let enclosed = enclosed_at c.args.room text in
    let condition = row_at 13 (operand_at c.args.room (enclosed_at c.args.room text) text) text in
    let ends : stands text c.in_ok-condition.end 63 ≡ false = sym c.stands.ensures ∙ search rules in
    whole_read c.args.room enclosed text c.args.start (cases_view c.loop-cases.cases.items) (expr_view c.in_ok-condition.condition) c.in_ok-condition.end
    (cases_end enclosed condition text c.args.start c.loop-cases.at c.loop-cases.cases.items c.in_ok-condition.condition c.in_ok-condition.end c.loop-cases.invariant.within c.in_ok-condition.ensures.reads ends c.loop-cases.invariant.so_far)
    ∙ ap (λ e. Ok (e, c.in_ok-condition.end)) (sym c.in_ok-chosen.ensures.value)

pub whole-between-requires : goal.whole-between-requires
whole-between-requires t c =
    let asks : stands c.args.text.now c.in_ok-condition.end 63 ≡ true = sym c.stands.ensures ∙ search rules in
    (omega arith, byte_within c.args.text.now c.in_ok-condition.end 63 asks)

pub whole-returns-in_err-value-clause-reads : goal.whole-returns-in_err-value-clause-reads
whole-returns-in_err-value-clause-reads t c =
    let text = c.args.text.now in
    let enclosed = enclosed_at c.args.room text in
    let condition = row_at 13 (operand_at c.args.room (enclosed_at c.args.room text) text) text in
    let asks : stands text c.in_ok-condition.end 63 ≡ true = sym c.stands.ensures ∙ search rules in
    handed_on seen_expr seen_expr c.in_err-value.field-0.0 (and_then (enclosed c.in_ok-condition.end) (closed_by 58 text)) (whole_at c.args.room enclosed text c.args.start) c.from_residual-in_err-value.result c.from_residual-in_err-value.ensures
    (λ f faulty. whole_faults c.args.room enclosed text c.args.start f (value_faults enclosed condition text c.args.start c.loop-cases.at c.loop-cases.cases.items (expr_view c.in_ok-condition.condition) c.in_ok-condition.end f c.loop-cases.invariant.within c.in_ok-condition.ensures.reads asks faulty c.loop-cases.invariant.so_far))
    c.in_err-value.ensures.reads

pub whole-loop-cases-preserved : goal.whole-loop-cases-preserved
whole-loop-cases-preserved t c =
    let text = c.args.text.now in
    let enclosed = enclosed_at c.args.room text in
    let condition = row_at 13 (operand_at c.args.room (enclosed_at c.args.room text) text) text in
    let asks : stands text c.in_ok-condition.end 63 ≡ true = sym c.stands.ensures ∙ search rules in
    let turned = cases_turn enclosed condition text c.args.start c.loop-cases.at c.loop-cases.cases.items c.in_ok-condition.condition c.in_ok-condition.end c.in_ok-value.value c.in_ok-value.next c.loop-cases.invariant.within c.in_ok-condition.ensures.reads asks c.in_ok-value.ensures.reads
    (omega (arith, c.in_ok-condition.ensures.onward, c.in_ok-value.ensures.onward)) c.loop-cases.invariant.so_far in
    record {
      so_far = subst (λ l. CasesTo enclosed condition text c.args.start l c.in_ok-value.next) (sym c.in_ok-push.ensures.items) turned;
      within = c.in_ok-value.ensures.within;
      onward = omega (arith, c.loop-cases.invariant.onward, c.in_ok-condition.ensures.onward, c.in_ok-value.ensures.onward);
    }
