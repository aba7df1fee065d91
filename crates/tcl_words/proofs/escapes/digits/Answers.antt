use Rattle.std.proofs.Common.{◌-◌, ◌+◌, sym, ap, ◌∙◌, arith}
use Rattle.tcl_words.specs.Escapes.{digits}
use Rattle.tcl_words.proofs.Runs.{digit_within, digits_stop, digits_none, digits_more}
use Rattle.tcl_words.proofs.escapes.digits.Goals as goal

pub bounds-text-at : goal.bounds-text-at
bounds-text-at c =
    digit_within c.args.base c.args.text.now c.loop-left.at (sym c.is_digit.ensures ∙ c.if-is_digit.true)

pub loop-left-preserved : goal.loop-left-preserved
loop-left-preserved c =
    let l = c.loop-left in
    let here = sym c.is_digit.ensures ∙ c.if-is_digit.true in
    let more = digit_within c.args.base c.args.text.now l.at here in
    record {
      so_far = l.invariant.so_far
          ∙ digits_more c.args.base c.args.text.now l.left l.at l.number (omega arith) here
          ∙ ap (digits c.args.base c.args.text.now (l.left - 1) (l.at + 1))
          (sym c.with_digit-number.ensures);
      within = omega arith;
      onward = omega (arith, l.invariant.onward);
    }

pub returns-else-is_digit-clause-value : goal.returns-else-is_digit-clause-value
returns-else-is_digit-clause-value c =
    let l = c.loop-left in
    sym (l.invariant.so_far
    ∙ digits_stop c.args.base c.args.text.now l.left l.at l.number
    (sym c.is_digit.ensures ∙ c.if-is_digit.false))

pub returns-after-loop-left-clause-value : goal.returns-after-loop-left-clause-value
returns-after-loop-left-clause-value c =
    let l = c.loop-left in
    sym (l.invariant.so_far
    ∙ digits_none c.args.base c.args.text.now l.left l.at l.number (omega arith))
