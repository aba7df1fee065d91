use Rattle.std.proofs.Common.{sym, arith, ap, ◌∙◌}
use Rattle.std.proofs.lemmas.List.{take_rest}
use Rattle.http_heads.specs.Fronts.{begins_blank}
use Rattle.http_heads.proofs.LookedHeads.{all_blank, blank_on, blank_end}
use Rattle.http_heads.proofs.front.blank_length.Goals as goal

pub loop-line-init : goal.loop-line-init
loop-line-init c = record { inside = c.requires.inside; ahead = omega arith; rest = c.requires.blank }

pub slice_bounds-begins_blank-count : goal.slice_bounds-begins_blank-count
slice_bounds-begins_blank-count c = c.loop-line.invariant.inside

pub returns-then-not-begins_blank-clause-value : goal.returns-then-not-begins_blank-clause-value
returns-then-not-begins_blank-clause-value c =
    let rest = take_rest c.args.text.now c.loop-line.blank in
    blank_end c.loop-line.invariant (sym (c.begins_blank.ensures ∙ ap begins_blank rest) ∙ c.if-not-begins_blank.true)

pub loop-line-preserved : goal.loop-line-preserved
loop-line-preserved c =
    let rest = take_rest c.args.text.now c.loop-line.blank in
    blank_on c.loop-line.invariant (sym (c.begins_blank.ensures ∙ ap begins_blank rest) ∙ c.if-not-begins_blank.false)

pub returns-clause-value : goal.returns-clause-value
returns-clause-value c = all_blank c.loop-line.invariant (omega (arith, c.loop-line-test.false))
