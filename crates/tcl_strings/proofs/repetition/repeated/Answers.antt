use Rattle.std.proofs.Common.{◌++◌, ap, sym, ◌∙◌, arith}
use Rattle.std.proofs.lemmas.Bool.Decides.{nat_tests}
use Rattle.tcl_strings.proofs.Repeats.{nothing_repeated, repeat_more}
use Rattle.tcl_strings.proofs.repetition.repeated.Goals as goal

pub returns-then-is_empty : goal.returns-then-is_empty
returns-then-is_empty c =
    c.from_vec.ensures ∙ c.in_ok-out.ensures.items ∙ nothing_repeated c.args.count c.args.text.now (grind (arith, nat_tests))

pub loop-preserved : goal.loop-preserved
loop-preserved c =
    c.in_ok-extend_from_slice.ensures.items ∙ ap (λ t. t ++ c.args.text.now) c.loop.invariant ∙ sym (repeat_more c.loop.counter c.args.text.now)
