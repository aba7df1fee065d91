use Rattle.std.proofs.Common.{ap, arith, sym}
use Rattle.std.proofs.lemmas.List.Sums.{position_or_len_is}
use Rattle.text_places.specs.Places.{is_newline}
use Rattle.text_places.proofs.place.line_len.Goals as goal

pub returns-else-rest-len-ne10 : goal.returns-else-rest-len-ne10
returns-else-rest-len-ne10 c =
    sym (position_or_len_is is_newline c.args.rest.now c.loop-len.len 0 c.loop-len.invariant.within c.loop-len.invariant.none (λ here. ap is_newline c.if-rest-len-ne10.false))

pub returns-after-loop-len : goal.returns-after-loop-len
returns-after-loop-len c =
    sym (position_or_len_is is_newline c.args.rest.now c.loop-len.len 0 c.loop-len.invariant.within c.loop-len.invariant.none (λ here. absurd (omega (arith, here, c.loop-len-test.false))))
