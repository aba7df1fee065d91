use Rattle.std.proofs.Common.{arith, sym}
use Rattle.std.proofs.lemmas.List.{length-take, take_all}
use Rattle.http_heads.specs.Fronts.{head_limit}
use Rattle.http_heads.proofs.front.front_of.Goals as goal

pub returns-then-unread-le-MOST_BYTES : goal.returns-then-unread-le-MOST_BYTES
returns-then-unread-le-MOST_BYTES c = sym (take_all head_limit c.args.unread.now (omega (arith, c.if-unread-le-MOST_BYTES.true)))

pub slice_bounds-result-end : goal.slice_bounds-result-end
slice_bounds-result-end c = omega (arith, c.if-unread-le-MOST_BYTES.false, length-take head_limit c.args.unread.now)
