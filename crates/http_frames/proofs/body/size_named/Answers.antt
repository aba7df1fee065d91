use Rattle.std.proofs.Common.{sym, ◌∙◌}
use Rattle.http_frames.proofs.Sizes.{is_small}
use Rattle.http_frames.proofs.body.size_named.Goals as goal

pub number_of-requires-clause-digits : goal.number_of-requires-clause-digits
number_of-requires-clause-digits c = (is_small c.args.value.now (sym c.is_size.ensures ∙ c.if-is_size.true)).digits

pub number_of-requires-clause-small : goal.number_of-requires-clause-small
number_of-requires-clause-small c = (is_small c.args.value.now (sym c.is_size.ensures ∙ c.if-is_size.true)).small
