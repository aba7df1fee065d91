use Rattle.std.proofs.Common.{◌∙◌}
use Rattle.tcl_expr.proofs.TextTests.{finds_part}
use Rattle.pool_monitor.proofs.exchange.contains.Goals as goal

pub returns : goal.returns
returns c = c.is_some.ensures ∙ finds_part c.args.text.now c.args.part.now c.find.result c.find.ensures
