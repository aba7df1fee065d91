use Rattle.std.proofs.Common.{ap, ◌∙◌}
use Rattle.toml.proofs.Views.{items_view-push}
use Rattle.toml.specs.View.{items_view}
use Rattle.tmsh_read.proofs.tables.add.Goals as goal

pub returns : goal.returns
returns c = ap items_view c.in_ok-push.ensures.items ∙ items_view-push c.args.array.now.items c.args.value
