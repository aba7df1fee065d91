use Rattle.std.proofs.Common.{◌∙◌, ap}
use Rattle.number_table.specs.Table.{place_in}
use Rattle.proxy_core.proofs.Places.{placed}
use Rattle.proxy_core.proofs.ring.find.Goals as goal

pub returns-clause-place : goal.returns-clause-place
returns-clause-place c = c.place.ensures.place ∙ ap (λ k. place_in k c.args.number) c.requires ∙ placed c.args.number c.args.live.now.items
