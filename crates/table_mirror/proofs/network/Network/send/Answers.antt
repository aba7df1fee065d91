use Rattle.std.proofs.Common.{◌≡◌, ◌∙◌, sym}
use Rattle.table_mirror.proofs.Offering.{none_offered}
use Rattle.table_mirror.proofs.network.Network.send.Goals as goal

pub returns-in_default : goal.returns-in_default
returns-in_default c = λ limit entries w s. none_offered limit entries c.args.self.now c.args.at (sym c.offer.ensures ∙ c.in_default.is) w s
