use Rattle.std.proofs.Common.{sym, subst}
use Rattle.http_heads.specs.Fronts.{WereLooked}
use Rattle.http_heads.proofs.LookedHeads.{none_were}
use Rattle.conn.proofs.unread.before_head.Goals as goal

pub returns-in-Nothing : goal.returns-in-Nothing
returns-in-Nothing c = subst (λ x. WereLooked x c.args.held.now) (sym c.nothing.ensures) (none_were c.args.held.now)
