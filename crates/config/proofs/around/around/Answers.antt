use Rattle.config.proofs.Marks.{rest_behind}
use Rattle.config.proofs.around.around.Goals as goal

pub returns-in-len1-up-clause-after : goal.returns-in-len1-up-clause-after
returns-in-len1-up-clause-after c = rest_behind c.args.text.now c.place-at.result _ c.place-at.ensures.first
