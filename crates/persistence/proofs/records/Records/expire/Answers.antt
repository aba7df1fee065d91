use Rattle.std.proofs.Common.{ap, ◌∙◌, rules}
use Rattle.std.proofs.lemmas.Fn.{filter_same}
use Rattle.persistence.specs.Records.{is_live, live}
use Rattle.persistence.proofs.records.Records.expire.Goals as goal

pub returns : goal.returns
returns c =
    filter_same _ (is_live c.args.moment) _ (λ x b f k. search rules) _ _ c.retain.ensures.filtered
    ∙ ap (live c.args.moment) c.self.view_is
