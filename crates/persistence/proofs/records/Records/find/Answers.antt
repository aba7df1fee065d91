use Rattle.std.proofs.Common.{ap, get_or, ◌∙◌}
use Rattle.persistence.proofs.Places.{member_at, no_member}
use Rattle.persistence.proofs.records.Records.find.Goals as goal

pub returns-in_err-at : goal.returns-in_err-at
returns-in_err-at c = c.from_residual.ensures ∙ no_member _ _ c.args.self.now c.in_err-at.ensures.place

pub returns : goal.returns
returns c =
    member_at {at = c.in_ok-at.at} (record {
      found = c.in_ok-at.ensures.place;
      inside = c.in_ok-at.ensures.inside;
      is = c.index.ensures ∙ ap (λ rs. get_or rs c.in_ok-at.at c.index.result.now) c.self.view_is;
    })
