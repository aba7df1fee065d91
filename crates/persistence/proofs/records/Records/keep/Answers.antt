use Rattle.std.proofs.Common.{ap, get_or, length, ◌++◌, ◌∷◌, [], ◌∙◌, arith}
use Rattle.std.proofs.Math.ListN.{set}
use Rattle.persistence.proofs.Places.{added, full, replaced_at}
use Rattle.persistence.proofs.records.Records.keep.Goals as goal

pub returns-in-Some-clause-ok : goal.returns-in-Some-clause-ok
returns-in-Some-clause-ok c =
    ap (λ rs. set rs c.in-Some.at c.args.chosen) c.self.view_is
    ∙ replaced_at c.args.chosen c.args.self.now (record {
      found = c.in-Some.ensures.place;
      inside = c.in-Some.ensures.inside;
      is = c.index_mut.ensures.value ∙ ap (λ rs. get_or rs c.in-Some.at c.index_mut.result.now) c.self.view_is;
    })

pub returns-in_ok-push-in-None-clause-ok : goal.returns-in_ok-push-in-None-clause-ok
returns-in_ok-push-in-None-clause-ok c =
    c.in_ok-push-in-None.ensures.items
    ∙ ap (λ rs. rs ++ c.args.chosen ∷ []) c.self.view_is
    ∙ added c.args.chosen c.args.self.now c.in-None.ensures.place
    (omega (arith, c.if-len-lt-RECORD_LIMIT.true, c.len.ensures, ap (λ rs. length rs) c.self.view_is))

pub returns-else-len-lt-RECORD_LIMIT-clause-ok : goal.returns-else-len-lt-RECORD_LIMIT-clause-ok
returns-else-len-lt-RECORD_LIMIT-clause-ok c =
    full c.args.chosen c.args.self.now c.in-None.ensures.place
    (omega (arith, c.if-len-lt-RECORD_LIMIT.false, c.len.ensures, ap (λ rs. length rs) c.self.view_is))
