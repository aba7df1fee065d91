use Rattle.std.proofs.Common.{◌∙◌, ◌+◌, ◌<◌, ap, sym, subst, arith, take}
use Rattle.std.specs.Prelude.{IfSome}
use Rattle.http_heads.specs.Fields.{last_place}
use Rattle.http_heads.proofs.LastFields.{last_more, with_more, still_within}
use Rattle.http_heads.proofs.fields.Fields.last_place.Goals.{then-is_named, else-is_named}
use Rattle.http_heads.proofs.fields.Fields.last_place.Goals as goal

pub loop-at-preserved : goal.loop-at-preserved
loop-at-preserved c =
    let fs = c.self.inside.list.items in
    let at = c.loop-at.at in
    let before = last_place c.args.name.now (take at fs) in
    let more = last_more c.args.name.now fs at c.index.result.now (omega arith) c.index.ensures in
    elim c.if-is_named.branch [
      | then-is_named w ↦ (
        w.last-is ∙ sym (more ∙ ap (λ b. with_more at b before) (sym c.is_named.ensures ∙ w.if-is_named.true)),
        subst (λ o. IfSome o (λ place. place < at + 1)) (sym w.last-is) (omega arith),
      )
      | else-is_named w ↦ (
        w.last-is ∙ c.loop-at.invariant.0 ∙ sym (more ∙ ap (λ b. with_more at b before) (sym c.is_named.ensures ∙ w.if-is_named.false)),
        subst (λ o. IfSome o (λ place. place < at + 1)) (sym w.last-is) (still_within c.loop-at.last at c.loop-at.invariant.1),
      )
    ]
