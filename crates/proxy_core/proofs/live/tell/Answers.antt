use Rattle.std.proofs.Common.{refl, ap, ◌∙◌, inl, arith, length, length-append}
use Rattle.core_events.specs.Edges.{edges_noted}
use Rattle.conn.specs.Settling.{settle_notes}
use Rattle.conn.specs.Stages.{has_finished}
use Rattle.proxy_core.proofs.Coming.{ends_edges, few_settled}
use Rattle.proxy_core.proofs.live.tell.Goals as goal

pub returns-in-Ok-clause-comes : goal.returns-in-Ok-clause-comes
returns-in-Ok-clause-comes c =
    let old = c.args.conn.now in
    let mid = c.hear.new.conn in
    let hears = c.in-Ok.ensures.hears in
    let notes = settle_notes c.args.number mid in (
      notes,
      c.settle.ensures.noted,
      inl (record { mid = mid; hears = hears; settles = c.settle.ensures.settles; told = c.settle.ensures.told; over_is = c.settle.ensures.over; notes = refl; is = c.settle.ensures.ends }),
      ap (λ x. x.ends.edges) c.settle.ensures.ends ∙ ap (λ x. edges_noted notes x.ends.edges) hears.is ∙ ap (edges_noted notes) (ends_edges c.args.input.now (has_finished old.stage) old.ends),
    )

pub returns-in-Ok-clause-few_notes : goal.returns-in-Ok-clause-few_notes
returns-in-Ok-clause-few_notes c =
    let mid = c.hear.new.conn in
    let noted = ap length c.settle.ensures.noted ∙ length-append c.args.notes.now.items (settle_notes c.args.number mid) in
    let few = few_settled c.args.number mid in
    omega (arith, noted, few)
