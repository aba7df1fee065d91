use Rattle.std.proofs.Common.{codes, ◌∙◌, arith}
use Rattle.http_frames.specs.Bodies.{coding_of, coding_with}
use Rattle.http_frames.proofs.Snocs.{coding_more, next}
use Rattle.http_frames.proofs.body.coding_of.Goals as goal

pub loop-field-preserved : goal.loop-field-preserved
loop-field-preserved c =
    c.coding_after-coding.ensures ∙ next coding_of coding_with coding_more (codes "transfer-encoding") c.args.fields.now c.loop-field.field-index c.field-item.result
    (omega arith) c.field-item.is c.loop-field.coding c.loop-field.invariant
