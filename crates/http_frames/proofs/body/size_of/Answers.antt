use Rattle.std.proofs.Common.{codes, ◌∙◌, arith}
use Rattle.http_frames.specs.Bodies.{size_of, size_with}
use Rattle.http_frames.proofs.Snocs.{size_more, next}
use Rattle.http_frames.proofs.body.size_of.Goals as goal

pub loop-field-preserved : goal.loop-field-preserved
loop-field-preserved c =
    c.size_after-size.ensures ∙ next size_of size_with size_more (codes "content-length") c.args.fields.now c.loop-field.field-index c.field-item.result
    (omega arith) c.field-item.is c.loop-field.size c.loop-field.invariant
