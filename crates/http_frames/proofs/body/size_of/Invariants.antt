use Rattle.std.proofs.Common.{◌≡◌, codes, take}
use Rattle.http_frames.specs.Bodies.{size_of, values}
use Rattle.http_frames.proofs.body.size_of.Given as goal

abbrev pub invariant-loop-field : goal.invariant-loop-field
invariant-loop-field l = l.size ≡ size_of (values (codes "content-length") (take l.field-index l.fields))
