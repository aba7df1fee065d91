use Rattle.std.proofs.Common.{◌≡◌, codes, take}
use Rattle.http_frames.specs.Bodies.{coding_of, values}
use Rattle.http_frames.proofs.body.coding_of.Given as goal

abbrev pub invariant-loop-field : goal.invariant-loop-field
invariant-loop-field l = l.coding ≡ coding_of (values (codes "transfer-encoding") (take l.field-index l.fields))
